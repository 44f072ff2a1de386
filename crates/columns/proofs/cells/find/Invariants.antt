use Rattle.columns.proofs.Ways.{Way}
use Rattle.columns.proofs.cells.find.Given as goal

abbrev pub invariant-loop-r : goal.invariant-loop-r
invariant-loop-r l = Way l.column.bytes.now l.column.records.now l.column.place l.row l.r-index l.i
