use Rattle.column_check.proofs.Passed.{passed}
use Rattle.dictionary.proofs.Checks.{taken_piece}
use Rattle.dictionary.proofs.piece.dictionary_piece.Goals as goal

pub returns : goal.returns
returns c =
    let p = passed c.in_ok-column.column c.args.bytes.now c.args.records.now c.args.stretch.place c.root-keys.result c.in_ok-column.ensures c.root-keys.ensures.is in
    let entries = rw c.in_ok-column.ensures.1.1 at c.record_at-entries.ensures in
    taken_piece c.args.bytes.now c.args.records.now c.args.stretch.place c.args.stretch.first c.args.stretch.rows _ _ _ p.unbroken p.root entries c.windowed.ensures
    c.if-is_outside.ensures c.if-not-is_leafed.ensures
