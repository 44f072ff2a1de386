use Rattle.std.proofs.Common.{sym}
use Rattle.columns.proofs.Ways.{item, way_starts, way_reads, way_goes}
use Rattle.columns.proofs.cells.find.Goals as goal

pub loop-r-init : goal.loop-r-init
loop-r-init c = way_starts _ _ _ c.args.column.now.well _ c.requires.low

pub of_row-requires : goal.of_row-requires
of_row-requires c =
    rw (item c.args.column.now.records.now c.args.column.now.place c.loop-r.r-index)
    (way_reads _ _ _ c.args.column.now.well _ _ _ c.loop-r.invariant)

pub loop-r-preserved : goal.loop-r-preserved
loop-r-preserved c =
    let s = rw (c.of_row.ensures.bytes, c.of_row.ensures.r, c.of_row.ensures.j, item c.args.column.now.records.now c.args.column.now.place c.loop-r.r-index) at (sym c.in-Continue.ensures) in
    way_goes _ _ _ c.args.column.now.well _ _ _ c.loop-r.invariant _ s
