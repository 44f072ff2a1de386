use Rattle.std.proofs.Common.{get_or, arith}
use Rattle.std.proofs.lemmas.List.{get_or_default}
use Rattle.std.proofs.lemmas.List.Edits.{map_over_more}
use Rattle.format.specs.Trees.{nothing}
use Rattle.format.specs.Moves.{moved}
use Rattle.store.proofs.calls.move_all.Goals as goal

pub loop-r-preserved : goal.loop-r-preserved
loop-r-preserved c =
    let step = map_over_more (moved c.args.d) c.args.records.now c.loop-r.records c.loop-r.r-index (get_or c.loop-r.records c.loop-r.r-index nothing) (omega arith) c.loop-r.invariant (get_or_default c.loop-r.records c.loop-r.r-index nothing _ (omega arith)) in
    cc
