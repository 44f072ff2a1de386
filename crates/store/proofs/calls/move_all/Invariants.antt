use Rattle.std.proofs.Common.{◌≡◌, ◌++◌, map, take, drop}
use Rattle.format.specs.Moves.{moved}
use Rattle.store.proofs.calls.move_all.Given as goal

abbrev pub invariant-loop-r : goal.invariant-loop-r
invariant-loop-r l = l.records ≡ map (moved l.d) (take l.r-index l.initial.records) ++ drop l.r-index l.initial.records
