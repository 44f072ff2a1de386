use Rattle.std.proofs.Common.{◌-◌}
use Rattle.column_check.specs.Tests.{walk, reaches}
use Rattle.column_check.proofs.Loops.{Walks}
use Rattle.column_check.proofs.column.children_ok.Given as goal

abbrev pub invariant-loop-k : goal.invariant-loop-k
invariant-loop-k l =
    Walks (reaches l.rows) l.records l.k l.end (walk (l.end - l.from) (reaches l.rows) l.records l.from l.end)

abbrev pub decreases-loop-k : goal.decreases-loop-k
decreases-loop-k l = l.end - l.k
