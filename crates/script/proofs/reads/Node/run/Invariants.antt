use Rattle.std.proofs.Common.{◌-◌, ◌≤◌}
use Rattle.script.proofs.reads.Node.run.Given as goal

abbrev pub invariant-loop-low : goal.invariant-loop-low
invariant-loop-low l = l.high ≤ l.self.record.count

abbrev pub decreases-loop-low : goal.decreases-loop-low
decreases-loop-low l = l.high - l.low
