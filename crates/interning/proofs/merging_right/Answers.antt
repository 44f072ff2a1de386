use Rattle.interning.proofs.merging_right.Goals as goal
use Rattle.interning.proofs.Merges.{merged}

pub returns : goal.returns
returns c = merged
