use Rattle.interning.proofs.interning_right.Goals as goal
use Rattle.interning.proofs.Runs.{interned}

pub returns : goal.returns
returns c = interned
