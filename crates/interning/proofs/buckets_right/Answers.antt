use Rattle.interning.proofs.buckets_right.Goals as goal
use Rattle.interning.proofs.Buckets.{buckets}

pub returns : goal.returns
returns c = buckets
