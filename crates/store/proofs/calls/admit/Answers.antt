use Rattle.store.proofs.Grown.{admit_promise}
use Rattle.store.proofs.calls.admit.Goals as goal

pub returns : goal.returns
returns c = admit_promise _ _ _ _ _ c.bring_in.ensures
