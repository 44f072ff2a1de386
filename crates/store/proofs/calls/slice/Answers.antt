use Rattle.store.proofs.Grown.{slice_promise}
use Rattle.store.proofs.calls.slice.Goals as goal

pub returns : goal.returns
returns c = slice_promise _ _ _ _ _ _ c.make_slice.ensures
