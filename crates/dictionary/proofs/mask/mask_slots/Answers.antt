use Rattle.dictionary.proofs.Masks.{mask_more}
use Rattle.dictionary.proofs.mask.mask_slots.Goals as goal

pub loop-piece-preserved : goal.loop-piece-preserved
loop-piece-preserved c = mask_more c.loop-piece.invariant c.loop-piece-test.true c.compute_values_mask.new.mask c.compute_values_mask.ensures
