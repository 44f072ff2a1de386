use Rattle.dictionary.proofs.Masks.{Masking}
use Rattle.dictionary.proofs.mask.mask_slots.Given as goal

abbrev pub invariant-loop-piece : goal.invariant-loop-piece
invariant-loop-piece l = Masking l.from.bytes.now l.from.pieces.now l.piece-index l.at l.keys
