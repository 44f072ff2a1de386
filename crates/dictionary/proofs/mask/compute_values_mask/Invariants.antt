use Rattle.std.proofs.Common.{◌≡◌}
use Rattle.dictionary.specs.Pieces.{keys_of}
use Rattle.dictionary.specs.Tables.{marks}
use Rattle.dictionary.proofs.Masks.{keys_left}
use Rattle.dictionary.proofs.mask.compute_values_mask.Given as goal

abbrev pub invariant-loop-i : goal.invariant-loop-i
invariant-loop-i l = marks (keys_left l.bytes l.piece.keys l.i) l.mask ≡ marks (keys_of l.bytes l.piece.keys) l.initial.mask
