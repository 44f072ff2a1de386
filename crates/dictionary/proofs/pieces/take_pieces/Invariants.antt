use Rattle.std.proofs.Common.{◌≡◌, length}
use Rattle.dictionary.specs.Pieces.{PiecesOk}
use Rattle.dictionary.proofs.Stretches.{Taking}
use Rattle.dictionary.proofs.pieces.take_pieces.Given as goal

abbrev pub invariant-loop-i : goal.invariant-loop-i
invariant-loop-i l = record {
  count : length l.pieces.items ≡ l.i;
  taken : Taking l.bytes l.records l.inputs l.i l.pieces.items;
  ok : PiecesOk l.bytes l.pieces.items;
}
