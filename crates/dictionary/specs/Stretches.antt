-- The merge of stretches of columns in any memory: first the pieces, then the merge.
use Rattle.std.specs.Prelude.{◌≡◌, ℕ, ◌+◌, cond, List, [], ◌∷◌, length, Ok, Err, Result, nat_lt}
use Rattle.records.specs.declared.record.Record.{Record}
use Rattle.records.specs.declared.slot.Slot.{Slot}
use Rattle.dictionary.specs.declared.piece.Piece.{Piece}
use Rattle.dictionary.specs.declared.piece.PieceFault.{PieceFault}
use Rattle.dictionary.specs.declared.merge.MergeFault.{MergeFault}
use Rattle.columns.specs.declared.stretch.Stretch.{Stretch}
use Rattle.dictionary.specs.declared.pieces.PiecesFault.{PiecesFault}
use Rattle.dictionary.specs.declared.pieces.PiecesFault.TheVariants as fault
use Rattle.dictionary.specs.Pieces.{taken_all, piece_answer}
use Rattle.dictionary.specs.Merges.{most_key, MergeContract}

-- a piece before others: the first that cannot be taken decides
abbrev pub with_piece : ℕ → Result Piece PieceFault → Result (List Piece) PiecesFault → Result (List Piece) PiecesFault
with_piece i (Err f) rest = Err (fault.Piece i f)
with_piece i (Ok p) (Err g) = Err g
with_piece i (Ok p) (Ok ps) = Ok (p ∷ ps)

-- the pieces of stretches, the first of which is input i
abbrev pub pieces_from : ℕ → List ℕ → List Record → List Stretch → Result (List Piece) PiecesFault
pieces_from i bs rs [] = Ok []
pieces_from i bs rs (s ∷ ss) = with_piece i (piece_answer bs rs s.place s.first s.rows) (pieces_from (i + 1) bs rs ss)

-- at most 64 of them
abbrev pub pieces_of : List ℕ → List Record → List Stretch → Result (List Piece) PiecesFault
pieces_of bs rs ss = cond (nat_lt 64 (length ss)) (Err fault.Crowd) (pieces_from 0 bs rs ss)

abbrev pub as_merge : Result ℕ MergeFault → Result ℕ PiecesFault
as_merge (Ok n) = Ok n
as_merge (Err f) = Err (fault.Merge f)

-- where there are pieces, their merge settles the answer and the tables
abbrev pub MergesPieces : Result (List Piece) PiecesFault → Result ℕ PiecesFault → (List ℕ → ℕ) → List ℕ → ℕ → List ℕ → List Slot → Type 0
MergesPieces (Err f) r hash bs bucket_places keys chosen = r ≡ Err f
MergesPieces (Ok ps) r hash bs bucket_places keys chosen =
    (m : Result ℕ MergeFault) × (r ≡ as_merge m) × MergeContract m hash (most_key ps) (taken_all bs ps) bucket_places keys chosen
