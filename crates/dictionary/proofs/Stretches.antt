-- Pieces taken one after another.
use Rattle.std.proofs.Common.{◌≡◌, ℕ, ◌+◌, ◌<◌, List, [], ◌∷◌, ◌++◌, length, get_or, drop, Ok, Err, Result, sym, refl, ap, ◌∙◌}
use Rattle.std.proofs.lemmas.List.{append_assoc, drop_more}
use Rattle.records.specs.declared.record.Record.{Record}
use Rattle.dictionary.specs.declared.piece.Piece.{Piece}
use Rattle.columns.specs.declared.stretch.Stretch.{Stretch}
use Rattle.dictionary.specs.declared.pieces.PiecesFault.{PiecesFault}
use Rattle.dictionary.specs.Pieces.{piece_answer}
use Rattle.dictionary.specs.Stretches.{with_piece, pieces_from}

-- pieces that stand already before those that are left
abbrev pub with_front : List Piece → Result (List Piece) PiecesFault → Result (List Piece) PiecesFault
with_front front (Ok ps) = Ok (front ++ ps)
with_front front (Err f) = Err f

front_none : (r : Result (List Piece) PiecesFault) → with_front [] r ≡ r
front_none (Ok ps) = refl
front_none (Err f) = refl

front_more : (front : List Piece) (i : ℕ) (p : Piece) (r : Result (List Piece) PiecesFault) → with_front (front ++ p ∷ []) r ≡ with_front front (with_piece i (Ok p) r)
front_more front i p (Ok ps) = ap Ok (append_assoc front (p ∷ []) ps)
front_more front i p (Err f) = refl

abbrev pub nowhere : Stretch
nowhere = record { place = 0; first = 0; rows = 0 }

module _ (bs : List ℕ) (rs : List Record) (ss : List Stretch) where
  -- the pieces that were taken, before those of the stretches from number i on
  abbrev pub Taking : ℕ → List Piece → Type 0
  Taking i ps = with_front ps (pieces_from i bs rs (drop i ss)) ≡ pieces_from 0 bs rs ss

  -- the next stretch
  turn : (i : ℕ) → i < length ss
      → pieces_from i bs rs (drop i ss) ≡ with_piece i (piece_answer bs rs (get_or ss i nowhere).place (get_or ss i nowhere).first (get_or ss i nowhere).rows) (pieces_from (i + 1) bs rs (drop (i + 1) ss))
  turn i l = ap (pieces_from i bs rs) (drop_more ss i nowhere l)

  pub taking_more : (i : ℕ) (ps : List Piece) (p : Piece) → i < length ss → Taking i ps
      → Ok p ≡ piece_answer bs rs (get_or ss i nowhere).place (get_or ss i nowhere).first (get_or ss i nowhere).rows → Taking (i + 1) (ps ++ p ∷ [])
  taking_more i ps p l h e =
      let rest = pieces_from (i + 1) bs rs (drop (i + 1) ss) in
      front_more ps i p rest ∙ ap (λ a. with_front ps (with_piece i a rest)) e ∙ ap (with_front ps) (sym (turn i l)) ∙ h
