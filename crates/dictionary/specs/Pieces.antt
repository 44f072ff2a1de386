-- What a merge takes of pieces of dictionary columns in memory. `bs` is the byte memory.
use Rattle.std.specs.Prelude.{◌≡◌, ℕ, ◌+◌, ◌<◌, true, cond, List, [], ◌∷◌, map, length, Some, None, Ok, Err, Option, Result, ◌==◌, nat_lt, slice_index_or}
use Rattle.std.specs.Borrow.{Bor}
use Rattle.std.specs.List.{range_with_len, All}
use Rattle.records.specs.declared.record.Record.{Record}
use Rattle.records.specs.declared.slot.Slot.{Slot}
use Rattle.format.specs.Rows.{Row, null, raw, bit, listed, struct}
use Rattle.format.specs.Trees.{nothing, rec_at}
use Rattle.format.specs.Moves.{window}
use Rattle.format.specs.Meaning.{row_of}
use Rattle.format.specs.Rules.{all_of, both, one_of, record_rules, first_broken}
use Rattle.columns.specs.Held.{key_at}
use Rattle.interning.specs.Values.{Value}
use Rattle.interning.specs.Merging.{Taken}
use Rattle.dictionary.specs.declared.piece.Piece.{Piece}
use Rattle.dictionary.specs.declared.piece.PieceFault.{PieceFault}
use Rattle.dictionary.specs.declared.piece.PieceFault.TheVariants.{Malformed, Outside, Kind}

-- a value of the program as a value
abbrev pub seen : Option (Bor (List ℕ)) → Value
seen None = None
seen (Some s) = Some s.now

-- a row of flat or byte entries as a value
abbrev pub as_value : Row → Value
as_value null = None
as_value (raw bs) = Some bs
as_value (bit b) = None
as_value (listed rs) = None
as_value (struct rs) = None

-- entry j of flat or byte entries
abbrev pub entry_at : List ℕ → Record → ℕ → Value
entry_at bs e j = as_value (row_of bs e (λ k. []) j)

abbrev pub keys_of : List ℕ → Record → List (Option ℕ)
keys_of bs r = map (key_at bs r) (range_with_len 0 r.length)

abbrev pub taken_of : List ℕ → Piece → Taken
taken_of bs p = record { keys = keys_of bs p.keys; entries = map (entry_at bs p.entries) (range_with_len 0 p.entries.length) }

abbrev pub taken_all : List ℕ → List Piece → List Taken
taken_all bs ps = map (taken_of bs) ps

-- a dictionary record and its flat or byte entries, each of which keeps its rules
pub record PieceOk (bs : List ℕ) (p : Piece) : Type 0 where
  pub kind : p.keys.kind ≡ 4
  pub keys : all_of (record_rules bs p.keys (p.entries ∷ [])) ≡ true
  pub leaf : one_of p.entries.kind (1 ∷ 3 ∷ []) ≡ true
  pub entries : all_of (record_rules bs p.entries []) ≡ true

abbrev pub no_piece : Piece
no_piece = record { keys = nothing; entries = nothing }

-- a slot is an entry of one of the pieces
pub record SlotIn (ps : List Piece) (s : Slot) : Type 0 where
  pub input : s.input < length ps
  pub entry : s.entry < (slice_index_or ps s.input no_piece).entries.length

-- all pieces keep their rules
abbrev pub PiecesOk : List ℕ → List Piece → Type 0
PiecesOk bs ps = All (PieceOk bs) ps

-- rows f to f + n - 1 of the column at place q, as a piece: its tests by rising number
abbrev pub piece_answer : List ℕ → List Record → ℕ → ℕ → ℕ → Result Piece PieceFault
piece_answer bs rs q f n = or_malformed (first_broken bs rs q)
  where
    or_malformed : Option ℕ → Result Piece PieceFault
    or_malformed (Some at) = Err (Malformed at)
    or_malformed None =
        cond (nat_lt (rec_at rs q).length (f + n)) (Err Outside)
        (cond (both ((rec_at rs q).kind == 4) (one_of (rec_at rs (q + 1)).kind (1 ∷ 3 ∷ [])))
        (Ok (record { keys = window (rec_at rs q) f n; entries = rec_at rs (q + 1) })) (Err Kind))

-- a piece that is answered keeps its rules
abbrev pub AnswerOk : List ℕ → Result Piece PieceFault → Type 0
AnswerOk bs (Ok p) = PieceOk bs p
AnswerOk bs (Err f) = Unit {0}

pub record PieceContract (r : Result Piece PieceFault) (bs : List ℕ) (rs : List Record) (q f n : ℕ) : Type 0 where
  pub answer : r ≡ piece_answer bs rs q f n
  pub ok : AnswerOk bs r
