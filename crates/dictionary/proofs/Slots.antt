-- Pieces and slots: what the rules of a piece give to a reader of its keys and entries.
use Rattle.std.proofs.Common.{◌≡◌, Bool, true, false, cond, eqb, ◌⊎◌, inl, inr, ℕ, ◌+◌, ◌^◌, ◌<◌, ◌≤◌, List, [], ◌∷◌, ◌++◌, length, get_or, drop, Some, None, Option, sym, refl, ap, ◌∙◌, ap₂, arith, Bor}
use Rattle.std.specs.List.{sum_by}
use Rattle.std.proofs.lemmas.List.Sums.{sum_by-cons, sum_by-le}
use Rattle.std.proofs.lemmas.List.{get_or-map, length-map, length-append, drop_more, drop_all}
use Rattle.std.proofs.lemmas.List.FromFn.{get_or-map-range_with_len, length-map-range_with_len}
use Rattle.records.specs.declared.record.Record.{Record}
use Rattle.records.specs.declared.slot.Slot.{Slot}
use Rattle.format.specs.Rows.{Row}
use Rattle.format.specs.Rules.{one_of, end_of, record_rules, total}
use Rattle.format.proofs.Tests.{no_way, all_of_lem}
use Rattle.std.proofs.lemmas.Bool.{leb-true, eqb-true}
use Rattle.columns.specs.Held.{value_row}
use Rattle.columns.specs.Readable.{Readable}
use Rattle.columns.proofs.Ways.{readable}
use Rattle.interning.specs.Merging.{nothing_taken, slot, slots_in, slots_from, input_at, value_of}
use Rattle.dictionary.specs.declared.piece.Piece.{Piece}
use Rattle.dictionary.specs.Pieces.{seen, as_value, entry_at, taken_of, taken_all, PieceOk, PiecesOk, no_piece, SlotIn}

pub seen_as : (v : Option (Bor (List ℕ))) (r : Row) → value_row v ≡ r → seen v ≡ as_value r
seen_as None r e = ap as_value e
seen_as (Some s) r e = ap as_value e

-- an input of the merge is what is taken of its piece
pub input_is : (bs : List ℕ) (ps : List Piece) (i : ℕ) → i < length ps → input_at (taken_all bs ps) i ≡ taken_of bs (get_or ps i no_piece)
input_is bs ps i l = get_or-map (taken_of bs) ps i no_piece nothing_taken l

pub one_or_three : (n : ℕ) → one_of n (1 ∷ 3 ∷ []) ≡ true → (n ≡ 1) ⊎ (n ≡ 3)
one_or_three n h = go (eqb n 1) refl h
  where
    go : (t : Bool) → eqb n 1 ≡ t → cond t true (cond (eqb n 3) true false) ≡ true → (n ≡ 1) ⊎ (n ≡ 3)
    go true t h = inl (eqb-true n 1 t)
    go false t h = on (eqb n 3) refl h
      where
        on : (u : Bool) → eqb n 3 ≡ u → cond u true false ≡ true → (n ≡ 1) ⊎ (n ≡ 3)
        on true u h = inr (eqb-true n 3 u)
        on false u h = no_way h

pub value_is : (bs : List ℕ) (ps : List Piece) (s : Slot) → SlotIn ps s
    → value_of (taken_all bs ps) s ≡ entry_at bs (get_or ps s.input no_piece).entries s.entry
value_is bs ps s h =
    let e : Record = (get_or ps s.input no_piece).entries in
    ap (λ t. get_or t.entries s.entry None) (input_is bs ps s.input h.input)
    ∙ get_or-map-range_with_len (entry_at bs e) 0 e.length s.entry s.entry None h.entry (omega arith)

pub entry_readable : (bs : List ℕ) (ps : List Piece) (s : Slot) → PiecesOk bs ps → SlotIn ps s
    → Readable bs (get_or ps s.input no_piece).entries ((get_or ps s.input no_piece).entries.start + s.entry)
entry_readable bs ps s h l = readable bs _ [] (h s.input no_piece l.input).entries s.entry l.entry

-- an input has as many slots as its piece has entries
pub entries_long : (bs : List ℕ) (ps : List Piece) (i : ℕ) → i < length ps → length (input_at (taken_all bs ps) i).entries ≡ (get_or ps i no_piece).entries.length
entries_long bs ps i l =
    ap (λ t. length t.entries) (input_is bs ps i l)
    ∙ length-map-range_with_len (entry_at bs (get_or ps i no_piece).entries) 0 (get_or ps i no_piece).entries.length

-- the slots from input i on: its own, then those of the inputs after it
pub slots_turn : (bs : List ℕ) (ps : List Piece) (i : ℕ) → i < length ps
    → slots_from i (drop i (taken_all bs ps)) ≡ slots_in i (get_or ps i no_piece).entries.length ++ slots_from (i + 1) (drop (i + 1) (taken_all bs ps))
slots_turn bs ps i l =
    let m : i < length (taken_all bs ps) = rw length-map l in
    ap (slots_from i) (drop_more (taken_all bs ps) i nothing_taken m)
    ∙ ap (λ n. slots_in i n ++ slots_from (i + 1) (drop (i + 1) (taken_all bs ps))) (entries_long bs ps i l)

pub slots_none : (bs : List ℕ) (ps : List Piece) (i : ℕ) → length ps ≤ i → slots_from i (drop i (taken_all bs ps)) ≡ []
slots_none bs ps i l =
    let m : length (taken_all bs ps) ≤ i = rw length-map l in
    ap (slots_from i) (drop_all i (taken_all bs ps) m)

pub slots_turn_length : (bs : List ℕ) (ps : List Piece) (i : ℕ) → i < length ps
    → length (slots_from i (drop i (taken_all bs ps))) ≡ (get_or ps i no_piece).entries.length + length (slots_from (i + 1) (drop (i + 1) (taken_all bs ps)))
slots_turn_length bs ps i l =
    let n : ℕ = (get_or ps i no_piece).entries.length in
    ap length (slots_turn bs ps i l) ∙ length-append (slots_in i n) _
    ∙ ap (λ x. x + length (slots_from (i + 1) (drop (i + 1) (taken_all bs ps)))) (length-map-range_with_len (slot i) 0 n)

-- a total is a sum, and that of 64 pieces is small
pub total_is : {X : Type 0} (f : X → ℕ) (xs : List X) → total f xs ≡ sum_by f xs
total_is f [] = refl
total_is f (x ∷ xs) = ap (λ n. f x + n) (total_is f xs) ∙ sym (sum_by-cons f x xs)

few_low : (f : Piece → ℕ) (bs : List ℕ) (ps : List Piece) → ((p : Piece) → PieceOk bs p → f p ≤ 4294967295) → PiecesOk bs ps → length ps ≤ 64 → sum_by f ps < 2 ^ 40
few_low f bs ps low ok few =
    let l = sum_by-le f 4294967295 ps (λ k d m. low _ (ok k d m)) in
    omega arith

pub entries_few : (bs : List ℕ) (ps : List Piece) → PiecesOk bs ps → length ps ≤ 64 → sum_by (λ p. p.entries.length) ps < 2 ^ 40
entries_few bs ps = few_low (λ p. p.entries.length) bs ps (λ p h. let t = leb-true (end_of p.entries) 4294967295 (all_of_lem (record_rules bs p.entries []) h.entries).1.0 in omega arith)

pub rows_few : (bs : List ℕ) (ps : List Piece) → PiecesOk bs ps → length ps ≤ 64 → sum_by (λ p. p.keys.length) ps < 2 ^ 40
rows_few bs ps = few_low (λ p. p.keys.length) bs ps (λ p h. let t = leb-true (end_of p.keys) 4294967295 (all_of_lem (record_rules bs p.keys (p.entries ∷ [])) h.keys).1.0 in omega arith)

-- all slots, by the lengths of the entries
pub slots_total : (bs : List ℕ) (i : ℕ) (ps : List Piece) → length (slots_from i (taken_all bs ps)) ≡ sum_by (λ p. p.entries.length) ps
slots_total bs i [] = refl
slots_total bs i (p ∷ ps) =
    length-append (slots_in i (length (taken_of bs p).entries)) (slots_from (i + 1) (taken_all bs ps))
    ∙ ap₂ (λ x y. x + y)
    (length-map-range_with_len (slot i) 0 (length (taken_of bs p).entries) ∙ length-map-range_with_len (entry_at bs p.entries) 0 p.entries.length)
    (slots_total bs (i + 1) ps)
    ∙ sym (sum_by-cons (λ q. q.entries.length) p ps)
