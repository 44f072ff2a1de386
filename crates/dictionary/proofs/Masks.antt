-- Masks: the used entries of a piece, and the marks of all slots.
use Rattle.std.proofs.Common.{◌≡◌, ℕ, suc, ◌+◌, ◌-◌, ◌^◌, ◌<◌, ◌≤◌, Bool, true, false, cond, not, eqb, ltb, ◌≢◌, List, [], ◌∷◌, ◌++◌, map, length, replicate, get_or, take, drop, set, Some, None, filter, Option, sym, refl, ap, ◌∙◌, subst, arith}
use mathlib.Core.List.{map-map}
use Rattle.std.specs.List.{range_with_len, count_by}
use Rattle.std.proofs.lemmas.Bool.{eqb-true, eqb-false}
use Rattle.std.proofs.lemmas.List.{get_or-set_same, get_or-set_other, length-set, map-append, length-map, length-replicate, get_or-replicate, append_assoc, append-nil, take_all, length-take-le, length-drop}
use Rattle.std.proofs.lemmas.List.FromFn.{fill_by_all, length-map-range_with_len}
use Rattle.std.proofs.lemmas.List.Sums.{length-filter, count_by-le-length}
use Rattle.std.proofs.lemmas.List.Filters.{length-filter_both}
use Rattle.std.proofs.lemmas.Slice.{take-put_mid}
use Rattle.numbers.proofs.Places.{mid_put, length-put}
use Rattle.records.specs.declared.record.Record.{Record}
use Rattle.format.specs.Meaning.{dictionary, kind_of, is_null, number}
use Rattle.format.proofs.Facts.{Says, facts}
use Rattle.columns.specs.Held.{key_at}
use Rattle.column_check.proofs.Loops.{turn_at}
use Rattle.records.specs.declared.slot.Slot.{Slot}
use borrow.Rule.Slice.PartMut.{put_mid}
use Rattle.interning.specs.Merging.{Taken, is_used, points_to, slot, slots_in, slots_from, slots_of}
use Rattle.dictionary.specs.declared.piece.Piece.{Piece}
use Rattle.dictionary.specs.Pieces.{keys_of, taken_all, no_piece, PieceOk}
use Rattle.dictionary.specs.Tables.{mask_at, marked, marks, mark_of, KeyBelow}
use Rattle.dictionary.proofs.Slots.{input_is, slots_none, slots_turn, slots_turn_length}

-- one key marked, and some
marked_at : (k : Option ℕ) (ks : List (Option ℕ)) (m : List ℕ) (j : ℕ) → j < length m
    → cond (points_to j ks) 1 (get_or (marked k m) j 0) ≡ cond (points_to j (k ∷ ks)) 1 (get_or m j 0)
marked_at None ks m j l = refl
marked_at (Some k) ks m j l = go (eqb k j) refl
  where
    go : (t : Bool) → eqb k j ≡ t → cond (points_to j ks) 1 (get_or (set m k 1) j 0) ≡ cond (cond t true (points_to j ks)) 1 (get_or m j 0)
    go true t =
        let e = eqb-true k j t in
        let x : get_or (set m k 1) j 0 ≡ 1 = rw e (get_or-set_same m j 1 0 l) in
        rw x (on (points_to j ks))
      where
        on : (u : Bool) → ◌≡◌ {A = ℕ} (cond u 1 1) 1
        on true = refl
        on false = refl
    go false t =
        let ne : j ≢ k = λ q. eqb-false k j t (sym q) in
        ap (λ x. cond (points_to j ks) 1 x) (get_or-set_other m k j 1 0 ne)

length_marked : (k : Option ℕ) (m : List ℕ) → length (marked k m) ≡ length m
length_marked None m = refl
length_marked (Some k) m = length-set m k 1

length-marks : (ks : List (Option ℕ)) (m : List ℕ) → length (marks ks m) ≡ length m
length-marks [] m = refl
length-marks (k ∷ ks) m = length-marks ks (marked k m) ∙ length_marked k m

marks_at : (ks : List (Option ℕ)) (m : List ℕ) (j : ℕ) → j < length m → get_or (marks ks m) j 0 ≡ cond (points_to j ks) 1 (get_or m j 0)
marks_at [] m j l = refl
marks_at (k ∷ ks) m j l = marks_at ks (marked k m) j (rw length_marked l) ∙ marked_at k ks m j l

-- over zeros, the marks are the mask
pub marks_all : (ks : List (Option ℕ)) (n : ℕ) → marks ks (replicate n 0) ≡ map (mask_at ks) (range_with_len 0 n)
marks_all ks n =
    fill_by_all (mask_at ks) (marks ks (replicate n 0)) n 0 (length-marks ks (replicate n 0) ∙ length-replicate n 0)
    (λ j l. marks_at ks (replicate n 0) j (rw length-replicate l) ∙ ap (λ x. cond (points_to j ks) 1 x) (get_or-replicate n j 0 0 l))

-- the keys of a piece from row i on
abbrev pub keys_left : List ℕ → Record → ℕ → List (Option ℕ)
keys_left bs r i = map (key_at bs r) (range_with_len i (r.length - i))

pub left_more : (bs : List ℕ) (r : Record) (i : ℕ) → i < r.length → keys_left bs r i ≡ key_at bs r i ∷ keys_left bs r (i + 1)
left_more bs r i l = ap (map (key_at bs r)) (turn_at i r.length l)

pub left_none : (bs : List ℕ) (r : Record) (i : ℕ) → r.length ≤ i → keys_left bs r i ≡ []
left_none bs r i l = let e : r.length - i ≡ 0 = omega arith in ap (λ n. map (key_at bs r) (range_with_len i n)) e

-- the key of a valid row is that of an entry
pub key_below : (bs : List ℕ) (p : Piece) → PieceOk bs p → (i : ℕ) → i < p.keys.length → KeyBelow p.entries.length (key_at bs p.keys i)
key_below bs p h i l = go (is_null bs r (r.start + i)) refl
  where
    r : Record
    r = p.keys

    says : Says dictionary bs r (p.entries ∷ [])
    says = subst (λ k. Says k bs r (p.entries ∷ [])) (ap kind_of h.kind) (facts bs r (p.entries ∷ []) h.keys)

    go : (t : Bool) → is_null bs r (r.start + i) ≡ t → KeyBelow p.entries.length (cond t None (Some (number bs r (r.start + i))))
    go true t = tt
    go false t =
        let c = says.1 in
        let b = c.holds (r.start + i) (omega arith) (omega arith) t in
        let a = c.alone in
        let e : p.entries ≡ c.child = cc in
        subst (λ k. number bs r (r.start + i) < k.length) (sym e) b

-- the marks of an input's slots are the mask of its piece
pub mask_marks : (bs : List ℕ) (ps : List Piece) (i n : ℕ) → i < length ps
    → map (mask_at (keys_of bs (get_or ps i no_piece).keys)) (range_with_len 0 n) ≡ map (mark_of (taken_all bs ps)) (slots_in i n)
mask_marks bs ps i n l =
    ap (λ t. map (mask_at t.keys) (range_with_len 0 n)) (sym (input_is bs ps i l)) ∙ sym (map-map (mark_of (taken_all bs ps)) (slot i) (range_with_len 0 n))

-- at place `at` of the key table the slots from input i on are left, and before it stand the marks of those before them
pub record Masking (bs : List ℕ) (ps : List Piece) (i at : ℕ) (keys : List ℕ) : Type 0 where
  pub long : at + length (slots_from i (drop i (taken_all bs ps))) ≡ length keys
  pub front : take at keys ++ map (mark_of (taken_all bs ps)) (slots_from i (drop i (taken_all bs ps))) ≡ map (mark_of (taken_all bs ps)) (slots_of (taken_all bs ps))

pub masking_end : {bs : List ℕ} {ps : List Piece} {i at : ℕ} {keys : List ℕ} → Masking bs ps i at keys → length ps ≤ i → keys ≡ map (mark_of (taken_all bs ps)) (slots_of (taken_all bs ps))
masking_end {bs} {ps} {i} {at} {keys} m l =
    let none = slots_none bs ps i l in
    let n = ap length none in
    let e = m.long in
    sym (take_all at keys (omega arith)) ∙ sym (append-nil (take at keys)) ∙ ap (λ ss. take at keys ++ map (mark_of (taken_all bs ps)) ss) (sym none) ∙ m.front

-- one turn of the loop over the inputs. The program sees the part of the table from `at` to at + n
module _ {bs : List ℕ} {ps : List Piece} {i at : ℕ} {keys : List ℕ} (m : Masking bs ps i at keys) (l : i < length ps) where
  abbrev n : ℕ
  n = (get_or ps i no_piece).entries.length

  abbrev part : List ℕ
  part = take (at + (get_or ps i no_piece).entries.length - at) (drop at keys)

  abbrev rest : List Slot
  rest = slots_from (i + 1) (drop (i + 1) (taken_all bs ps))

  pub mask_within : at + n ≤ length keys
  mask_within = omega (arith, m.long, slots_turn_length bs ps i l)

  pub mask_long : length part ≡ n
  mask_long =
      let w = mask_within in
      let e : at + n - at ≡ n = omega arith in
      length-take-le (at + n - at) (drop at keys) (omega (arith, length-drop at keys)) ∙ e

  pub mask_more : (ys : List ℕ) → ys ≡ map (mask_at (keys_of bs (get_or ps i no_piece).keys)) (range_with_len 0 (length part))
      → Masking bs ps (i + 1) (at + n) (put_mid at (at + n - at) keys ys)
  mask_more ys e = record { long = long'; front = front' }
    where
      ts : List Taken
      ts = taken_all bs ps

      mine : ys ≡ map (mark_of ts) (slots_in i n)
      mine = e ∙ ap (λ m. map (mask_at (keys_of bs (get_or ps i no_piece).keys)) (range_with_len 0 m)) mask_long ∙ mask_marks bs ps i n l

      many : length ys ≡ n
      many = ap length mine ∙ length-map (slots_in i n) (mark_of ts) ∙ length-map-range_with_len (slot i) 0 n

      kept : length (put_mid at (at + n - at) keys ys) ≡ length keys
      kept =
          let w = mask_within in
          let y = many in
          ap length (mid_put at (at + n - at) keys ys (omega arith)) ∙ length-put at ys keys (omega arith)

      long' : at + n + length rest ≡ length (put_mid at (at + n - at) keys ys)
      long' = let k = kept in omega (arith, m.long, slots_turn_length bs ps i l)

      front' : take (at + n) (put_mid at (at + n - at) keys ys) ++ map (mark_of ts) rest ≡ map (mark_of ts) (slots_of ts)
      front' =
          let w = mask_within in
          let y = many in
          ap (λ x. x ++ map (mark_of ts) rest) (take-put_mid at (at + n - at) keys ys (at + n) (omega arith) (omega arith))
          ∙ append_assoc (take at keys) ys (map (mark_of ts) rest)
          ∙ ap (λ x. take at keys ++ (x ++ map (mark_of ts) rest)) mine
          ∙ ap (λ x. take at keys ++ x) (sym (ap (map (mark_of ts)) (slots_turn bs ps i l) ∙ map-append (mark_of ts) (slots_in i n) rest))
          ∙ m.front

-- how many marks are set: as many as slots are used
pub set_used : (ts : List Taken) (ss : List Slot) → length (filter (λ m. ltb 0 m) (map (mark_of ts) ss)) ≡ length (filter (is_used ts) ss)
set_used ts [] = refl
set_used ts (s ∷ ss) = go (is_used ts s) (set_used ts ss)
  where
    go : (t : Bool) → length (filter (λ m. ltb 0 m) (map (mark_of ts) ss)) ≡ length (filter (is_used ts) ss)
        → length (cond (ltb 0 (cond t 1 0)) (cond t 1 0 ∷ filter (λ m. ltb 0 m) (map (mark_of ts) ss)) (filter (λ m. ltb 0 m) (map (mark_of ts) ss)))
        ≡ length (cond t (s ∷ filter (is_used ts) ss) (filter (is_used ts) ss))
    go true h = ap suc h
    go false h = h

pub set_few : (marks : List ℕ) → length (filter (λ m. ltb 0 m) marks) ≤ length marks
set_few marks = omega (arith, length-filter_both (λ m. ltb 0 m) (λ m. not (ltb 0 m)) (λ m. refl) marks)

-- the marks that are set, counted by a sum
pub set_sum : (marks : List ℕ) → count_by (λ m. ltb 0 m) marks ≡ length (filter (λ m. ltb 0 m) marks)
set_sum marks = sym (length-filter (λ m. ltb 0 m) marks)

pub set_fits : (marks : List ℕ) → length marks < 2 ^ 64 → count_by (λ m. ltb 0 m) marks < 2 ^ 64
set_fits marks fits = omega (arith, count_by-le-length (λ m. ltb 0 m) marks)
