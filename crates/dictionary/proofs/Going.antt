-- Slots interned one after another: what is left to do leads to what is wanted.
use Rattle.std.proofs.Common.{◌≡◌, ℕ, ◌+◌, ◌-◌, ◌<◌, ◌≤◌, Bool, true, false, cond, ltb, List, [], ◌∷◌, ◌++◌, map, length, get_or, take, drop, set, filter, sym, refl, ap, ◌∙◌, subst, ap₂, add-zero, arith}
use borrow.Rule.Slice.PartMut.{put_mid}
use Rattle.std.specs.List.{range_with_len}
use Rattle.std.proofs.lemmas.List.FromFn.{length-map-range_with_len}
use Rattle.std.proofs.lemmas.List.Elements.{filter-append}
use Rattle.std.proofs.lemmas.Slice.{take-put_mid, drop-put_mid}
use Rattle.std.proofs.lemmas.List.{map-append, length-map, length-append, take_at, drop_at, append_assoc, append-nil, take_more_set, drop-set-lt, drop_more, get_or-drop, length-set, take-append-drop, length-drop, drop-drop}
use Rattle.records.specs.declared.slot.Slot.{Slot}
use Rattle.column_check.proofs.Loops.{turn_at}
use Rattle.interning.specs.Values.{same_value}
use Rattle.interning.specs.Interning.{is_new}
use Rattle.interning.specs.Merging.{Taken, slot, slots_in, slots_from, slots_of, is_used, same_slot, slot_bucket, key_here, stepped, keys_from, walked}
use Rattle.interning.proofs.Runs.{run_few}
use Rattle.interning.proofs.Walks.{walk_entries, keys_append, walked_append, length-keys}
use Rattle.numbers.proofs.Places.{mid_put, length-put}
use Rattle.dictionary.specs.declared.piece.Piece.{Piece}
use Rattle.dictionary.specs.Pieces.{taken_all, no_piece}
use Rattle.dictionary.specs.Tables.{in_table, mark_of}
use Rattle.dictionary.proofs.Slots.{slots_turn}

-- the slots ss are interned after the entries es₀. At place `at` of the key table `rest` is left, and the entries are es; tail stands
-- above the marks, and there is room for some entries
pub record Going (hash : List ℕ → ℕ) (ts : List Taken) (ss es₀ : List Slot) (tail : List ℕ) (room : ℕ) (rest es : List Slot) (at : ℕ) (keys : List ℕ) : Type 0 where
  pub within : at ≤ length keys
  pub entries : walked same_value hash ts rest es ≡ walked same_value hash ts ss es₀
  pub front : take at keys ++ map in_table (keys_from same_value hash ts rest es) ≡ map in_table (keys_from same_value hash ts ss es₀)
  pub marks : drop at keys ≡ map (mark_of ts) rest ++ tail
  pub few : length es + length (filter (is_used ts) rest) ≤ room

module _ (hash : List ℕ → ℕ) (ts : List Taken) (ss es₀ : List Slot) (tail : List ℕ) (room : ℕ) where
  pub going_start : (keys : List ℕ) → keys ≡ map (mark_of ts) ss ++ tail → length es₀ + length (filter (is_used ts) ss) ≤ room → Going hash ts ss es₀ tail room ss es₀ 0 keys
  going_start keys e l = record { within = omega arith; entries = refl; front = refl; marks = e; few = l }

  -- the next place has the mark of the next slot, and there is room for its entry
  pub going_mark : (s : Slot) (rest es : List Slot) (at : ℕ) (keys : List ℕ) → Going hash ts ss es₀ tail room (s ∷ rest) es at keys
      → (at < length keys) × (ltb 0 (get_or keys at 0) ≡ is_used ts s) × (is_used ts s ≡ true → length es < room)
  going_mark s rest es at keys g =
      let l = ap length g.marks in
      let m = length-drop at keys in
      let e : get_or (drop at keys) 0 0 ≡ mark_of ts s = ap (λ x. get_or x 0 0) g.marks in
      let k : get_or keys at 0 ≡ mark_of ts s = sym (get_or-drop at keys 0 0 ∙ ap (λ x. get_or keys x 0) (add-zero at)) ∙ e in
      (omega arith, ap (ltb 0) k ∙ set_mark (is_used ts s), go (is_used ts s) g.few)
    where
      set_mark : (t : Bool) → ltb 0 (cond t 1 0) ≡ t
      set_mark true = refl
      set_mark false = refl

      go : (t : Bool) → length es + length (cond t (s ∷ filter (is_used ts) rest) (filter (is_used ts) rest)) ≤ room → t ≡ true → length es < room
      go true h e = omega arith
      go false h e = absurd cc

  pub going_slot : (s : Slot) (rest es : List Slot) (at : ℕ) (keys : List ℕ) → Going hash ts ss es₀ tail room (s ∷ rest) es at keys
      → Going hash ts ss es₀ tail room rest (stepped same_value hash ts s es) (at + 1) (set keys at (in_table (key_here same_value hash ts s es)))
  going_slot s rest es at keys g =
      let k : ℕ = in_table (key_here same_value hash ts s es) in
      let l = (going_mark s rest es at keys g).0 in
      let d = drop_more keys at 0 l in
      let e = g.marks in
      let m : drop (at + 1) keys ≡ map (mark_of ts) rest ++ tail = cc in
      record {
        within = rw length-set (omega arith);
        entries = g.entries;
        front =
            ap (λ x. x ++ map in_table (keys_from same_value hash ts rest (stepped same_value hash ts s es))) (take_more_set keys at k l)
            ∙ append_assoc (take at keys) (k ∷ []) _ ∙ g.front;
        marks = drop-set-lt (at + 1) keys at k (omega arith) ∙ m;
        few = go (is_used ts s) (is_new (same_slot same_value ts) (slot_bucket hash ts) s es) g.few;
      }
    where
      go : (t u : Bool) → length es + length (cond t (s ∷ filter (is_used ts) rest) (filter (is_used ts) rest)) ≤ room
          → length (cond t (cond u (s ∷ es) es) es) + length (filter (is_used ts) rest) ≤ room
      go true true h = omega arith
      go true false h = omega arith
      go false u h = omega arith

  pub going_as : (rest rest' es : List Slot) (at : ℕ) (keys : List ℕ) → rest ≡ rest' → Going hash ts ss es₀ tail room rest es at keys
      → Going hash ts ss es₀ tail room rest' es at keys
  going_as rest rest' es at keys e g = subst (λ x. Going hash ts ss es₀ tail room x es at keys) e g

  pub going_end : (rest es : List Slot) (at : ℕ) (keys : List ℕ) → rest ≡ [] → Going hash ts ss es₀ tail room rest es at keys
      → (es ≡ walked same_value hash ts ss es₀) × (keys ≡ map in_table (keys_from same_value hash ts ss es₀) ++ tail)
  going_end rest es at keys none h =
      let g = going_as rest [] es at keys none h in
      (g.entries, sym (take-append-drop at keys) ∙ ap₂ (λ x y. x ++ y) (sym (append-nil (take at keys)) ∙ g.front) g.marks)

-- the slots of input i from number j on, of n
abbrev pub rest_in : ℕ → ℕ → ℕ → List Slot
rest_in i j n = map (slot i) (range_with_len j (n - j))

pub rest_all : (i n : ℕ) → rest_in i 0 n ≡ slots_in i n
rest_all i n = let e : n - 0 ≡ n = omega arith in ap (λ m. map (slot i) (range_with_len 0 m)) e

pub rest_more : (i j n : ℕ) → j < n → rest_in i j n ≡ slot i j ∷ rest_in i (j + 1) n
rest_more i j n l = ap (map (slot i)) (turn_at j n l)

pub rest_none : (i j n : ℕ) → n ≤ j → rest_in i j n ≡ []
rest_none i j n l = let e : n - j ≡ 0 = omega arith in ap (λ m. map (slot i) (range_with_len j m)) e

-- one turn of the loop over the slots of an input, whose key k and entries es' the program found
module _ {hash hash' : List ℕ → ℕ} {ts : List Taken} {ss es₀ : List Slot} {tail : List ℕ} {room : ℕ} {es : List Slot} {j : ℕ} {keys : List ℕ} (i n : ℕ) (same : hash' ≡ hash)
    (g : Going hash ts ss es₀ tail room (rest_in i j n) es j keys) (l : j < n) where
  there : Going hash ts ss es₀ tail room (slot i j ∷ rest_in i (j + 1) n) es j keys
  there = going_as hash ts ss es₀ tail room _ _ es j keys (rest_more i j n l) g

  pub turn_mark : (j < length keys) × (ltb 0 (get_or keys j 0) ≡ is_used ts (slot i j)) × (is_used ts (slot i j) ≡ true → length es < room)
  turn_mark = going_mark hash ts ss es₀ tail room (slot i j) (rest_in i (j + 1) n) es j keys there

  pub turn_more : (k : ℕ) (es' : List Slot) → k ≡ in_table (key_here same_value hash' ts (slot i j) es) → es' ≡ stepped same_value hash' ts (slot i j) es
      → Going hash ts ss es₀ tail room (rest_in i (j + 1) n) es' (j + 1) (set keys j k)
  turn_more k es' ek ee =
      let x : in_table (key_here same_value hash ts (slot i j) es) ≡ k = ap (λ h. in_table (key_here same_value h ts (slot i j) es)) (sym same) ∙ sym ek in
      let y : stepped same_value hash ts (slot i j) es ≡ es' = ap (λ h. stepped same_value h ts (slot i j) es) (sym same) ∙ sym ee in
      subst (λ z. Going hash ts ss es₀ tail room (rest_in i (j + 1) n) es' (j + 1) (set keys j z)) x
      (subst (λ z. Going hash ts ss es₀ tail room (rest_in i (j + 1) n) z (j + 1) (set keys j (in_table (key_here same_value hash ts (slot i j) es)))) y
      (going_slot hash ts ss es₀ tail room (slot i j) (rest_in i (j + 1) n) es j keys there))

-- the slots of an input at once: first the marks of its part of the table, then its keys in their place
module _ (hash : List ℕ → ℕ) (ts : List Taken) (ss es₀ : List Slot) (tail : List ℕ) (room : ℕ) (own rest es : List Slot) (at : ℕ) (keys : List ℕ)
    (g : Going hash ts ss es₀ tail room (own ++ rest) es at keys) where
  split : drop at keys ≡ map (mark_of ts) own ++ (map (mark_of ts) rest ++ tail)
  split = g.marks ∙ ap (λ x. x ++ tail) (map-append (mark_of ts) own rest) ∙ append_assoc (map (mark_of ts) own) (map (mark_of ts) rest) tail

  pub part_within : at + length own ≤ length keys
  part_within =
      let l = ap length split in
      let m = length-drop at keys in
      let k = length-append (map (mark_of ts) own) (map (mark_of ts) rest ++ tail) in
      let o = length-map own (mark_of ts) in
      let w = g.within in
      omega arith

  pub part_marks : take (length own) (drop at keys) ≡ map (mark_of ts) own
  part_marks = ap (take (length own)) split ∙ take_at (map (mark_of ts) own) _ (length own) (length-map own (mark_of ts))

  pub part_room : length es + length (filter (is_used ts) own) ≤ room
  part_room =
      let k = ap length (filter-append (is_used ts) own rest) in
      let l = length-append (filter (is_used ts) own) (filter (is_used ts) rest) in
      let f = g.few in
      omega arith

  pub part_more : (keys' ys : List ℕ) (es' : List Slot) → keys' ≡ put_mid at (length own) keys ys → ys ≡ map in_table (keys_from same_value hash ts own es)
      → es' ≡ walked same_value hash ts own es → Going hash ts ss es₀ tail room rest es' (at + length own) keys'
  part_more keys' ys es' ek ey ee = subst (λ k. Going hash ts ss es₀ tail room rest es' (at + length own) k) (sym here) at_mine
    where
      mine : List ℕ
      mine = map in_table (keys_from same_value hash ts own es)

      long : length mine ≡ length own
      long = length-map (keys_from same_value hash ts own es) in_table ∙ length-keys same_value hash ts own es

      here : keys' ≡ put_mid at (length own) keys mine
      here = ek ∙ ap (put_mid at (length own) keys) ey

      left : drop (at + length own) keys ≡ map (mark_of ts) rest ++ tail
      left = sym (drop-drop (length own) at keys) ∙ ap (drop (length own)) split ∙ drop_at (map (mark_of ts) own) _ (length own) (length-map own (mark_of ts))

      grown : length es' ≤ length es + length (filter (is_used ts) own)
      grown =
          let e = ap length (ee ∙ walk_entries same_value hash ts own es) in
          let r = run_few (same_slot same_value ts) (slot_bucket hash ts) (filter (is_used ts) own) es in
          omega arith

      total : length (put_mid at (length own) keys mine) ≡ length keys
      total =
          let w = part_within in
          let o = long in
          ap length (mid_put at (length own) keys mine (sym long)) ∙ length-put at mine keys (omega arith)

      at_mine : Going hash ts ss es₀ tail room rest es' (at + length own) (put_mid at (length own) keys mine)
      at_mine =
          let w = part_within in
          let o = long in
          record {
            within = rw total w;
            entries = ap (walked same_value hash ts rest) ee ∙ sym (walked_append same_value hash ts own rest es) ∙ g.entries;
            front =
                ap₂ (λ x y. x ++ map in_table (keys_from same_value hash ts rest y)) (take-put_mid at (length own) keys mine (at + length own) (omega arith) g.within) ee
                ∙ append_assoc (take at keys) mine _
                ∙ ap (λ x. take at keys ++ x) (sym (ap (map in_table) (keys_append same_value hash ts own rest es) ∙ map-append in_table (keys_from same_value hash ts own es) _))
                ∙ g.front;
            marks = drop-put_mid at (length own) keys mine (at + length own) (omega arith) g.within long ∙ left;
            few =
                let k = ap length (filter-append (is_used ts) own rest) in
                let l = length-append (filter (is_used ts) own) (filter (is_used ts) rest) in
                let f = g.few in
                let q = grown in
                omega arith;
          }

-- one turn of the loop over the inputs. The program sees the part of the table from `at` to at + n
module _ {hash hash' : List ℕ → ℕ} {es₀ : List Slot} {room : ℕ} {es : List Slot} {at : ℕ} {keys : List ℕ} (bs : List ℕ) (ps : List Piece) (i : ℕ) (same : hash' ≡ hash)
    (g : Going hash (taken_all bs ps) (slots_of (taken_all bs ps)) es₀ [] room (slots_from i (drop i (taken_all bs ps))) es at keys) (l : i < length ps) where
  abbrev ts : List Taken
  ts = taken_all bs ps

  abbrev n : ℕ
  n = (get_or ps i no_piece).entries.length

  abbrev seen : List ℕ
  seen = take (at + (get_or ps i no_piece).entries.length - at) (drop at keys)

  abbrev own : List Slot
  own = slots_in i (get_or ps i no_piece).entries.length

  abbrev rest : List Slot
  rest = slots_from (i + 1) (drop (i + 1) (taken_all bs ps))

  whole : Going hash ts (slots_of ts) es₀ [] room (own ++ rest) es at keys
  whole = going_as hash ts (slots_of ts) es₀ [] room _ _ es at keys (slots_turn bs ps i l) g

  own_long : length own ≡ n
  own_long = length-map-range_with_len (slot i) 0 n

  pub input_within : at + n ≤ length keys
  input_within = subst (λ x. at + x ≤ length keys) own_long (part_within hash ts (slots_of ts) es₀ [] room own rest es at keys whole)

  marks : seen ≡ map (mark_of ts) own
  marks =
      let e : at + n - at ≡ n = omega arith in
      ap (λ x. take x (drop at keys)) (e ∙ sym own_long) ∙ part_marks hash ts (slots_of ts) es₀ [] room own rest es at keys whole

  pub input_long : length seen ≡ n
  input_long = ap length marks ∙ length-map own (mark_of ts) ∙ own_long

  pub input_marks : seen ≡ map (mark_of ts) (slots_in i (length seen))
  input_marks = marks ∙ ap (λ x. map (mark_of ts) (slots_in i x)) (sym input_long)

  pub input_room : length es + length (filter (is_used ts) (slots_in i (length seen))) ≤ room
  input_room = subst (λ x. length es + length (filter (is_used ts) (slots_in i x)) ≤ room) (sym input_long) (part_room hash ts (slots_of ts) es₀ [] room own rest es at keys whole)

  pub input_more : (ys : List ℕ) (es' : List Slot) → ys ≡ map in_table (keys_from same_value hash' ts (slots_in i (length seen)) es)
      → es' ≡ walked same_value hash' ts (slots_in i (length seen)) es
      → Going hash ts (slots_of ts) es₀ [] room rest es' (at + n) (put_mid at (at + n - at) keys ys)
  input_more ys es' ey ee =
      let e : at + n - at ≡ n = omega arith in
      subst (λ x. Going hash ts (slots_of ts) es₀ [] room rest es' (at + x) (put_mid at (at + n - at) keys ys)) own_long
      (part_more hash ts (slots_of ts) es₀ [] room own rest es at keys whole (put_mid at (at + n - at) keys ys) ys es' (ap (λ x. put_mid at x keys ys) (e ∙ sym own_long))
      (ey ∙ ap₂ (λ h x. map in_table (keys_from same_value h ts (slots_in i x) es)) same input_long)
      (ee ∙ ap₂ (λ h x. walked same_value h ts (slots_in i x) es) same input_long))
