-- One slot interned: what the tables hold decides it, and afterwards they stand for the entries again.
use Rattle.std.proofs.Common.{◌≡◌, ℕ, zero, suc, ◌+◌, ◌*◌, ◌/◌, ◌^◌, ◌<◌, ◌≤◌, Bool, true, false, cond, eqb, ◌≢◌, List, [], ◌∷◌, ◌++◌, reverse, length, get_or, take, set, Some, None, sym, refl, ap, ◌∙◌, subst, ap₂, div-lt_iff_lt-mul, add-one, arith, get_or-set_other, get_or-set_same, pow_pos}
use mathlib.Core.List.{reverse-cons}
use native.Mathlib.Nat.{mul-div_cancel_left}
use Rattle.std.specs.List.{AllByRecursion}
use Rattle.std.proofs.lemmas.List.{length-set, take_more, length-take-le}
use Rattle.std.proofs.lemmas.Bool.{eqb-true, eqb-false}
use Rattle.records.specs.declared.slot.Slot.{Slot}
use Rattle.interning.specs.Values.{Value, hashed_as, same_value}
use Rattle.interning.specs.Interning.{last_in, number_in, differs, is_new, number_of, entries_after}
use Rattle.interning.specs.Merging.{Taken, slot, slots_of, value_of, used_slots, same_slot, slot_bucket, count_of_buckets, chosen_slots, walked}
use Rattle.interning.proofs.Walks.{walk_entries}
use Rattle.dictionary.specs.declared.piece.Piece.{Piece}
use Rattle.dictionary.specs.Pieces.{taken_all, SlotIn}
use Rattle.dictionary.specs.Tables.{entries_in, held_in, HeldSlot, held_entry, Standing, Interns, Kept}
use Rattle.dictionary.specs.declared.dictionaries.Dictionaries.{Dictionaries}
use Rattle.dictionary.specs.declared.interner.Interner.{Interner}

pub length-entries : (chosen : List Slot) (n : ℕ) → length (entries_in chosen n) ≡ n
length-entries chosen zero = refl
length-entries chosen (suc n) = ap suc (length-entries chosen n)

-- a bucket that holds nothing has no last entry
held_none : {V : Type 0} (bucket : V → ℕ) (b : ℕ) (es : List V) → held_in bucket b es ≡ 0 → last_in bucket b es ≡ None
held_none bucket b [] h = refl
held_none bucket b (e ∷ es) h = go (eqb (bucket e) b) h (held_none bucket b es)
  where
    go : (t : Bool) → cond t (suc (length es)) (held_in bucket b es) ≡ 0 → (held_in bucket b es ≡ 0 → last_in bucket b es ≡ None)
        → cond t (Some e) (last_in bucket b es) ≡ None
    go true h ih = absurd (omega arith)
    go false h ih = ih h

-- one that holds k + 1 has entry k for its last
held_some : (bucket : Slot → ℕ) (b : ℕ) (chosen : List Slot) (n k : ℕ) → held_in bucket b (entries_in chosen n) ≡ suc k
    → (k < n) × (last_in bucket b (entries_in chosen n) ≡ Some (get_or chosen k (slot 0 0))) × (number_in bucket b (entries_in chosen n) ≡ k)
held_some bucket b chosen zero k h = absurd (omega arith)
held_some bucket b chosen (suc n) k h = go (eqb (bucket (get_or chosen n (slot 0 0))) b) h (held_some bucket b chosen n k)
  where
    go : (t : Bool) → cond t (suc (length (entries_in chosen n))) (held_in bucket b (entries_in chosen n)) ≡ suc k
        → (held_in bucket b (entries_in chosen n) ≡ suc k → (k < n) × (last_in bucket b (entries_in chosen n) ≡ Some (get_or chosen k (slot 0 0))) × (number_in bucket b (entries_in chosen n) ≡ k))
        → (k < suc n) × (cond t (Some (get_or chosen n (slot 0 0))) (last_in bucket b (entries_in chosen n)) ≡ Some (get_or chosen k (slot 0 0)))
        × (cond t (length (entries_in chosen n)) (number_in bucket b (entries_in chosen n)) ≡ k)
    go true h ih =
        let e : n ≡ k = omega (arith, length-entries chosen n) in
        (omega arith, ap (λ x. Some (get_or chosen x (slot 0 0))) e, length-entries chosen n ∙ e)
    go false h ih = let r = ih h in (omega (arith, r.0), r.1, r.2)

-- the chosen slots, by entry number
pub entries_take : (chosen : List Slot) (n : ℕ) → n ≤ length chosen → take n chosen ≡ reverse (entries_in chosen n)
entries_take chosen zero l = refl
entries_take chosen (suc n) l =
    let ih = entries_take chosen n (omega arith) in
    ap (λ k. take k chosen) (sym (add-one n)) ∙ take_more chosen n (slot 0 0) (omega arith) ∙ ap (λ xs. xs ++ get_or chosen n (slot 0 0) ∷ []) ih
    ∙ sym (reverse-cons (get_or chosen n (slot 0 0)) (entries_in chosen n))

-- an entry number is at most the number of entries before it
number_in_lem : {V : Type 0} (bucket : V → ℕ) (b : ℕ) (es : List V) → number_in bucket b es ≤ length es
number_in_lem bucket b [] = omega arith
number_in_lem bucket b (e ∷ es) = go (eqb (bucket e) b) (number_in_lem bucket b es)
  where
    go : (t : Bool) → number_in bucket b es ≤ length es → cond t (length es) (number_in bucket b es) ≤ suc (length es)
    go true h = omega arith
    go false h = omega arith

pub number_low : {V : Type 0} (same : V → V → Bool) (bucket : V → ℕ) (v : V) (es : List V) → number_of same bucket v es ≤ length es
number_low same bucket v es = go (is_new same bucket v es)
  where
    go : (t : Bool) → cond t (length es) (number_in bucket (bucket v) es) ≤ length es
    go true = omega arith
    go false = number_in_lem bucket (bucket v) es

-- a write above the entries leaves them
entries_kept : (chosen : List Slot) (s : Slot) (n k : ℕ) → k ≤ n → entries_in (set chosen n s) k ≡ entries_in chosen k
entries_kept chosen s n zero l = refl
entries_kept chosen s n (suc k) l =
    let ne : k ≢ n = omega arith in
    ap₂ (λ x y. x ∷ y) (get_or-set_other chosen n k s (slot 0 0) ne) (entries_kept chosen s n k (omega arith))

entries_more : (chosen : List Slot) (s : Slot) (n : ℕ) → n < length chosen → entries_in (set chosen n s) (n + 1) ≡ s ∷ entries_in chosen n
entries_more chosen s n l =
    rw add-one (ap₂ (λ x y. x ∷ y) (get_or-set_same chosen n s (slot 0 0) l) (entries_kept chosen s n n (omega arith)))

all_entry : (P : Slot → Type 0) (chosen : List Slot) (n k : ℕ) → k < n → AllByRecursion P (entries_in chosen n) → P (get_or chosen k (slot 0 0))
all_entry P chosen zero k l h = absurd (omega arith)
all_entry P chosen (suc n) k l h = go (eqb k n) refl (λ m. all_entry P chosen n k m h.1)
  where
    go : (t : Bool) → eqb k n ≡ t → (k < n → P (get_or chosen k (slot 0 0))) → P (get_or chosen k (slot 0 0))
    go true t ih = subst (λ x. P (get_or chosen x (slot 0 0))) (sym (eqb-true k n t)) h.0
    go false t ih = let ne = eqb-false k n t in ih (omega arith)

module _ {hash : List ℕ → ℕ} {bs : List ℕ} {ps : List Piece} {buckets : List ℕ} {chosen : List Slot} {n shift : ℕ}
    (stands : Standing hash bs ps buckets chosen n shift) where
  abbrev ts : List Taken
  ts = taken_all bs ps

  abbrev B : ℕ
  B = count_of_buckets (taken_all bs ps)

  abbrev es : List Slot
  es = entries_in chosen n

  abbrev same : Slot → Slot → Bool
  same = same_slot same_value (taken_all bs ps)

  abbrev bucket : Slot → ℕ
  bucket = slot_bucket hash (taken_all bs ps)

  -- the program's shift finds the bucket, which is one of the table's
  pub bucket_here : (s : Slot) (v : Value) (b : ℕ) → v ≡ value_of ts s → hash (hashed_as v) < 2 ^ 64 → b ≡ hash (hashed_as v) / 2 ^ shift → (b < B) × (bucket s ≡ b)
  bucket_here s v b e l f =
      let h : hash (hashed_as v) < B * 2 ^ shift = omega (arith, stands.whole) in
      let d : 2 ^ 64 / B ≡ 2 ^ shift = ap (λ x. x / B) (sym stands.whole) ∙ mul-div_cancel_left (2 ^ shift) (some B stands.whole) in
      (rw f ((div-lt_iff_lt-mul (pow_pos shift)).1 h), ap₂ (λ x y. hash (hashed_as x) / y) (sym e) d ∙ sym f)
    where
      some : (x : ℕ) → x * 2 ^ shift ≡ 2 ^ 64 → 0 < x
      some zero h = absurd (omega arith)
      some (suc x) h = omega arith

  pub held_slot : (b : ℕ) → b < B → HeldSlot ps chosen (get_or buckets b 0)
  held_slot b l = go (get_or buckets b 0) (sym (stands.table b l))
    where
      go : (x : ℕ) → held_in bucket b es ≡ x → HeldSlot ps chosen x
      go zero h = tt
      go (suc k) h =
          let r = held_some bucket b chosen n k h in
          (omega (arith, stands.fits, r.0), all_entry (SlotIn ps) chosen n k r.0 stands.within)

  -- the entry that the bucket of a slot holds, if it has the slot's value, decides whether the slot is new
  entry_known : (s : Slot) (b : ℕ) → bucket s ≡ b → b < B
      → held_entry ts chosen (get_or buckets b 0) (value_of ts s) ≡ cond (differs same s (last_in bucket b es)) None (Some (number_in bucket b es))
  entry_known s b e l = go (get_or buckets b 0) (sym (stands.table b l))
    where
      go : (x : ℕ) → held_in bucket b es ≡ x → held_entry ts chosen x (value_of ts s) ≡ cond (differs same s (last_in bucket b es)) None (Some (number_in bucket b es))
      go zero h = rw (held_none bucket b es h)
      go (suc k) h = let r = held_some bucket b chosen n k h in rw (r.1, r.2) (on (same (get_or chosen k (slot 0 0)) s))
        where
          on : (t : Bool) → cond t (Some k) None ≡ cond (cond t false true) None (Some k)
          on true = refl
          on false = refl

  pub as_known : (s : Slot) (v : Value) (b k : ℕ) → v ≡ value_of ts s → bucket s ≡ b → b < B → Some k ≡ held_entry ts chosen (get_or buckets b 0) v
      → Interns hash ts es s k false es
  as_known s v b k e f l h = go (is_new same bucket s es) refl
    where
      told : Some k ≡ cond (is_new same bucket s es) None (Some (number_in bucket (bucket s) es))
      told = h ∙ ap (held_entry ts chosen (get_or buckets b 0)) e ∙ subst (λ x. held_entry ts chosen (get_or buckets b 0) (value_of ts s) ≡ cond (differs same s (last_in bucket x es)) None (Some (number_in bucket x es))) (sym f) (entry_known s b f l)

      go : (t : Bool) → is_new same bucket s es ≡ t → Interns hash ts es s k false es
      go true t = let x = told in absurd cc
      go false t = let x = told in record { number = cc; fresh = sym t; entries = rw t }

  pub as_new : (s : Slot) (v : Value) (b : ℕ) → v ≡ value_of ts s → bucket s ≡ b → b < B → None ≡ held_entry ts chosen (get_or buckets b 0) v → n < length chosen
      → Interns hash ts es s n true (entries_in (set chosen n s) (n + 1))
  as_new s v b e f l h room = go (is_new same bucket s es) refl
    where
      told : None ≡ cond (is_new same bucket s es) None (Some (number_in bucket (bucket s) es))
      told = h ∙ ap (held_entry ts chosen (get_or buckets b 0)) e ∙ subst (λ x. held_entry ts chosen (get_or buckets b 0) (value_of ts s) ≡ cond (differs same s (last_in bucket x es)) None (Some (number_in bucket x es))) (sym f) (entry_known s b f l)

      go : (t : Bool) → is_new same bucket s es ≡ t → Interns hash ts es s n true (entries_in (set chosen n s) (n + 1))
      go true t = record { number = rw t (sym (length-entries chosen n)); fresh = sym t; entries = rw t (entries_more chosen s n room) }
      go false t = let x = told in absurd cc

  pub stands_more : (s : Slot) (b : ℕ) → SlotIn ps s → bucket s ≡ b → b < B → n < length chosen
      → Standing hash bs ps (set buckets b (n + 1)) (set chosen n s) (n + 1) shift
  stands_more s b h f l room =
      record {
        whole = stands.whole;
        low = stands.low;
        wide = rw length-set stands.wide;
        fits = rw length-set (omega arith);
        within = rw (entries_more chosen s n room) (h, stands.within);
        table = at;
      }
    where
      at : (x : ℕ) → x < B → get_or (set buckets b (n + 1)) x 0 ≡ held_in bucket x (entries_in (set chosen n s) (n + 1))
      at x m = rw (entries_more chosen s n room) (go (eqb (bucket s) x) refl)
        where
          go : (t : Bool) → eqb (bucket s) x ≡ t → get_or (set buckets b (n + 1)) x 0 ≡ cond t (suc (length es)) (held_in bucket x es)
          go true t =
              let z : b ≡ x = sym f ∙ eqb-true (bucket s) x t in
              subst (λ y. get_or (set buckets b (n + 1)) y 0 ≡ suc (length es)) z (get_or-set_same buckets b (n + 1) 0 (omega (arith, stands.wide)) ∙ add-one n ∙ ap suc (sym (length-entries chosen n)))
          go false t =
              let ne : x ≢ b = λ q. eqb-false (bucket s) x t (f ∙ sym q) in
              get_or-set_other buckets b x (n + 1) 0 ne ∙ stands.table x m

  -- a new entry, whatever the tables are called after it was written
  pub as_added : (s : Slot) (v : Value) (b : ℕ) → SlotIn ps s → v ≡ value_of ts s → bucket s ≡ b → b < B → None ≡ held_entry ts chosen (get_or buckets b 0) v → n < length chosen
      → (buckets' : List ℕ) (chosen' : List Slot) (n' shift' : ℕ) → buckets' ≡ set buckets b (n + 1) → chosen' ≡ set chosen n s → n' ≡ n + 1 → shift' ≡ shift
      → Interns hash ts es s n true (entries_in chosen' n') × Standing hash bs ps buckets' chosen' n' shift'
  as_added s v b h e f l k room buckets' chosen' n' shift' eb ec en es' =
      rw (eb, ec, en, es') (as_new s v b e f l k room, stands_more s b h f l room)

  pub answer_low : (s : Slot) (k : ℕ) (new : Bool) (after : List Slot) → Interns hash ts es s k new after → k ≤ n
  answer_low s k new after i =
      let l = number_low same bucket s es in
      let e = length-entries chosen n in
      rw i.number (subst (λ x. number_of same bucket s es ≤ x) e l)

-- a hash of equal meaning
pub stands_as : {hash hash' : List ℕ → ℕ} {bs : List ℕ} {ps : List Piece} {buckets : List ℕ} {chosen : List Slot} {n shift : ℕ} → hash ≡ hash'
    → Standing hash bs ps buckets chosen n shift → Standing hash' bs ps buckets chosen n shift
stands_as {bs = bs} {ps = ps} {buckets = buckets} {chosen = chosen} {n = n} {shift = shift} e h = subst (λ f. Standing f bs ps buckets chosen n shift) e h

-- kept over some slots, and over some more
pub kept_more : {hash hash' hash'' : List ℕ → ℕ} {d : Dictionaries} {i j k : Interner} → Kept hash hash' d i j → Kept hash' hash'' d j k → Kept hash hash'' d i k
kept_more h k =
    record {
      stands = stands_as h.same k.stands;
      lent = record {
        buckets = record { name = k.lent.buckets.name ∙ h.lent.buckets.name; long = k.lent.buckets.long ∙ h.lent.buckets.long };
        chosen = record { name = k.lent.chosen.name ∙ h.lent.chosen.name; long = k.lent.chosen.long ∙ h.lent.chosen.long };
      };
      same = k.same ∙ h.same;
    }

-- after all slots, the entries are the merge's
pub all_chosen : (hash : List ℕ → ℕ) (ts : List Taken) (chosen : List Slot) (n : ℕ) → n ≤ length chosen
    → entries_in chosen n ≡ walked same_value hash ts (slots_of ts) [] → (n ≡ length (chosen_slots same_value hash ts)) × (take n chosen ≡ chosen_slots same_value hash ts)
all_chosen hash ts chosen n l e =
    let w : entries_in chosen n ≡ entries_after (same_slot same_value ts) (slot_bucket hash ts) (used_slots ts) [] = e ∙ walk_entries same_value hash ts (slots_of ts) [] in
    let t : take n chosen ≡ chosen_slots same_value hash ts = entries_take chosen n l ∙ ap reverse w in
    (sym (length-take-le n chosen l) ∙ ap length t, t)
