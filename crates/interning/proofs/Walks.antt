-- The walk over all slots of a merge: where a slot stands, the entries so far, and the key of each slot.
use Rattle.std.proofs.Common.{◌≡◌, ℕ, zero, suc, ◌+◌, ◌-◌, ◌<◌, ◌≤◌, Bool, true, false, cond, List, [], ◌∷◌, ◌++◌, map, length, get_or, take, Some, None, filter, Option, sym, refl, ap, ◌∙◌, inl, inr, add-zero, zero-add, arith}
use Rattle.std.specs.List.{range_with_len}
use Rattle.std.proofs.lemmas.Bool.{cases_lt, both_ways}
use Rattle.std.proofs.lemmas.List.{length-append, get_or_append_left, get_or-append-add}
use Rattle.std.proofs.lemmas.List.FromFn.{length-map-range_with_len, get_or-map-range_with_len}
use Rattle.records.specs.declared.slot.Slot.{Slot}
use Rattle.interning.specs.Values.{Value}
use Rattle.interning.specs.Interning.{number_of, numbers_of, entries_with, entries_after}
use Rattle.interning.specs.Merging.{Taken, input_at, slot, slots_from, slots_of, is_used, same_slot, slot_bucket, key_here, keys_from, stepped, walked}

-- the slots of one input
abbrev own : ℕ → Taken → List Slot
own a t = map (slot a) (range_with_len 0 (length t.entries))

-- there are as many as entries
length-own : (a : ℕ) (t : Taken) → length (own a t) ≡ length t.entries
length-own a t = length-map-range_with_len (slot a) 0 (length t.entries)

-- entry j of input i stands, among the slots of inputs from number a on, after the slots of the inputs before it
slots_from_at : (a : ℕ) (ts : List Taken) (i j : ℕ) (d : Slot) → i < length ts → j < length (input_at ts i).entries
    → (length (slots_from a (take i ts)) + j < length (slots_from a ts)) × (get_or (slots_from a ts) (length (slots_from a (take i ts)) + j) d ≡ slot (a + i) j)
slots_from_at a [] i j d l m = absurd (omega arith)
slots_from_at a (t ∷ ts) zero j d l m =
    let e = length-own a t in
    let f = length-append (own a t) (slots_from (a + 1) ts) in (
      omega arith,
      ap (λ k. get_or (own a t ++ slots_from (a + 1) ts) k d) (zero-add j) ∙ get_or_append_left (own a t) (slots_from (a + 1) ts) d j (omega arith)
          ∙ get_or-map-range_with_len (slot a) 0 (length t.entries) j j d m (zero-add j) ∙ ap (λ k. slot k j) (sym (add-zero a)),
    )
slots_from_at a (t ∷ ts) (suc i) j d l m =
    let r = slots_from_at (a + 1) ts i j d (omega arith) m in
    let f = length-append (own a t) (slots_from (a + 1) ts) in
    let g = length-append (own a t) (slots_from (a + 1) (take i ts)) in
    let k : length (own a t ++ slots_from (a + 1) (take i ts)) + j ≡ length (own a t) + (length (slots_from (a + 1) (take i ts)) + j) = omega arith in
    let n : a + 1 + i ≡ a + suc i = omega arith in (
      omega (arith, r.0),
      ap (λ x. get_or (own a t ++ slots_from (a + 1) ts) x d) k ∙ get_or-append-add (own a t) (slots_from (a + 1) ts) _ d ∙ r.1 ∙ ap (λ x. slot x j) n,
    )

-- the place of slot (i, j) among all slots
pub slots_at : (ts : List Taken) (i j : ℕ) (d : Slot) → i < length ts → j < length (input_at ts i).entries
    → (length (slots_of (take i ts)) + j < length (slots_of ts)) × (get_or (slots_of ts) (length (slots_of (take i ts)) + j) d ≡ slot i j)
slots_at ts i j d l m = let r = slots_from_at 0 ts i j d l m in (r.0, r.1 ∙ ap (λ k. slot k j) (zero-add i))

-- every place among the slots is that of some slot (i, j)
pub slots_found : (a : ℕ) (ts : List Taken) (p : ℕ) → p < length (slots_from a ts)
    → (i : ℕ) × (j : ℕ) × (i < length ts) × (j < length (input_at ts i).entries) × (p ≡ length (slots_from a (take i ts)) + j)
slots_found a [] p l = absurd (omega arith)
slots_found a (t ∷ ts) p l = elim (cases_lt p (length (own a t))) [ inl x ↦ here x | inr x ↦ later x (slots_found (a + 1) ts) ]
  where
    Found : Type 0
    Found = (i : ℕ) × (j : ℕ) × (i < suc (length ts)) × (j < length (input_at (t ∷ ts) i).entries) × (p ≡ length (slots_from a (take i (t ∷ ts))) + j)

    here : p < length (own a t) → Found
    here x = (0, p, omega arith, omega (arith, length-own a t), sym (zero-add p))

    later : length (own a t) ≤ p
        → ((q : ℕ) → q < length (slots_from (a + 1) ts)
        → (i : ℕ) × (j : ℕ) × (i < length ts) × (j < length (input_at ts i).entries) × (q ≡ length (slots_from (a + 1) (take i ts)) + j))
        → Found
    later x ih =
        let r = ih (p - length (own a t)) (omega (arith, length-append (own a t) (slots_from (a + 1) ts))) in
        (suc r.0, r.1, omega (arith, r.2), r.3, omega (arith, r.4, length-append (own a t) (slots_from (a + 1) (take r.0 ts))))

-- place p among the slots ss is place u among the used ones us, and its key is the number there
abbrev pub Meets : List Slot → List Slot → List (Option ℕ) → List ℕ → Slot → ℕ → ℕ → Type 0
Meets ss us ks ns d p u = (p < length ss) × (u < length us) × (get_or ss p d ≡ get_or us u d) × (get_or ks p None ≡ Some (get_or ns u 0))

-- the same one place later, after a used slot
meets_used : (s d : Slot) (k : Option ℕ) (n : ℕ) (ss us : List Slot) (ks : List (Option ℕ)) (ns : List ℕ) (p u : ℕ)
    → Meets ss us ks ns d p u → Meets (s ∷ ss) (s ∷ us) (k ∷ ks) (n ∷ ns) d (suc p) (suc u)
meets_used s d k n ss us ks ns p u m = (omega (arith, m.0), omega (arith, m.1), m.2, m.3)

-- and after an unused one
meets_unused : (s d : Slot) (ss us : List Slot) (ks : List (Option ℕ)) (ns : List ℕ) (p u : ℕ)
    → Meets ss us ks ns d p u → Meets (s ∷ ss) us (None ∷ ks) ns d (suc p) u
meets_unused s d ss us ks ns p u m = (omega (arith, m.0), m.1, m.2, m.3)

module _ (same : Value → Value → Bool) (hash : List ℕ → ℕ) (ts : List Taken) where
  -- entries, numbers and keys of this merge
  abbrev with : Slot → List Slot → List Slot
  with s es = entries_with (same_slot same ts) (slot_bucket hash ts) s es

  abbrev number : Slot → List Slot → ℕ
  number s es = number_of (same_slot same ts) (slot_bucket hash ts) s es

  abbrev numbers : List Slot → List Slot → List ℕ
  numbers us es = numbers_of (same_slot same ts) (slot_bucket hash ts) us es

  abbrev used : List Slot → List Slot
  used ss = filter (is_used ts) ss

  abbrev keys : List Slot → List Slot → List (Option ℕ)
  keys ss es = keys_from same hash ts ss es

  -- a walk makes the entries of the used slots
  pub walk_entries : (ss es : List Slot) → walked same hash ts ss es ≡ entries_after (same_slot same ts) (slot_bucket hash ts) (filter (is_used ts) ss) es
  walk_entries [] es = refl
  walk_entries (s ∷ ss) es = go (is_used ts s) (walk_entries ss)
    where
      go : (t : Bool) → ((fs : List Slot) → walked same hash ts ss fs ≡ entries_after (same_slot same ts) (slot_bucket hash ts) (used ss) fs)
          → walked same hash ts ss (cond t (with s es) es) ≡ entries_after (same_slot same ts) (slot_bucket hash ts) (cond t (s ∷ used ss) (used ss)) es
      go true ih = ih (with s es)
      go false ih = ih es

  -- a walk in two parts
  pub walked_append : (ss rs es : List Slot) → walked same hash ts (ss ++ rs) es ≡ walked same hash ts rs (walked same hash ts ss es)
  walked_append [] rs es = refl
  walked_append (s ∷ ss) rs es = walked_append ss rs (stepped same hash ts s es)

  -- and its keys
  pub keys_append : (ss rs es : List Slot)
      → keys_from same hash ts (ss ++ rs) es ≡ keys_from same hash ts ss es ++ keys_from same hash ts rs (walked same hash ts ss es)
  keys_append [] rs es = refl
  keys_append (s ∷ ss) rs es = ap (λ ks. key_here same hash ts s es ∷ ks) (keys_append ss rs (stepped same hash ts s es))

  -- every slot has a key
  pub length-keys : (ss es : List Slot) → length (keys_from same hash ts ss es) ≡ length ss
  length-keys [] es = refl
  length-keys (s ∷ ss) es = ap suc (length-keys ss (stepped same hash ts s es))

  -- place p of the slots ss, walked after the entries es, is place u of the used ones
  abbrev pub Met : List Slot → List Slot → Slot → ℕ → ℕ → Type 0
  Met ss es d p u = Meets ss (used ss) (keys ss es) (numbers (used ss) es) d p u

  -- the same of s ∷ ss, where t says whether s is used
  abbrev MetBy : Bool → Slot → List Slot → List Slot → Slot → ℕ → ℕ → Type 0
  MetBy t s ss es d p u =
      Meets (s ∷ ss) (cond t (s ∷ used ss) (used ss)) (cond t (Some (number s es)) None ∷ keys ss (cond t (with s es) es)) (numbers (cond t (s ∷ used ss) (used ss)) es) d p u

  -- a used slot's key is its number among the used ones
  pub key_used : (ss es : List Slot) (p : ℕ) (d : Slot) → p < length ss → is_used ts (get_or ss p d) ≡ true
      → (u : ℕ) × Met ss es d p u
  key_used [] es p d l h = absurd (omega arith)
  key_used (s ∷ ss) es p d l h = go (is_used ts s) refl p l h (key_used ss)
    where
      go : (t : Bool) → is_used ts s ≡ t → (p : ℕ) → p < suc (length ss) → is_used ts (get_or (s ∷ ss) p d) ≡ true
          → ((fs : List Slot) (p : ℕ) (d : Slot) → p < length ss → is_used ts (get_or ss p d) ≡ true → (u : ℕ) × Met ss fs d p u)
          → (u : ℕ) × MetBy t s ss es d p u
      go true t zero l h ih = (0, (omega arith, omega arith, refl, refl))
      go false t zero l h ih = absurd (both_ways (is_used ts s) t h)
      go true t (suc p) l h ih =
          let r = ih (with s es) p d (omega arith) h in
          (suc r.0, meets_used s d (Some (number s es)) (number s es) ss (used ss) (keys ss (with s es)) (numbers (used ss) (with s es)) p r.0 r.1)
      go false t (suc p) l h ih =
          let r = ih es p d (omega arith) h in
          (r.0, meets_unused s d ss (used ss) (keys ss es) (numbers (used ss) es) p r.0 r.1)

  -- and every number of a used one is some slot's key
  pub used_key : (ss es : List Slot) (u : ℕ) (d : Slot) → u < length (filter (is_used ts) ss)
      → (p : ℕ) × Met ss es d p u
  used_key [] es u d l = absurd (omega arith)
  used_key (s ∷ ss) es u d l = go (is_used ts s) u l (used_key ss)
    where
      go : (t : Bool) (u : ℕ) → u < length (cond t (s ∷ used ss) (used ss))
          → ((fs : List Slot) (u : ℕ) (d : Slot) → u < length (used ss) → (p : ℕ) × Met ss fs d p u)
          → (p : ℕ) × MetBy t s ss es d p u
      go true zero l ih = (0, (omega arith, omega arith, refl, refl))
      go true (suc u) l ih =
          let r = ih (with s es) u d (omega arith) in
          (suc r.0, meets_used s d (Some (number s es)) (number s es) ss (used ss) (keys ss (with s es)) (numbers (used ss) (with s es)) r.0 u r.1)
      go false u l ih =
          let r = ih es u d l in
          (suc r.0, meets_unused s d ss (used ss) (keys ss es) (numbers (used ss) es) r.0 u r.1)
