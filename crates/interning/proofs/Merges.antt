-- Merging: what Promises.Merged says holds.
use Rattle.std.proofs.Common.{◌≡◌, ℕ, zero, suc, ◌+◌, ◌<◌, ◌≤◌, Bool, true, false, cond, eqb, List, [], ◌∷◌, length, get_or, take, Some, None, Option, sym, refl, ap, ◌∙◌, subst, ap₂, arith}
use Rattle.std.proofs.lemmas.Bool.{eqb-true, eq-eqb}
use Rattle.std.proofs.lemmas.List.Elements.{filter_passes}
use Rattle.std.proofs.lemmas.List.{length-map, get_or-map}
use Rattle.records.specs.declared.slot.Slot.{Slot}
use Rattle.interning.specs.Values.{Value, Sameness}
use Rattle.interning.specs.Interning.{numbers_of}
use Rattle.interning.specs.Merging.{Taken, points_to, slot, slots_of, input_at, value_of, is_used, used_slots, same_slot, slot_bucket, chosen_slots, merged_entries, slot_keys, key_of}
use Rattle.interning.specs.Promises.{Separates, Interned, Merged}
use Rattle.interning.proofs.Runs.{interned}
use Rattle.interning.proofs.Walks.{slots_at, slots_found, key_used, used_key}

-- a row's key points to its entry
pub points_to_lem : (ks : List (Option ℕ)) (r j : ℕ) → r < length ks → get_or ks r None ≡ Some j → points_to j ks ≡ true
points_to_lem [] r j l h = absurd (omega arith)
points_to_lem (None ∷ ks) zero j l h = absurd cc
points_to_lem (None ∷ ks) (suc r) j l h = points_to_lem ks r j (omega arith) h
points_to_lem (Some k ∷ ks) zero j l h = let e : k ≡ j = cc in ap (λ t. cond t true (points_to j ks)) (eq-eqb k j e)
points_to_lem (Some k ∷ ks) (suc r) j l h = go (eqb k j) (points_to_lem ks r j (omega arith) h)
  where
    go : (t : Bool) → points_to j ks ≡ true → cond t true (points_to j ks) ≡ true
    go true p = refl
    go false p = p

-- an entry that is pointed to is some row's
pub points_from : (ks : List (Option ℕ)) (j : ℕ) → points_to j ks ≡ true → (r : ℕ) × (r < length ks) × (get_or ks r None ≡ Some j)
points_from [] j h = absurd cc
points_from (None ∷ ks) j h = let r = points_from ks j h in (suc r.0, omega (arith, r.1), r.2)
points_from (Some k ∷ ks) j h = go (eqb k j) refl h (points_from ks j)
  where
    go : (t : Bool) → eqb k j ≡ t → cond t true (points_to j ks) ≡ true
        → (points_to j ks ≡ true → (r : ℕ) × (r < length ks) × (get_or ks r None ≡ Some j))
        → (r : ℕ) × (r < suc (length ks)) × (get_or (Some k ∷ ks) r None ≡ Some j)
    go true t h ih = (0, omega arith, ap Some (eqb-true k j t))
    go false t h ih = let r = ih h in (suc r.0, omega (arith, r.1), r.2)

-- slots are the same by the laws of their values
slot_laws : (same : Value → Value → Bool) (ts : List Taken) → Sameness same → Sameness (same_slot same ts)
slot_laws same ts laws =
    record {
      reflexive = λ s. laws.reflexive (value_of ts s);
      symmetric = λ s t. laws.symmetric (value_of ts s) (value_of ts t);
      transitive = λ s t u. laws.transitive (value_of ts s) (value_of ts t) (value_of ts u);
    }

module _ (same : Value → Value → Bool) (hash : List ℕ → ℕ) (laws : Sameness same) (ts : List Taken) where
  -- the used slots, interned
  slots_interned : Interned (same_slot same ts) (slot_bucket hash ts) (used_slots ts)
  slots_interned = interned (same_slot same ts) (slot_bucket hash ts) (slot_laws same ts laws) (used_slots ts)

  -- a merged entry for each chosen slot
  length_merged : length (merged_entries same hash ts) ≡ length (chosen_slots same hash ts)
  length_merged = length-map (chosen_slots same hash ts) (value_of ts)

  -- a merged entry is the value of its chosen slot
  merged_at : (n : ℕ) (d : Slot) → n < length (chosen_slots same hash ts)
      → get_or (merged_entries same hash ts) n None ≡ value_of ts (get_or (chosen_slots same hash ts) n d)
  merged_at n d l = get_or-map (value_of ts) (chosen_slots same hash ts) n d None l

  -- where entry j of input i is pointed to, its key is the number of a merged entry that is the same value
  pub key_right : (i j : ℕ) → i < length ts → j < length (input_at ts i).entries → is_used ts (slot i j) ≡ true
      → (n : ℕ) × (key_of same hash ts i j ≡ Some n) × (n < length (merged_entries same hash ts))
      × (same (get_or (merged_entries same hash ts) n None) (get_or (input_at ts i).entries j None) ≡ true)
  key_right i j l m h =
      let d : Slot = slot i j in
      let w = slots_at ts i j d l m in
      let r = key_used same hash ts (slots_of ts) [] (length (slots_of (take i ts)) + j) d w.0 (ap (is_used ts) w.1 ∙ h) in
      let u : ℕ = r.0 in
      let n : ℕ = get_or (numbers_of (same_slot same ts) (slot_bucket hash ts) (used_slots ts) []) u 0 in
      let b : n < length (chosen_slots same hash ts) = slots_interned.below u r.1.1 in
      let here : get_or (used_slots ts) u d ≡ d = sym r.1.2 ∙ w.1 in (
        n,
        r.1.3,
        subst (λ x. n < x) (sym length_merged) b,
        ap₂ same (merged_at n d b) (ap (value_of ts) (sym here)) ∙ slots_interned.right u d r.1.1,
      )

  -- every merged entry's number is the key of an entry that is pointed to
  pub key_met : (n : ℕ) → n < length (merged_entries same hash ts)
      → (i : ℕ) × (j : ℕ) × (i < length ts) × (is_used ts (slot i j) ≡ true) × (key_of same hash ts i j ≡ Some n)
  key_met n l =
      let d : Slot = slot 0 0 in
      let f = slots_interned.first n d (subst (λ x. n < x) length_merged l) in
      let r = used_key same hash ts (slots_of ts) [] f.0 d f.1 in
      let p = slots_found 0 ts r.0 r.1.0 in
      let w = slots_at ts p.0 p.1 d p.2 p.3 in
      let here : get_or (used_slots ts) f.0 d ≡ slot p.0 p.1 = sym r.1.2 ∙ ap (λ k. get_or (slots_of ts) k d) p.4 ∙ w.1 in
      let passes = filter_passes (is_used ts) (slots_of ts) f.0 d f.1 in (
        p.0,
        p.1,
        p.2,
        ap (is_used ts) (sym here) ∙ passes,
        ap (λ k. get_or (slot_keys same hash ts) k None) (sym p.4) ∙ r.1.3 ∙ ap Some f.2,
      )

  -- all that Merged says
  pub merged : Merged same hash ts
  merged =
      record {
        rows = λ i r j l b k m. key_right i j l m (points_to_lem (input_at ts i).keys r j b k);
        met = met;
        few = subst (λ x. x ≤ length (used_slots ts)) (sym length_merged) slots_interned.few;
        apart = apart;
      }
    where
      met : (n : ℕ) → n < length (merged_entries same hash ts)
          → (i : ℕ) × (r : ℕ) × (j : ℕ) × (i < length ts) × (r < length (input_at ts i).keys) × (get_or (input_at ts i).keys r None ≡ Some j)
          × (key_of same hash ts i j ≡ Some n)
      met n l =
          let k = key_met n l in
          let r = points_from (input_at ts k.0).keys k.1 k.3 in
          (k.0, r.0, k.1, k.2, r.1, r.2, k.4)

      apart : Separates (same_slot same ts) (slot_bucket hash ts) (used_slots ts)
          → (m n : ℕ) → m < n → n < length (merged_entries same hash ts)
          → same (get_or (merged_entries same hash ts) m None) (get_or (merged_entries same hash ts) n None) ≡ false
      apart s m n l b =
          let d : Slot = slot 0 0 in
          let c : n < length (chosen_slots same hash ts) = subst (λ x. n < x) length_merged b in
          ap₂ same (merged_at m d (omega arith)) (merged_at n d c) ∙ slots_interned.apart s m n d l c
