-- The answers of a merge, and what it leaves.
use Rattle.std.proofs.Common.{◌≡◌, ℕ, ◌+◌, ◌*◌, ◌^◌, ◌<◌, ◌≤◌, Bool, true, false, cond, ◌&&◌, subst, ltb, leb, List, [], ◌∷◌, ◌++◌, length, get_or, take, drop, Ok, Err, Result, sym, refl, ap, ◌∙◌, arith, pow_pos}
use native.Mathlib.Nat.{eq_of_mul-eq-mul_right}
use Rattle.std.specs.Bool.{Decides}
use Rattle.std.specs.List.{All}
use Rattle.std.proofs.lemmas.Bool.Decides.{same_from_decides, Decides-by_and}
use Rattle.dictionary.proofs.Same.{same_record_lem}
use Rattle.std.proofs.lemmas.Bool.{lt-ltb, le-ltb}
use Rattle.std.proofs.lemmas.List.{length-append, length-drop, length-take-le, take_at}
use Rattle.format.specs.Rules.{both, every}
use Rattle.interning.specs.Values.{same_value}
use Rattle.interning.specs.Merging.{Taken, slots_of, used_slots, count_of_buckets, chosen_slots}
use Rattle.interning.specs.Buckets.{buckets_for}
use Rattle.records.specs.declared.slot.Slot.{Slot}
use Rattle.dictionary.specs.declared.merge.MergeFault.{MergeFault}
use Rattle.interning.proofs.Values.{equality}
use Rattle.interning.proofs.Merges as merges
use Rattle.dictionary.specs.declared.piece.Piece.{Piece}
use Rattle.dictionary.specs.declared.merge.MergeFault.TheVariants.{Scratch, Keys}
use Rattle.dictionary.specs.Pieces.{taken_all, PiecesOk}
use Rattle.dictionary.specs.Merges.{most_key, merge_answer, MergeLeaves, MergeContract, same_record, same_entries, mergeable, either, slot_total, row_total, should_merge}
use Rattle.dictionary.proofs.Slots.{slots_total, total_is}

-- each answer of a merge, by how large the tables are, and what it leaves
module _ (hash : List ℕ → ℕ) (most : ℕ) (ts : List Taken) (bucket_places : ℕ) (keys : List ℕ) (chosen : List Slot) where
  settled : (r : Result ℕ MergeFault) → r ≡ merge_answer hash most ts (length keys) bucket_places (length chosen) → MergeLeaves r hash ts keys chosen
      → MergeContract r hash most ts bucket_places keys chosen
  settled r e h = record { answer = e; leaves = h; merged = merges.merged same_value hash equality.lawful ts }

  pub no_keys : length keys < length (slots_of ts) → MergeContract (Err Scratch) hash most ts bucket_places keys chosen
  no_keys l = settled (Err Scratch) (rw (lt-ltb (length keys) (length (slots_of ts)) l)) tt

  module _ (fits : length (slots_of ts) ≤ length keys) where
    pub no_buckets : bucket_places < count_of_buckets ts → MergeContract (Err Scratch) hash most ts bucket_places keys chosen
    no_buckets l = settled (Err Scratch) (rw (le-ltb (length keys) (length (slots_of ts)) fits, lt-ltb bucket_places (count_of_buckets ts) l)) tt

    module _ (wide : count_of_buckets ts ≤ bucket_places) where
      pub no_chosen : length chosen < length (used_slots ts) → MergeContract (Err Scratch) hash most ts bucket_places keys chosen
      no_chosen l =
          settled (Err Scratch) (rw (le-ltb (length keys) (length (slots_of ts)) fits, le-ltb bucket_places (count_of_buckets ts) wide, lt-ltb (length chosen) (length (used_slots ts)) l)) tt

      -- n entries, against the largest key
      module _ (room : length (used_slots ts) ≤ length chosen) (n : ℕ) (e : n ≡ length (chosen_slots same_value hash ts)) where
        rest : cond (ltb (most + 1) n) (Err Keys) (Ok n) ≡ merge_answer hash most ts (length keys) bucket_places (length chosen)
        rest = rw (le-ltb (length keys) (length (slots_of ts)) fits, le-ltb bucket_places (count_of_buckets ts) wide, le-ltb (length chosen) (length (used_slots ts)) room, e)

        pub too_many : true ≡ ltb (most + 1) n → MergeContract (Err Keys) hash most ts bucket_places keys chosen
        too_many t = settled (Err Keys) (ap (λ x. cond x (Err Keys) (Ok n)) t ∙ rest) tt

        pub made : false ≡ ltb (most + 1) n → MergeLeaves (Ok n) hash ts keys chosen → MergeContract (Ok n) hash most ts bucket_places keys chosen
        made t h = settled (Ok n) (ap (λ x. cond x (Err Keys) (Ok n)) t ∙ rest) h

-- the part of the key table for T slots that was written, and the rest
module _ (ts : List Taken) (xs keys : List ℕ) (t : ℕ) (total : t ≡ length (slots_of ts)) (l : t ≤ length keys) (e : length xs ≡ length (take t keys)) where
  pub keys_fit : length (slots_of ts) ≤ length (xs ++ drop t keys)
  keys_fit = omega (arith, length-append xs (drop t keys), length-drop t keys, length-take-le t keys l)

  pub front_is : (ys : List ℕ) → xs ≡ ys → take (length (slots_of ts)) (xs ++ drop t keys) ≡ ys
  front_is ys f = ap (λ n. take n (xs ++ drop t keys)) (sym total) ∙ take_at xs (drop t keys) t (e ∙ length-take-le t keys l) ∙ f

-- the number of buckets, by the shift
pub count_is : (ts : List Taken) (u count shift : ℕ) → u ≡ length (used_slots ts) → buckets_for u * 2 ^ shift ≡ 2 ^ 64 → count * 2 ^ shift ≡ 2 ^ 64 → count ≡ count_of_buckets ts
count_is ts u count shift e b w = eq_of_mul-eq-mul_right (2 ^ shift) (pow_pos shift) count (buckets_for u) (w ∙ sym b) ∙ ap buckets_for e

-- where entries are flat or bytes, the rest of the rule decides
module _ (bs : List ℕ) (ps : List Piece) (ok : PiecesOk bs ps) (some : 0 < length ps) where
  same_first : (p : Piece) → p ≡ get_or ps 0 p → (t : Bool) → Decides t (All (λ q. q.entries ≡ p.entries) ps) → t ≡ same_entries ps
  same_first p first t d =
      let e : same_entries ps ≡ every (λ q. same_record p.entries q.entries) ps = go ps some first in
      same_from_decides t (same_entries ps) d
      (subst (λ x. Decides x (All (λ q. q.entries ≡ p.entries) ps)) (sym e)
      (Decides-by_and (λ q. same_record p.entries q.entries) (λ q. q.entries ≡ p.entries) (every (λ q. same_record p.entries q.entries)) (λ q. same_record_lem p.entries q.entries) refl (λ q qs. both_and (same_record p.entries q.entries) (every (λ x. same_record p.entries x.entries) qs)) ps))
    where
      go : (ps : List Piece) → 0 < length ps → p ≡ get_or ps 0 p → same_entries ps ≡ every (λ q. same_record p.entries q.entries) ps
      go [] l f = absurd (omega arith)
      go (q ∷ qs) l f = ap (λ x. every (λ y. same_record x.entries y.entries) (q ∷ qs)) (sym f)

      both_and : (x y : Bool) → both x y ≡ (x && y)
      both_and true y = refl
      both_and false y = refl

  leaf_first : mergeable ps ≡ true
  leaf_first = go ps ok some
    where
      go : (ps : List Piece) → PiecesOk bs ps → 0 < length ps → mergeable ps ≡ true
      go [] h l = absurd (omega arith)
      go (p ∷ ps) h l = (h 0 p l).leaf

  pub should_not : (p : Piece) → p ≡ get_or ps 0 p → (t : Bool) → Decides t (All (λ q. q.entries ≡ p.entries) ps) → t ≡ true → false ≡ should_merge ps
  should_not p first t d same_yes =
      let same : true ≡ same_entries ps = sym same_yes ∙ same_first p first t d in
      rw (leaf_first, ← same)

  pub should_is : (p : Piece) → p ≡ get_or ps 0 p → (t : Bool) → Decides t (All (λ q. q.entries ≡ p.entries) ps) → (r : Bool) (slots most rows : ℕ) → t ≡ false → r ≡ either (ltb most slots) (leb rows slots)
      → slots ≡ length (slots_of (taken_all bs ps)) → most ≡ most_key ps → rows ≡ row_total ps → r ≡ should_merge ps
  should_is p first t d r slots most rows differ e s m w =
      let same : false ≡ same_entries ps = sym differ ∙ same_first p first t d in
      let total : slots ≡ slot_total ps = s ∙ slots_total bs 0 ps ∙ sym (total_is (λ q. q.entries.length) ps) in
      rw (leaf_first, ← same) (e ∙ rw (total, m, w))
