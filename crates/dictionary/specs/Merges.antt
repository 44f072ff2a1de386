-- The merge of dictionaries: what it answers, and what it leaves in the lent tables.
use Rattle.std.specs.Prelude.{◌≡◌, ℕ, ◌+◌, Bool, true, false, cond, List, [], ◌∷◌, map, length, take, Ok, Err, Result, ◌==◌, nat_le, nat_lt}
use Rattle.records.specs.declared.record.Record.{Record}
use Rattle.records.specs.declared.slot.Slot.{Slot}
use Rattle.numbers.specs.Little.{largest}
use Rattle.format.specs.Rules.{both, all_of, every, one_of, total}
use Rattle.interning.specs.Values.{same_value}
use Rattle.interning.specs.Merging.{Taken, slots_of, used_slots, count_of_buckets, chosen_slots, slot_keys}
use Rattle.interning.specs.Promises.{Merged}
use Rattle.dictionary.specs.declared.piece.Piece.{Piece}
use Rattle.dictionary.specs.declared.merge.MergeFault.{MergeFault}
use Rattle.dictionary.specs.declared.merge.MergeFault.TheVariants.{Scratch, Keys}
use Rattle.dictionary.specs.Tables.{in_table}

-- the largest key of the joined dictionary: its type is that of the first piece
abbrev pub most_key : List Piece → ℕ
most_key [] = 0
most_key (p ∷ ps) = largest (p.keys.size == 1) p.keys.width

-- the answer, where the tables have these many places: 'scratch' where the key table has fewer than T, the bucket table fewer than B or
-- the chosen table fewer than U; 'keys' where there are more entries than the largest key + 1; else the number of entries
abbrev pub merge_answer : (List ℕ → ℕ) → ℕ → List Taken → ℕ → ℕ → ℕ → Result ℕ MergeFault
merge_answer hash most ts key_places bucket_places chosen_places =
    cond (nat_lt key_places (length (slots_of ts))) (Err Scratch)
    (cond (nat_lt bucket_places (count_of_buckets ts)) (Err Scratch)
    (cond (nat_lt chosen_places (length (used_slots ts))) (Err Scratch)
    (cond (nat_lt (most + 1) (length (chosen_slots same_value hash ts))) (Err Keys)
    (Ok (length (chosen_slots same_value hash ts))))))

-- where it answers n entries, the key table begins with the keys of all slots, and the chosen table with the slots of the entries
abbrev pub MergeLeaves : Result ℕ MergeFault → (List ℕ → ℕ) → List Taken → List ℕ → List Slot → Type 0
MergeLeaves (Ok n) hash ts keys chosen =
    (take (length (slots_of ts)) keys ≡ map in_table (slot_keys same_value hash ts)) × (take n chosen ≡ chosen_slots same_value hash ts)
MergeLeaves (Err f) hash ts keys chosen = Unit {0}

-- THE CONTRACT of a merge that answers r; keys and chosen are those tables after it
pub record MergeContract (r : Result ℕ MergeFault) (hash : List ℕ → ℕ) (most : ℕ) (ts : List Taken) (bucket_places : ℕ) (keys : List ℕ) (chosen : List Slot) : Type 0 where
  pub answer : r ≡ merge_answer hash most ts (length keys) bucket_places (length chosen)
  pub leaves : MergeLeaves r hash ts keys chosen
  -- what this means: rows keep their values, entries are met, few and apart
  pub merged : Merged same_value hash ts

-- two records that are equal in every field
abbrev pub same_record : Record → Record → Bool
same_record r s =
    all_of ((r.root == s.root) ∷ (r.kind == s.kind) ∷ (r.width == s.width) ∷ (r.logic == s.logic) ∷ (r.size == s.size) ∷ (r.span == s.span)
    ∷ (r.start == s.start) ∷ (r.length == s.length) ∷ (r.nulls == s.nulls) ∷ (r.v == s.v) ∷ (r.a == s.a) ∷ (r.b == s.b)
    ∷ (r.count == s.count) ∷ [])

-- all pieces have the entries of the first
abbrev pub same_entries : List Piece → Bool
same_entries [] = true
same_entries (p ∷ ps) = every (λ q. same_record p.entries q.entries) (p ∷ ps)

-- the entries are flat or bytes
abbrev pub mergeable : List Piece → Bool
mergeable [] = false
mergeable (p ∷ ps) = one_of p.entries.kind (1 ∷ 3 ∷ [])

abbrev pub either : Bool → Bool → Bool
either x y = cond x true y

-- all slots, and the joined rows
abbrev pub slot_total : List Piece → ℕ
slot_total ps = total (λ p. p.entries.length) ps

abbrev pub row_total : List Piece → ℕ
row_total ps = total (λ p. p.keys.length) ps

-- entries are merged where they are flat or bytes, not all pieces have the same, and there are more slots than the largest key, or at
-- least as many as joined rows
abbrev pub should_merge : List Piece → Bool
should_merge ps =
    both (mergeable ps) (both (cond (same_entries ps) false true) (either (nat_lt (most_key ps) (slot_total ps)) (nat_le (row_total ps) (slot_total ps))))
