-- Merged dictionaries: the entries are the interned values of the used slots, and a key is its slot's entry number.
use Rattle.std.specs.Prelude.{ℕ, ◌+◌, Bool, true, false, cond, List, [], ◌∷◌, ◌++◌, map, length, take, Some, None, filter, Option, ◌==◌, slice_index_or}
use Rattle.std.specs.List.{range_with_len}
use Rattle.records.specs.declared.slot.Slot.{Slot}
use Rattle.interning.specs.Values.{Value}
use Rattle.interning.specs.Buckets.{buckets_for, bucket_among}
use Rattle.interning.specs.Interning.{number_of, entries_with, entries_of}

-- what a merge takes of one input: the key of each row, none where the row is null, and the entries
pub record Taken : Type 0 where
  pub keys : List (Option ℕ)
  pub entries : List Value

abbrev pub nothing_taken : Taken
nothing_taken = record { keys = []; entries = [] }

-- does a key of a valid row point to entry j?
abbrev pub points_to : ℕ → List (Option ℕ) → Bool
points_to j [] = false
points_to j (None ∷ ks) = points_to j ks
points_to j (Some k ∷ ks) = cond (k == j) true (points_to j ks)

abbrev pub slot : ℕ → ℕ → Slot
slot i j = record { input = i; entry = j }

-- the slots of input i, which has n entries, in rising entry number
abbrev pub slots_in : ℕ → ℕ → List Slot
slots_in i n = map (slot i) (range_with_len 0 n)

-- the slots of inputs from number i on, input by input
abbrev pub slots_from : ℕ → List Taken → List Slot
slots_from i [] = []
slots_from i (t ∷ ts) = slots_in i (length t.entries) ++ slots_from (i + 1) ts

-- all slots; T is their number
abbrev pub slots_of : List Taken → List Slot
slots_of ts = slots_from 0 ts

module _ (ts : List Taken) where
  abbrev pub input_at : ℕ → Taken
  input_at i = slice_index_or ts i nothing_taken

  -- the value of a slot
  abbrev pub value_of : Slot → Value
  value_of s = slice_index_or (input_at s.input).entries s.entry None

  -- a slot is used where a valid key of its input points to it
  abbrev pub is_used : Slot → Bool
  is_used s = points_to s.entry (input_at s.input).keys

  -- the used slots; U is their number
  abbrev pub used_slots : List Slot
  used_slots = filter is_used (slots_of ts)

  -- B, the number of buckets
  abbrev pub count_of_buckets : ℕ
  count_of_buckets = buckets_for (length used_slots)

-- slots are the same where their values are
abbrev pub same_slot : (Value → Value → Bool) → List Taken → Slot → Slot → Bool
same_slot same ts s t = same (value_of ts s) (value_of ts t)

abbrev pub slot_bucket : (List ℕ → ℕ) → List Taken → Slot → ℕ
slot_bucket hash ts s = bucket_among hash (count_of_buckets ts) (value_of ts s)

module _ (same : Value → Value → Bool) (hash : List ℕ → ℕ) (ts : List Taken) where
  -- the slots that become entries, by entry number
  abbrev pub chosen_slots : List Slot
  chosen_slots = entries_of (same_slot same ts) (slot_bucket hash ts) (used_slots ts)

  -- the merged entries
  abbrev pub merged_entries : List Value
  merged_entries = map (value_of ts) chosen_slots

  -- one slot after the entries es: its key, the entry number of a used slot, and the entries after it
  abbrev pub key_here : Slot → List Slot → Option ℕ
  key_here s es = cond (is_used ts s) (Some (number_of (same_slot same ts) (slot_bucket hash ts) s es)) None

  abbrev pub stepped : Slot → List Slot → List Slot
  stepped s es = cond (is_used ts s) (entries_with (same_slot same ts) (slot_bucket hash ts) s es) es

  -- the same for slots one after another
  abbrev pub keys_from : List Slot → List Slot → List (Option ℕ)
  keys_from [] es = []
  keys_from (s ∷ ss) es = key_here s es ∷ keys_from ss (stepped s es)

  abbrev pub walked : List Slot → List Slot → List Slot
  walked [] es = es
  walked (s ∷ ss) es = walked ss (stepped s es)

  -- the key of every slot
  abbrev pub slot_keys : List (Option ℕ)
  slot_keys = keys_from (slots_of ts) []

  -- the merged key that stands for key j of input i
  abbrev pub key_of : ℕ → ℕ → Option ℕ
  key_of i j = slice_index_or slot_keys (length (slots_of (take i ts)) + j) None
