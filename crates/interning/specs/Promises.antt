-- What holds of interning and merging, for every sameness, every hash and all values.
use Rattle.std.specs.Prelude.{◌≡◌, ℕ, ◌+◌, ◌/◌, ◌^◌, ◌<◌, ◌≤◌, Bool, true, false, List, [], reverse, length, take, Some, None, slice_index, slice_index_or}
use Rattle.interning.specs.Values.{Value, Sameness, same_value}
use Rattle.interning.specs.Buckets.{buckets_for, bucket_among}
use Rattle.interning.specs.Interning.{is_new, numbers_of, entries_of, entries_after}
use Rattle.interning.specs.Merging.{Taken, input_at, value_of, used_slots, slot_bucket, chosen_slots, merged_entries, slot_keys, key_of}

-- different values have different buckets, and values that are the same share one
pub record Separates {V : Type 0} (same : V → V → Bool) (bucket : V → ℕ) (vs : List V) : Type 0 where
  pub shares : (i j : ℕ) (d : V) → i < length vs → j < length vs → same (slice_index_or vs i d) (slice_index_or vs j d) ≡ true → bucket (slice_index_or vs i d) ≡ bucket (slice_index_or vs j d)
  pub parts : (i j : ℕ) (d : V) → i < length vs → j < length vs → bucket (slice_index_or vs i d) ≡ bucket (slice_index_or vs j d) → same (slice_index_or vs i d) (slice_index_or vs j d) ≡ true

-- INTERNING some values vs; `d` stands for a value beyond the end of a list
pub record Interned {V : Type 0} (same : V → V → Bool) (bucket : V → ℕ) (vs : List V) : Type 0 where
  -- each value has a number, that of an entry, and the entry at it is the same value
  pub numbered : length (numbers_of same bucket vs []) ≡ length vs
  pub below : (i : ℕ) → i < length vs → slice_index (numbers_of same bucket vs []) i < length (entries_of same bucket vs)
  pub right : (i : ℕ) (d : V) → i < length vs
      → same (slice_index_or (entries_of same bucket vs) (slice_index (numbers_of same bucket vs []) i) d) (slice_index_or vs i d) ≡ true
  -- entry n is the value that was the first to get number n, and all numbers before it were smaller: entries are in order of their
  -- first number, and every entry's number is some value's
  pub first : (n : ℕ) (d : V) → n < length (entries_of same bucket vs)
      → (i : ℕ) × (i < length vs) × (slice_index (numbers_of same bucket vs []) i ≡ n) × (slice_index_or (entries_of same bucket vs) n d ≡ slice_index_or vs i d)
      × ((k : ℕ) → k < i → slice_index (numbers_of same bucket vs []) k < n)
  -- entries never outnumber the values
  pub few : length (entries_of same bucket vs) ≤ length vs
  -- whether a value is new is read off the values before it alone: it is where, in its bucket, the last value before it differs, or
  -- there is none
  pub fresh : (i : ℕ) (d : V) → i < length vs
      → is_new same bucket (slice_index_or vs i d) (entries_after same bucket (take i vs) []) ≡ is_new same bucket (slice_index_or vs i d) (reverse (take i vs))
  -- no two entries are the same where different values have different buckets
  pub apart : Separates same bucket vs → (m n : ℕ) (d : V) → m < n → n < length (entries_of same bucket vs)
      → same (slice_index_or (entries_of same bucket vs) m d) (slice_index_or (entries_of same bucket vs) n d) ≡ false

-- MERGING some inputs ts
pub record Merged (same : Value → Value → Bool) (hash : List ℕ → ℕ) (ts : List Taken) : Type 0 where
  -- where row r of input i has key j, that key becomes the number of a merged entry that is the same value as entry j
  pub rows : (i r j : ℕ) → i < length ts → r < length (input_at ts i).keys → slice_index_or (input_at ts i).keys r None ≡ Some j → j < length (input_at ts i).entries
      → (n : ℕ) × (key_of same hash ts i j ≡ Some n) × (n < length (merged_entries same hash ts))
      × (same (slice_index_or (merged_entries same hash ts) n None) (slice_index_or (input_at ts i).entries j None) ≡ true)
  -- every entry's number is the key of some valid row
  pub met : (n : ℕ) → n < length (merged_entries same hash ts)
      → (i : ℕ) × (r : ℕ) × (j : ℕ) × (i < length ts) × (r < length (input_at ts i).keys) × (slice_index_or (input_at ts i).keys r None ≡ Some j)
      × (key_of same hash ts i j ≡ Some n)
  -- entries never outnumber used slots
  pub few : length (merged_entries same hash ts) ≤ length (used_slots ts)
  -- no two entries are the same where different used values have different buckets
  pub apart : Separates (λ s t. same (value_of ts s) (value_of ts t)) (slot_bucket hash ts) (used_slots ts)
      → (m n : ℕ) → m < n → n < length (merged_entries same hash ts)
      → same (slice_index_or (merged_entries same hash ts) m None) (slice_index_or (merged_entries same hash ts) n None) ≡ false

-- THE STATEMENTS
abbrev pub InterningRight : Type 0
InterningRight = (same : Value → Value → Bool) (bucket : Value → ℕ) → Sameness same → (vs : List Value) → Interned same bucket vs

abbrev pub MergingRight : Type 0
MergingRight = (same : Value → Value → Bool) (hash : List ℕ → ℕ) → Sameness same → (ts : List Taken) → Merged same hash ts

-- equality of bytes is a sameness, and what it finds the same is equal
pub record Equality : Type 0 where
  pub lawful : Sameness same_value
  pub told : (a b : Value) → same_value a b ≡ true → a ≡ b

-- two hashes of equal meaning give equal chosen slots, entries and keys; T, U and B do not depend on the hash
pub record SameMerge (same : Value → Value → Bool) (hash hash' : List ℕ → ℕ) (ts : List Taken) : Type 0 where
  pub chosen : chosen_slots same hash ts ≡ chosen_slots same hash' ts
  pub entries : merged_entries same hash ts ≡ merged_entries same hash' ts
  pub keys : slot_keys same hash ts ≡ slot_keys same hash' ts

abbrev pub MeaningDecides : Type 0
MeaningDecides = (same : Value → Value → Bool) (hash hash' : List ℕ → ℕ) → ((bs : List ℕ) → hash bs ≡ hash' bs) → (ts : List Taken) → SameMerge same hash hash' ts

-- the number of buckets is a power of two above u + 128, and its half is not; a value's bucket is one of them
pub record BucketsRight (u : ℕ) : Type 0 where
  pub power : (k : ℕ) × (k ≤ 64) × (buckets_for u ≡ 2 ^ k)
  pub above : u + 128 < buckets_for u
  pub least : buckets_for u / 2 ≤ u + 128
  pub inside : (hash : List ℕ → ℕ) (v : Value) → hash (Rattle.interning.specs.Values.hashed_as v) < 2 ^ 64 → bucket_among hash (buckets_for u) v < buckets_for u

abbrev pub AllBucketsRight : Type 0
AllBucketsRight = (u : ℕ) → u + 128 < 2 ^ 64 → BucketsRight u
