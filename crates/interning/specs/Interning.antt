-- Interning: a value has the number of the last entry in its bucket where that entry is the same value; else it is a new entry, with
-- the next number. Lists of entries so far, `es`, have the newest first; entries are numbered from 0, the oldest first.
use Rattle.std.specs.Prelude.{ℕ, Bool, true, false, cond, List, [], ◌∷◌, reverse, length, Some, None, Option, ◌==◌}

module _ {V : Type 0} (bucket : V → ℕ) where
  -- the last of some values that fell into bucket b
  abbrev pub last_in : ℕ → List V → Option V
  last_in b [] = None
  last_in b (e ∷ es) = cond (bucket e == b) (Some e) (last_in b es)

  -- and its number, where there is one
  abbrev pub number_in : ℕ → List V → ℕ
  number_in b [] = 0
  number_in b (e ∷ es) = cond (bucket e == b) (length es) (number_in b es)

-- an empty bucket, or one with a different value, takes the new value
abbrev pub differs : {V : Type 0} → (V → V → Bool) → V → Option V → Bool
differs same v None = true
differs same v (Some e) = cond (same e v) false true

module _ {V : Type 0} (same : V → V → Bool) (bucket : V → ℕ) where
  -- is v a new entry, after the entries es?
  abbrev pub is_new : V → List V → Bool
  is_new v es = differs same v (last_in bucket (bucket v) es)

  -- the entry number of v, and the entries after it
  abbrev pub number_of : V → List V → ℕ
  number_of v es = cond (is_new v es) (length es) (number_in bucket (bucket v) es)

  abbrev pub entries_with : V → List V → List V
  entries_with v es = cond (is_new v es) (v ∷ es) es

  -- the same for values one after another
  abbrev pub numbers_of : List V → List V → List ℕ
  numbers_of [] es = []
  numbers_of (v ∷ vs) es = number_of v es ∷ numbers_of vs (entries_with v es)

  abbrev pub entries_after : List V → List V → List V
  entries_after [] es = es
  entries_after (v ∷ vs) es = entries_after vs (entries_with v es)

  -- the entries that some values make, by number
  abbrev pub entries_of : List V → List V
  entries_of vs = reverse (entries_after vs [])
