-- Values: absent, or a string of bytes.
use Rattle.std.specs.Prelude.{◌≡◌, ℕ, Bool, true, false, List, [], Some, None, Option}
use Rattle.std.specs.Str.{bytes_eq}

abbrev pub Value : Type 0
Value = Option (List ℕ)

-- the string that is hashed for a value: an absent one is hashed as the empty string
abbrev pub hashed_as : Value → List ℕ
hashed_as None = []
hashed_as (Some bs) = bs

-- equality of bytes: an absent value is the same only as an absent one, not as the empty string
abbrev pub same_value : Value → Value → Bool
same_value None None = true
same_value None (Some y) = false
same_value (Some x) None = false
same_value (Some x) (Some y) = bytes_eq x y

-- what a sameness of values owes: its three laws
pub record Sameness {V : Type 0} (same : V → V → Bool) : Type 0 where
  pub reflexive : (a : V) → same a a ≡ true
  pub symmetric : (a b : V) → same a b ≡ true → same b a ≡ true
  pub transitive : (a b c : V) → same a b ≡ true → same b c ≡ true → same a c ≡ true
