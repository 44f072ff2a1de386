-- The hex digits: their codes, and what they stand for.
use Rattle.std.specs.Prelude.{ℕ, ◌+◌, ◌-◌, ◌*◌, cond, Some, None, Option, nat_le}

abbrev pub digit_of : ℕ → ℕ
digit_of n = cond (nat_le n 9) (48 + n) (87 + n)

abbrev pub within : ℕ → ℕ → ℕ → Option ℕ → Option ℕ → Option ℕ
within d low high yes-so else-so = cond (nat_le low d) (cond (nat_le d high) yes-so else-so) else-so

abbrev pub value_of : ℕ → Option ℕ
value_of d = within d 48 57 (Some (d - 48)) (within d 97 102 (Some (d - 87)) (within d 65 70 (Some (d - 55)) None))

-- Two digits, the high one first.
abbrev pub joined : Option ℕ → Option ℕ → Option ℕ
joined None l = None
joined (Some h) None = None
joined (Some h) (Some l) = Some (h * 16 + l)
