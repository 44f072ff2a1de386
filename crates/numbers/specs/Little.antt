-- Little-endian numbers of an index kind: `w` bytes wide, signed or not.
use Rattle.std.specs.Prelude.{ℕ, zero, suc, ◌+◌, ◌-◌, ◌*◌, ◌/◌, ◌%◌, ◌^◌, Bool, true, false, cond, List, [], ◌∷◌, take, drop, ℤ, pos, negsuc, Some, None, Option, nat_lt}

-- the number whose bytes these are, the lowest first
abbrev pub little : List ℕ → ℕ
little [] = 0
little (b ∷ bs) = b + 256 * little bs

-- the w lowest bytes of n, the lowest first
abbrev pub bytes_of : ℕ → ℕ → List ℕ
bytes_of zero n = []
bytes_of (suc w) n = n % 256 ∷ bytes_of w (n / 256)

-- number j of those that stand one after another from byte p on, read without a sign
abbrev pub number_at : List ℕ → ℕ → ℕ → ℕ → ℕ
number_at bs p w j = little (take w (drop (p + j * w) bs))

-- the largest number of a kind: one bit is the sign's where it has one
abbrev pub largest : Bool → ℕ → ℕ
largest s w = 2 ^ (8 * w - cond s 1 0) - 1

-- a signed kind has the numbers whose highest bit is clear and, below 0, those whose highest bit is set
abbrev pub not_negative : Bool → ℕ → ℕ → Bool
not_negative true w n = nat_lt n (2 ^ (8 * w - 1))
not_negative false w n = true

-- two's complement: the number of the kind whose bytes spell n without a sign
abbrev pub value_of : Bool → ℕ → ℕ → ℤ
value_of s w n = cond (not_negative s w n) (pos n) (negsuc (2 ^ (8 * w) - suc n))

-- a number as an index: nothing where it is negative
abbrev pub as_index : ℤ → Option ℕ
as_index (pos n) = Some n
as_index (negsuc n) = None

-- the index that these w bytes spell
abbrev pub reading : Bool → ℕ → List ℕ → Option ℕ
reading s w bs = as_index (value_of s w (little bs))
