-- Buckets: how many there are, and which one a value falls into.
use Rattle.std.specs.Prelude.{ℕ, zero, suc, ◌+◌, ◌*◌, ◌/◌, ◌^◌, cond, List, nat_lt}
use Rattle.interning.specs.Values.{Value, hashed_as}

-- the smallest power of two above n, up to 2 ^ k
abbrev pub power_above : ℕ → ℕ → ℕ
power_above zero n = 1
power_above (suc k) n = let p : ℕ = power_above k n in cond (nat_lt n p) p (2 * p)

-- how many buckets there are for u used slots: the smallest power of two above u + 128
unfoldable pub buckets_for : ℕ → ℕ
buckets_for u = power_above 64 (u + 128)

-- the bucket, among `count`, of a value: its 64-bit number divided by 2^64 / count, rounded down
abbrev pub bucket_among : (List ℕ → ℕ) → ℕ → Value → ℕ
bucket_among hash count v = hash (hashed_as v) / (2 ^ 64 / count)
