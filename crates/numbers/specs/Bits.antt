-- Bitmaps: bit n is bit n mod 8 of byte n div 8, the lowest first.
use Rattle.std.specs.Prelude.{ℕ, ◌+◌, ◌/◌, ◌%◌, ◌^◌, Bool, List, ◌==◌, slice_index}

-- bit n of the bitmap at byte p
abbrev pub bit_at : List ℕ → ℕ → ℕ → Bool
bit_at bs p n = (slice_index bs (p + n / 8) / 2 ^ (n % 8)) % 2 == 1

-- the bytes that n bits take
abbrev pub bit_bytes : ℕ → ℕ
bit_bytes n = (n + 7) / 8
