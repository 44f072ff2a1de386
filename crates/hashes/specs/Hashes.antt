-- Functions from strings of bytes to 64-bit numbers.
use Rattle.std.specs.Prelude.{ℕ, zero, suc, ◌+◌, ◌*◌, ◌%◌, ◌^◌, List, bit_xor, slice_index}
use Rattle.std.specs.List.{fold}

-- one byte of FNV-1a: the byte is mixed in, then the prime multiplies, modulo 2^64
abbrev pub fnv_step : ℕ → ℕ → ℕ
fnv_step h b = bit_xor h b * 1099511628211 % 2 ^ 64

-- FNV-1a with 64 bits: the bytes one after another, from its offset basis on
abbrev pub fnv1a : List ℕ → ℕ
fnv1a bs = fold fnv_step 14695981039346656037 bs

-- the first n bytes as a number, the highest first; a byte past the end is 0
abbrev pub leading : ℕ → List ℕ → ℕ
leading zero bs = 0
leading (suc n) bs = leading n bs * 256 + slice_index bs n

abbrev pub lead : List ℕ → ℕ
lead bs = leading 8 bs
