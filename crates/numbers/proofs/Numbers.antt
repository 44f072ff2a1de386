use Rattle.std.proofs.Common.{◌≡◌, ℕ, zero, suc, ◌+◌, ◌-◌, ◌*◌, ◌/◌, ◌%◌, ◌^◌, ◌<◌, ◌≤◌, Bool, true, false, cond, List, [], ◌∷◌, length, get_or, take, reverse, sym, refl, ap, ap₂, ◌∙◌, pow-suc, div-one, arith, lit<}
use native.Mathlib.Nat.{pow-succ', pow-le-pow_right, div-div-eq-div-mul}
use Rattle.std.proofs.lemmas.List.{reverse-append}
use Rattle.std.proofs.lemmas.List.Sums.{fold-append}
use Rattle.std.proofs.lemmas.Nat.{or_shifted}
use Rattle.std.specs.Int.{byte_at, bytes_low_first}
use Rattle.std.specs.Int.Bits.{bit_or}
use Rattle.std.specs.List.{fold}
use lib.Pow.{ones_split, ones_lt, high}
use Rattle.numbers.specs.Little.{little, bytes_of, largest}

ones_shr : (j k : ℕ) → (2 ^ (j + k) - 1) / 2 ^ k ≡ 2 ^ j - 1
ones_shr j k = ap (λ n. n / 2 ^ k) (ones_split j k) ∙ high (2 ^ j - 1) k (ones_lt k)

top_of : (j k : ℕ) → j + k ≡ 64 → 18446744073709551615 / 2 ^ k ≡ 2 ^ j - 1
top_of j k e = ap (λ m. (2 ^ m - 1) / 2 ^ k) (sym e) ∙ ones_shr j k

pub largest_is : (s : Bool) (w : ℕ) → 1 ≤ w → w ≤ 8 → largest s w ≡ 18446744073709551615 / 2 ^ (64 + cond s 1 0 - 8 * w)
largest_is true w lo hi = sym (top_of (8 * w - 1) (64 + 1 - 8 * w) (omega arith))
largest_is false w lo hi = sym (top_of (8 * w - 0) (64 + 0 - 8 * w) (omega arith))

-- the bytes of a number, of any width
pub length-bytes_of : (w n : ℕ) → length (bytes_of w n) ≡ w
length-bytes_of zero n = refl
length-bytes_of (suc w) n = ap suc (length-bytes_of w (n / 256))

pub get_or-bytes_of : (w n i : ℕ) → i < w → get_or (bytes_of w n) i 0 ≡ n / 256 ^ i % 256
get_or-bytes_of zero n i lt = absurd (omega arith)
get_or-bytes_of (suc w) n zero lt = ap (λ m. m % 256) (sym (div-one n))
get_or-bytes_of (suc w) n (suc i) lt =
    get_or-bytes_of w (n / 256) i (omega arith)
    ∙ ap (λ m. m % 256) (div-div-eq-div-mul n 256 (256 ^ i) ∙ ap (λ m. n / m) (sym (pow-succ' 256 i)))

-- w bytes spell a number below 256 ^ w
pub little_below : (bs : List ℕ) → ((i : ℕ) → get_or bs i 0 < 256) → little bs < 256 ^ length bs
little_below [] f = lit< tt
little_below (b ∷ bs) f =
    let first = f 0 in
    let rest = little_below bs (λ i. f (suc i)) in
    omega (arith, pow-suc 256 (length bs))

-- the number n with the byte b below it
abbrev pub with_byte : ℕ → ℕ → ℕ
with_byte n b = bit_or (n * 2 ^ 8 % 2 ^ 64) b

with_byte_is : (n b : ℕ) → n < 256 ^ 7 → b < 256 → with_byte n b ≡ b + 256 * n
with_byte_is n b small byte =
    let fits : n * 2 ^ 8 % 2 ^ 64 ≡ n * 2 ^ 8 = omega arith in
    ap (λ m. bit_or m b) fits ∙ or_shifted n 8 b byte ∙ omega arith

-- up to eight bytes, taken from the highest on
pub little_from_high : (bs : List ℕ) → length bs ≤ 8 → ((i : ℕ) → get_or bs i 0 < 256) → fold with_byte 0 (reverse bs) ≡ little bs
little_from_high [] le f = refl
little_from_high (b ∷ bs) le f =
    let below = little_below bs (λ i. f (suc i)) in
    let most : 256 ^ length bs ≤ 256 ^ 7 = pow-le-pow_right (lit< tt) {i = length bs} {j = 7} (omega arith) in
    ap (fold with_byte 0) (reverse-append (b ∷ []) bs)
    ∙ fold-append with_byte 0 (reverse bs) (b ∷ [])
    ∙ ap (λ n. with_byte n b) (little_from_high bs (omega arith) (λ i. f (suc i)))
    ∙ with_byte_is (little bs) b (omega arith) (f 0)

byte_at_is : (i n : ℕ) → byte_at i n ≡ n / 256 ^ i % 256
byte_at_is zero n = ap (λ m. m % 256) (sym (div-one n))
byte_at_is (suc i) n = refl

next_quotient : (n i : ℕ) → n / 256 ^ suc i ≡ n / 256 ^ i / 256
next_quotient n i = ap (λ m. n / m) (pow-suc 256 i) ∙ sym (div-div-eq-div-mul n (256 ^ i) 256)

-- the lowest of the bytes that stand from byte i on
bytes_from : (w i k n : ℕ) → w ≤ k → take w (bytes_low_first i k n) ≡ bytes_of w (n / 256 ^ i)
bytes_from zero i k n le = refl
bytes_from (suc w) i zero n le = absurd (omega arith)
bytes_from (suc w) i (suc k) n le =
    ap₂ (λ b bs. b ∷ bs) (byte_at_is i n) (bytes_from w (suc i) k n (omega arith) ∙ ap (bytes_of w) (next_quotient n i))

pub lowest_bytes : (w n : ℕ) → w ≤ 8 → bytes_of w n ≡ take w (bytes_low_first 0 8 n)
lowest_bytes w n le = sym (bytes_from w 0 8 n le ∙ ap (bytes_of w) (div-one n))
