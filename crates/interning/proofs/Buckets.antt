-- The number of buckets, and the bucket of a value.
use Rattle.std.proofs.Common.{◌≡◌, ℕ, zero, suc, ◌+◌, ◌-◌, ◌*◌, ◌/◌, ◌^◌, ◌<◌, ◌≤◌, Bool, true, false, cond, ltb, ◌⊎◌, sym, refl, ap, ◌∙◌, subst, inl, inr, div-lt_iff_lt-mul, arith, pow-add}
use native.Mathlib.Nat.{one-le-pow, two-pow-succ, mul-div_cancel_left}
use Rattle.std.proofs.lemmas.Bool.{ltb-true, ltb-false}
use Rattle.interning.specs.Values.{hashed_as}
use Rattle.interning.specs.Buckets.{power_above, buckets_for}
use Rattle.interning.specs.Promises.{BucketsRight}

-- p is a power of two up to 2 ^ k, above n or else 2 ^ k itself, and its half is not above n unless p is 1
record Power (k n p : ℕ) : Type 0 where
  i : ℕ
  upto : i ≤ k
  is : p ≡ 2 ^ i
  half : (p ≤ n + n) ⊎ (p ≡ 1)
  above : (n < p) ⊎ (p ≡ 2 ^ k)

-- power_above gives such a power
power_is : (k n : ℕ) → Power k n (power_above k n)
power_is zero n = record { i = 0; upto = omega arith; is = refl; half = inr refl; above = inr refl }
power_is (suc k) n = go (power_above k n) (ltb n (power_above k n)) refl (power_is k n)
  where
    go : (p : ℕ) (t : Bool) → ltb n p ≡ t → Power k n p → Power (suc k) n (cond t p (2 * p))
    go p true t r = record { i = r.i; upto = omega arith; is = r.is; half = r.half; above = inl (ltb-true n p t) }
    go p false t r = let low : p ≤ n = ltb-false n p t in elim r.above [ inl b ↦ absurd (omega arith) | inr e ↦ twice low e ]
      where
        twice : p ≤ n → p ≡ 2 ^ k → Power (suc k) n (2 * p)
        twice low e =
            let q : 2 * p ≡ 2 ^ suc k = omega (arith, two-pow-succ k) in
            record { i = suc k; upto = omega arith; is = q; half = inl (omega arith); above = inr q }

-- where n is not 0 and below 2 ^ k, it is above n, and its half is not
power_right : (k n p : ℕ) → 0 < n → n < 2 ^ k → Power k n p → (n < p) × (p ≤ n + n)
power_right k n p z l r = (elim r.above [ inl x ↦ x | inr x ↦ omega arith ], elim r.half [ inl x ↦ x | inr x ↦ omega arith ])

-- its half, as a quotient
half_right : (p n : ℕ) → p ≤ n + n → p / 2 ≤ n
half_right p n l = omega arith

-- a number below 2 ^ m falls into one of 2 ^ i buckets
bucket_inside : (m i h : ℕ) → i ≤ m → h < 2 ^ m → h / (2 ^ m / 2 ^ i) < 2 ^ i
bucket_inside m i h l b =
    let k : ℕ = m - i in
    let z : m ≡ i + k = omega arith in
    let e : 2 ^ m ≡ 2 ^ i * 2 ^ k = ap (λ n. 2 ^ n) z ∙ pow-add 2 i k in
    let d : 2 ^ m / 2 ^ i ≡ 2 ^ k = ap (λ x. x / 2 ^ i) e ∙ mul-div_cancel_left (2 ^ k) (one-le-pow i 2 (omega arith)) in
    let c : h < 2 ^ i * 2 ^ k = subst (λ x. h < x) e b in
    subst (λ x. h / x < 2 ^ i) (sym d) ((div-lt_iff_lt-mul (one-le-pow k 2 (omega arith))).1 c)

-- all that BucketsRight says
pub buckets : (u : ℕ) → u + 128 < 2 ^ 64 → BucketsRight u
unfolding buckets_for
buckets u l =
    let r = power_is 64 (u + 128) in
    let w = power_right 64 (u + 128) (buckets_for u) (omega arith) l r in
    record {
      power = (r.i, r.upto, r.is);
      above = w.0;
      least = half_right (buckets_for u) (u + 128) w.1;
      inside = λ hash v b. subst (λ p. hash (hashed_as v) / (2 ^ 64 / p) < p) (sym r.is) (bucket_inside 64 r.i (hash (hashed_as v)) r.upto b);
    }
