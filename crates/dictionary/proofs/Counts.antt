-- The number of buckets by shifts, and the largest key.
use Rattle.std.proofs.Common.{◌≡◌, ℕ, zero, suc, ◌+◌, ◌-◌, ◌*◌, ◌/◌, ◌^◌, ◌<◌, ◌≤◌, Bool, true, false, cond, eqb, List, [], ◌∷◌, sym, refl, ap, ◌∙◌, subst, ap₂, arith, pow-add}
use native.Mathlib.Decide.{dec_lt}
use lib.Count.{count_leading_zeros, leading_unique}
use Rattle.std.specs.List.{AllByRecursion}
use Rattle.std.proofs.lemmas.Bool.{eqb-true}
use Rattle.format.specs.Meaning.{kind_of, dictionary}
use Rattle.format.specs.Rules.{all_of, one_of, record_rules, kind_rules}
use Rattle.format.proofs.Tests.{no_way, all_of_lem}
use Rattle.interning.specs.Buckets.{buckets_for}
use Rattle.interning.specs.Promises.{BucketsRight}
use Rattle.interning.proofs.Buckets.{buckets}
use Rattle.dictionary.specs.declared.piece.Piece.{Piece}
use Rattle.dictionary.specs.Pieces.{PieceOk}

-- the shift of a power of two
pub shifted : (k : ℕ) → k ≤ 64 → 2 ^ (64 - k) * 2 ^ k ≡ 2 ^ 64
shifted k l = let e : 64 - k + k ≡ 64 = omega arith in sym (pow-add 2 (64 - k) k) ∙ ap (λ x. 2 ^ x) e

shifts : (u : ℕ) → u < 2 ^ 40 → (buckets_for u * 2 ^ count_leading_zeros 64 (u + 128) ≡ 2 ^ 64) × (count_leading_zeros 64 (u + 128) < 64) × (0 < count_leading_zeros 64 (u + 128))
shifts u l = go b.power.0 b.power.1 b.power.2
  where
    b : BucketsRight u
    b = buckets u (omega arith)

    go : (k : ℕ) → k ≤ 64 → buckets_for u ≡ 2 ^ k
        → (buckets_for u * 2 ^ count_leading_zeros 64 (u + 128) ≡ 2 ^ 64) × (count_leading_zeros 64 (u + 128) < 64) × (0 < count_leading_zeros 64 (u + 128))
    go k up e =
        let above : u + 128 < 2 ^ k = rw (← e) b.above in
        let least : 2 ^ k / 2 ≤ u + 128 = rw (← e) b.least in
        let z : 64 - k ≡ count_leading_zeros 64 (u + 128) = leading_unique 64 (u + 128) (64 - k) k (omega arith) above (omega arith) in
        let some = positive k above in
        let low = below k up least in
        let m : 64 - (64 - k) ≡ k = omega arith in
        let s : 2 ^ k * 2 ^ (64 - k) ≡ 2 ^ 64 = subst (λ x. 2 ^ x * 2 ^ (64 - k) ≡ 2 ^ 64) m (shifted (64 - k) (omega arith)) in
        (ap₂ (λ x y. x * 2 ^ y) e (sym z) ∙ s, omega arith, omega arith)
      where
        positive : (k : ℕ) → u + 128 < 2 ^ k → 0 < k
        positive zero h = absurd (omega arith)
        positive (suc k) h = omega arith

        below : (k : ℕ) → k ≤ 64 → 2 ^ k / 2 ≤ u + 128 → k < 64
        below k up h = elim (dec_lt k 64) [ yes x ↦ x | no x ↦ (let e : k ≡ 64 = omega arith in let f : 2 ^ 64 / 2 ≤ u + 128 = subst (λ x. 2 ^ x / 2 ≤ u + 128) e h in absurd (omega arith)) ]

pub shift_whole : (u : ℕ) → u < 2 ^ 40 → buckets_for u * 2 ^ count_leading_zeros 64 (u + 128) ≡ 2 ^ 64
shift_whole u l = (shifts u l).0

pub shift_low : (u : ℕ) → u < 2 ^ 40 → count_leading_zeros 64 (u + 128) < 64
shift_low u l = (shifts u l).1

pub shift_some : (u : ℕ) → u < 2 ^ 40 → 0 < count_leading_zeros 64 (u + 128)
shift_some u l = (shifts u l).2

-- the width of keys is that of a number
one_of_lem : (P : ℕ → Type 0) (x : ℕ) (ys : List ℕ) → AllByRecursion P ys → one_of x ys ≡ true → P x
one_of_lem P x [] a h = no_way h
one_of_lem P x (y ∷ ys) a h = go (eqb x y) refl h (one_of_lem P x ys a.1)
  where
    go : (t : Bool) → eqb x y ≡ t → cond t true (one_of x ys) ≡ true → (one_of x ys ≡ true → P x) → P x
    go true t h ih = subst P (sym (eqb-true x y t)) a.0
    go false t h ih = ih h

pub key_width : (bs : List ℕ) (p : Piece) → PieceOk bs p → (1 ≤ p.keys.width) × (p.keys.width ≤ 8)
key_width bs p h =
    let ks = p.entries ∷ [] in
    let t : all_of (kind_rules bs p.keys ks (kind_of p.keys.kind)) ≡ true = (all_of_lem (record_rules bs p.keys ks) h.keys).1.1.1.0 in
    let d : all_of (kind_rules bs p.keys ks dictionary) ≡ true = subst (λ k. all_of (kind_rules bs p.keys ks k) ≡ true) (ap kind_of h.kind) t in
    one_of_lem (λ w. (1 ≤ w) × (w ≤ 8)) p.keys.width (1 ∷ 2 ∷ 4 ∷ 8 ∷ [])
    ((omega arith, omega arith), ((omega arith, omega arith), ((omega arith, omega arith), ((omega arith, omega arith), tt)))) (all_of_lem (kind_rules bs p.keys ks dictionary) d).0
