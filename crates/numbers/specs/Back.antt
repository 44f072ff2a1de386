-- A number up to a kind's largest comes back unchanged from its bytes.
use Rattle.std.specs.Prelude.{◌≡◌, ℕ, zero, suc, ◌+◌, ◌-◌, ◌*◌, ◌/◌, ◌^◌, ◌<◌, ◌≤◌, Bool, true, false, cond, pos, negsuc, Some, refl}
use Rattle.std.proofs.Common.{ap, sym, ◌∙◌, arith, pow-suc}
use Rattle.std.proofs.lemmas.Bool.{lt-ltb}
use Rattle.std.proofs.lemmas.Nat.{pow-add, pow_pos}
use Rattle.numbers.specs.Little.{little, bytes_of, largest, value_of, as_index, reading}

pub pow_bytes : (w : ℕ) → 256 ^ w ≡ 2 ^ (8 * w)
pow_bytes zero = refl
pow_bytes (suc w) =
    let e : 8 * suc w ≡ 8 * w + 8 = omega arith in
    pow-suc 256 w ∙ ap (λ n. n * 256) (pow_bytes w) ∙ sym (ap (λ k. 2 ^ k) e ∙ pow-add 2 (8 * w) 8)

little-bytes_of : (w n : ℕ) → n < 256 ^ w → little (bytes_of w n) ≡ n
little-bytes_of zero n lt = omega arith
little-bytes_of (suc w) n lt =
    let rest = little-bytes_of w (n / 256) (omega (arith, pow-suc 256 w)) in
    omega arith

pub reads_back : (s : Bool) (w : ℕ) → (1 ≤ w) × (w ≤ 8) → (n : ℕ) → n ≤ largest s w → reading s w (bytes_of w n) ≡ Some n
reads_back true w narrow n le =
    let half = 8 * w - 1 in
    let below : n < 2 ^ half = omega (arith, pow_pos half) in
    let both : 2 ^ (8 * w) ≡ 2 ^ half * 2 = (let e : 8 * w ≡ suc half = omega arith in ap (λ k. 2 ^ k) e ∙ pow-suc 2 half) in
    ap (λ m. as_index (value_of true w m)) (little-bytes_of w n (omega (arith, pow_bytes w)))
    ∙ ap (λ t. as_index (cond t (pos n) (negsuc (2 ^ (8 * w) - suc n)))) (lt-ltb n (2 ^ half) below)
reads_back false w narrow n le =
    let whole : 8 * w - 0 ≡ 8 * w = omega arith in
    ap (λ m. as_index (value_of false w m)) (little-bytes_of w n (omega (arith, pow_bytes w, pow_pos (8 * w), ap (λ k. 2 ^ k) whole)))
