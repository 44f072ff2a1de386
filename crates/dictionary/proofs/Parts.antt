-- Bytes that are the same: parts by their numbers, and lists by a front and an end that cover them.
use Rattle.std.proofs.Common.{◌≡◌, ℕ, zero, suc, ◌+◌, ◌-◌, ◌*◌, ◌<◌, ◌≤◌, List, ◌∷◌, ◌++◌, length, get_or, take, drop, sym, refl, ap, ◌∙◌, ap₂, arith, drop-cons}
use Rattle.std.proofs.lemmas.List.{take-append-drop, take-take, take_all, length-drop}
use Rattle.numbers.specs.Little.{little}
use Rattle.numbers.specs.Puts.{part}

-- the numbers of two parts tell them apart, where every element is a byte
pub little_same : (w at : ℕ) (xs ys : List ℕ) → ((i : ℕ) → get_or xs i 0 < 256) → ((i : ℕ) → get_or ys i 0 < 256) → at + w ≤ length xs → at + w ≤ length ys
    → little (part xs at w) ≡ little (part ys at w) → part xs at w ≡ part ys at w
little_same zero at xs ys fx fy lx ly e = refl
little_same (suc w) at xs ys fx fy lx ly e =
    let a : part xs at (suc w) ≡ get_or xs at 0 ∷ part xs (suc at) w = ap (take (suc w)) (drop-cons xs at 0 (omega arith)) in
    let b : part ys at (suc w) ≡ get_or ys at 0 ∷ part ys (suc at) w = ap (take (suc w)) (drop-cons ys at 0 (omega arith)) in
    let s : get_or xs at 0 + 256 * little (part xs (suc at) w) ≡ get_or ys at 0 + 256 * little (part ys (suc at) w) = sym (ap little a) ∙ e ∙ ap little b in
    let x = fx at in
    let y = fy at in
    let h : get_or xs at 0 ≡ get_or ys at 0 = omega arith in
    let t : little (part xs (suc at) w) ≡ little (part ys (suc at) w) = omega arith in
    a ∙ ap₂ (λ p q. p ∷ q) h (little_same w (suc at) xs ys fx fy (omega arith) (omega arith) t) ∙ sym b

-- a front and an end that overlap cover the whole
pub covered : (i k : ℕ) (xs ys : List ℕ) → k ≤ i → take i xs ≡ take i ys → drop k xs ≡ drop k ys → xs ≡ ys
covered i k xs ys l f e =
    let t : take k xs ≡ take k ys = sym (take-take k i xs l) ∙ ap (take k) f ∙ take-take k i ys l in
    sym (take-append-drop k xs) ∙ ap₂ (λ a b. a ++ b) t e ∙ take-append-drop k ys

-- lists of one length whose first w elements and last w are the same, where these are all
pub ends_cover : (w : ℕ) (xs ys : List ℕ) → w ≤ length xs → length xs ≤ 2 * w → length xs ≡ length ys → part xs 0 w ≡ part ys 0 w
    → part xs (length xs - w) w ≡ part ys (length xs - w) w → xs ≡ ys
ends_cover w xs ys long short same front end =
    covered w (length xs - w) xs ys (omega arith) front (sym (whole_end xs (omega arith)) ∙ end ∙ whole_end ys (omega arith))
  where
    whole_end : (zs : List ℕ) → length zs ≤ length xs - w + w → part zs (length xs - w) w ≡ drop (length xs - w) zs
    whole_end zs l = take_all w (drop (length xs - w) zs) (omega (arith, length-drop (length xs - w) zs))
