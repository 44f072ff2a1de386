use Rattle.std.proofs.Common.{◌≡◌, ℕ, ◌+◌, ◌-◌, ◌<◌, ◌≤◌, List, [], ◌∷◌, ◌++◌, length, take, drop, set, sym, refl, ap, ◌∙◌, add-zero, add-one, arith}
use borrow.Rule.Slice.PartMut.{put_mid}
use lib.Seq.{paste}
use Rattle.std.proofs.lemmas.List.{drop-drop, length-append, length-take-le, length-drop, take-append-drop, take-append-le, take-take, drop-take, set_split}
use Rattle.std.proofs.lemmas.List.Edits.{paste-paste, paste_all}
use Rattle.numbers.specs.Puts.{put, part}

-- a write to `&mut xs[a..a + k]` is a `put`
pub mid_put : {X : Type 0} (a k : ℕ) (xs ys : List X) → k ≡ length ys → put_mid a k xs ys ≡ put a ys xs
mid_put a k xs ys e = ap (λ r. take a xs ++ (ys ++ r)) (drop-drop k a xs ∙ ap (λ m. drop (a + m) xs) e)

pub length_part : {X : Type 0} (d : List X) (at n : ℕ) → at + n ≤ length d → length (part d at n) ≡ n
length_part d at n le = length-take-le n (drop at d) (omega (arith, length-drop at d))

pub length-put : {X : Type 0} (at : ℕ) (s d : List X) → at + length s ≤ length d → length (put at s d) ≡ length d
length-put at s d le =
    omega (arith, length-append (take at d) (s ++ drop (at + length s) d), length-append s (drop (at + length s) d), length-take-le at d (omega arith), length-drop (at + length s) d)

-- nothing written
pub put_none : {X : Type 0} (at : ℕ) (d : List X) → put at [] d ≡ d
put_none at d = ap (λ m. take at d ++ drop m d) (add-zero at) ∙ take-append-drop at d

-- one write after another
pub put_more : {X : Type 0} (at : ℕ) (s t d : List X) → at ≤ length d → put (at + length s) t (put at s d) ≡ put at (s ++ t) d
put_more at s t d le =
    sym (paste_all (put at s d) (at + length s) t (length t) refl)
    ∙ ap (λ x. paste x (at + length s) t (length t)) (sym (paste_all d at s (length s) refl))
    ∙ paste-paste d at s t (length s) (length t) refl refl le
    ∙ paste_all d at (s ++ t) (length s + length t) (sym (length-append s t))
    ∙ ap (λ m. take at d ++ ((s ++ t) ++ drop (at + m) d)) (sym (length-append s t))

-- what lies below a place that two lists share
pub part_front : {X : Type 0} (from n at : ℕ) (d : List X) → from + n ≤ at → at ≤ length d → part d from n ≡ part (take at d) from n
part_front from n at d le within =
    sym (take-take n (at - from) (drop from d) (omega arith))
    ∙ ap (take n) (sym (drop-take from (at - from) d))
    ∙ ap (λ m. take n (drop from (take m d))) (omega arith)

pub part_same : {X : Type 0} (from n at : ℕ) (d e : List X) → from + n ≤ at → at ≤ length d → at ≤ length e → take at d ≡ take at e → part d from n ≡ part e from n
part_same from n at d e le wd we same =
    part_front from n at d le wd ∙ ap (λ x. part x from n) same ∙ sym (part_front from n at e le we)

pub take_put : {X : Type 0} (m at : ℕ) (s d : List X) → m ≤ at → at ≤ length d → take m (put at s d) ≡ take m d
take_put m at s d le within =
    let long = length-take-le at d within in
    take-append-le m (take at d) (s ++ drop (at + length s) d) (omega arith) ∙ take-take m at d le

-- one element written is a `put`
pub set_put : {X : Type 0} (d : List X) (at : ℕ) (x : X) → at < length d → set d at x ≡ put at (x ∷ []) d
set_put d at x h = set_split d at x h ∙ ap (λ n. take at d ++ (x ∷ drop n d)) (sym (add-one at))
