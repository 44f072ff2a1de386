use Rattle.std.proofs.Common.{◌≡◌, ℕ, ◌+◌, ◌-◌, ◌≤◌, List, [], ◌∷◌, length, take, set, ap, ◌∙◌, arith}
use Rattle.numbers.specs.Puts.{put, part}
use Rattle.records.specs.declared.record.Record.{Record}
use Rattle.format.specs.Trees.{rec_at}
use Rattle.format.specs.Moves.{window, sliced}
use Rattle.numbers.proofs.Places.{put_more, part_same, part_front, take_put, length-put}
use Rattle.numbers.proofs.Places.{set_put}

-- one element written at a place, and then a part from below it
pub head_and_part : {X : Type 0} (d : List X) (at from n : ℕ) (x : X) → from + n ≤ at → at + (1 + n) ≤ length d
    → put (at + 1) (part (set d at x) from n) (set d at x) ≡ put at (x ∷ part (take at d) from n) d
head_and_part d at from n x le fit =
    let e = set_put d at x (omega arith) in
    let l = length-put at (x ∷ []) d (omega arith) in
    let same : part (put at (x ∷ []) d) from n ≡ part (take at d) from n =
    part_same from n at (put at (x ∷ []) d) d le (omega arith) (omega arith) (take_put at at (x ∷ []) d (omega arith) (omega arith)) ∙ part_front from n at d le (omega arith) in
    ap (λ y. put (at + 1) (part y from n) y) e
    ∙ ap (λ y. put (at + 1) y (put at (x ∷ []) d)) same
    ∙ put_more at (x ∷ []) (part (take at d) from n) d (omega arith)

-- a slice, written behind the records that it was cut from
pub slice_written : (d : List Record) (at q f n : ℕ) (r head : Record) → r ≡ rec_at (take at d) q → head ≡ window r f n → 1 ≤ r.span → q + r.span ≤ at → at + r.span ≤ length d
    → put (at + 1) (part (set d at head) (q + 1) (r.span - 1)) (set d at head) ≡ put at (sliced (take at d) q f n) d
slice_written d at q f n r head e h some below room =
    let all = head_and_part d at (q + 1) (r.span - 1) head (omega arith) (omega arith) in
    cc
