-- A cell holds the row, and its bytes are the part of the byte memory at its place.
use Rattle.std.proofs.Common.{◌≡◌, ℕ, Bool, true, false, cond, leb, List, length, drop, Ok, Err, Result, sym, refl, ap, ◌∙◌, subst, arith}
use Rattle.std.proofs.lemmas.Bool.{leb-false}
use Rattle.numbers.specs.Puts.{part}
use Rattle.numbers.proofs.Places.{length_part, part_front}
use Rattle.format.specs.Trees.{rec_at}
use Rattle.format.specs.Rules.{first_broken}
use Rattle.format.specs.Cells.{Found, absent, a_bit, bytes_at, leads, found, found_row, FoundIn}
use Rattle.format.proofs.Cells.{found_right}
use Rattle.columns.specs.declared.cells.Cell.{Cell}
use Rattle.columns.specs.Held.{Held, held, shown}
use Rattle.store.specs.declared.fault.Fault.{Fault}
use Rattle.store.specs.Stores.{Store, standing, written, torn}
use Rattle.store.specs.Calls.{made, refuse, told_cell, cell_told}
use Rattle.store.specs.Promises.{held_row, HeldIn, CellHasRow, CellContract}
use Rattle.store.proofs.Grown.{marks_in, long_written, not_torn, not_broken}

shown_row : (bs : List ℕ) (f : Found) → held_row (shown bs f) ≡ found_row bs f
shown_row bs absent = refl
shown_row bs (a_bit b) = refl
shown_row bs (bytes_at p n) = refl

shown_in : (s : Store) → torn s ≡ false → (f : Found) → FoundIn (written s) f → HeldIn s (shown (written s) f)
shown_in s t absent h = tt
shown_in s t (a_bit b) h = tt
shown_in s t (bytes_at p n) h =
    let long = long_written s t in
    let n' : length (part (written s) p n) ≡ n = length_part (written s) p n h in (
      omega arith,
      ap (part s.bytes p) n' ∙ part_front p n s.marks.bytes s.bytes (omega arith) (marks_in s t).1,
    )

leading : (t : Bool) (h g : Held) → cond t (made h) (refuse 9 0 0) ≡ made g → (t ≡ true) × (g ≡ h)
leading true h g e = (refl, cc)
leading false h g e = absurd (cc)

cell_row : (s : Store) (r : Result Cell Fault) (q i : ℕ) → told_cell r ≡ cell_told s q i → CellHasRow r s q i
cell_row s (Err fault) q i e = tt
cell_row s (Ok c) q i e =
    let f : Found = found (written s) (drop q (standing s)) i in
    let a = not_torn (torn s) 1 0 0 _ (held c) (sym e) in
    let b = not_broken (first_broken (written s) (standing s) q) _ (held c) a.1 in
    let d = not_torn (leb (rec_at (standing s) q).length i) 8 0 0 _ (held c) b.1 in
    let g = leading (leads (drop q (standing s))) (shown (written s) f) (held c) d.1 in
    let k = found_right (written s) (standing s) q i b.0 (leb-false (rec_at (standing s) q).length i d.0) in (
      ap held_row g.1 ∙ shown_row (written s) f ∙ k.1 g.0,
      subst (HeldIn s) (sym g.1) (shown_in s a.0 f k.0),
    )

pub cell_promise : (s : Store) (r : Result Cell Fault) (q i : ℕ) → told_cell r ≡ cell_told s q i → CellContract r s q i
cell_promise s r q i e = record { answer = e; row = cell_row s r q i e }
