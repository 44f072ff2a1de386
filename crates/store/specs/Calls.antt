-- What each call answers and leaves: its tests by rising number, and what it writes.
use Rattle.std.specs.Prelude.{◌≡◌, ℕ, ◌+◌, ◌-◌, cond, List, [], ◌++◌, map, length, drop, replicate, Some, None, Ok, Err, Option, Result, nat_le, nat_lt}
use Rattle.records.specs.declared.record.Record.{Record}
use Rattle.numbers.specs.Puts.{next_place}
use Rattle.format.specs.Trees.{rec_at}
use Rattle.format.specs.Types.{records_at}
use Rattle.format.specs.Moves.{moved, sliced}
use Rattle.format.specs.Rules.{first_broken}
use Rattle.format.specs.Cells.{leads, found}
use Rattle.columns.specs.declared.cells.Cell.{Cell}
use Rattle.columns.specs.Held.{Held, held, shown}
use Rattle.store.specs.declared.fault.Fault.{Fault}
use Rattle.store.specs.Faults.{Refusal, refusal, tell}
use Rattle.store.specs.Stores.{Store, standing, written, torn, grown}

-- what a call tells: what it made or found, or a refusal
pub data Told (A : Type 0) : Type 0 where
  made : A → Told A
  refused : Refusal → Told A

abbrev pub refuse : {A : Type 0} → ℕ → ℕ → ℕ → Told A
refuse n i r = refused (refusal n i r)

-- the place of a new column, or a refusal
abbrev pub told : Result ℕ Fault → Told ℕ
told (Ok place) = made place
told (Err fault) = refused (tell fault)

-- a cell, by what it holds, or a refusal
abbrev pub told_cell : Result Cell Fault → Told Held
told_cell (Ok c) = made (held c)
told_cell (Err fault) = refused (tell fault)

-- malformed: the first broken record of input 0, or the rest
abbrev pub or_broken : {A : Type 0} → Option ℕ → Told A → Told A
or_broken None t = t
or_broken (Some at) t = refuse 5 0 at

-- what a call that makes a column leaves: the new records and bytes above the marks where it answers a place, else all as it was
abbrev pub Leaves : Result ℕ Fault → Store → Store → List Record → List ℕ → Type 0
Leaves (Ok place) before after rs bs = after ≡ grown before rs bs
Leaves (Err fault) before after rs bs = after ≡ before

-- what a call that makes a column settles, accepted or refused: its answer, and all of the store after it
pub record Settles (r : Result ℕ Fault) (before after : Store) (want : Told ℕ) (rs : List Record) (bs : List ℕ) : Type 0 where
  pub answer : told r ≡ want
  pub leaves : Leaves r before after rs bs

-- SLICE: n rows from row f on of the column at place q
abbrev pub slice_told : Store → ℕ → ℕ → ℕ → Told ℕ
slice_told s q f n =
    cond (torn s) (refuse 1 0 0)
    (or_broken (first_broken (written s) (standing s) q)
    (cond (nat_lt (rec_at (standing s) q).length (f + n)) (refuse 8 0 0)
    (cond (nat_lt (length s.records) (s.marks.records + (rec_at (standing s) q).span)) (refuse 15 0 0)
    (made s.marks.records))))

abbrev pub SliceSettles : Result ℕ Fault → Store → Store → ℕ → ℕ → ℕ → Type 0
SliceSettles r s t q f n = Settles r s t (slice_told s q f n) (sliced (standing s) q f n) []

-- ADMIT: an outside column, its records rs and its bytes bs. Their numbers stand for the marks in its rules.
abbrev pub admit_told : Store → List Record → List ℕ → Told ℕ
admit_told s rs bs =
    cond (torn s) (refuse 1 0 0)
    (or_broken (first_broken bs rs 0)
    (cond (nat_lt (length s.records) (s.marks.records + (rec_at rs 0).span)) (refuse 15 0 0)
    (cond (nat_lt (length s.bytes) (next_place s.marks.bytes + length bs)) (refuse 15 0 0) (made s.marks.records))))

-- its records, with their used places moved along; and zeros up to the next place, then all its bytes. m is the byte mark.
abbrev pub admitted : ℕ → List Record → List Record
admitted m rs = map (moved (next_place m)) (records_at rs 0)

abbrev pub admitted_bytes : ℕ → List ℕ → List ℕ
admitted_bytes m bs = replicate (next_place m - m) 0 ++ bs

abbrev pub AdmitSettles : Result ℕ Fault → Store → Store → List Record → List ℕ → Type 0
AdmitSettles r s t rs bs = Settles r s t (admit_told s rs bs) (admitted s.marks.bytes rs) (admitted_bytes s.marks.bytes bs)

-- CELL: row i of the column at place q, through keys and runs. It changes nothing.
abbrev pub cell_told : Store → ℕ → ℕ → Told Held
cell_told s q i =
    cond (torn s) (refuse 1 0 0)
    (or_broken (first_broken (written s) (standing s) q)
    (cond (nat_le (rec_at (standing s) q).length i) (refuse 8 0 0)
    (cond (leads (drop q (standing s)))
    (made (shown (written s) (found (written s) (drop q (standing s)) i)))
    (refuse 9 0 0))))
