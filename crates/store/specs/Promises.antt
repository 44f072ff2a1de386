-- What the calls promise: what they settle, and what this means in the words of the format.
use Rattle.std.specs.Prelude.{◌≡◌, ℕ, ◌+◌, ◌≤◌, List, length, Ok, Err, Result}
use Rattle.records.specs.declared.record.Record.{Record}
use Rattle.numbers.specs.Puts.{part}
use Rattle.format.specs.Rows.{Row, null, raw}
use Rattle.format.specs.Rows as rows
use Rattle.format.specs.Meaning.{row}
use Rattle.format.specs.Rules.{WellFormed}
use Rattle.format.specs.Promises.{SameRows, Stretch}
use Rattle.columns.specs.declared.cells.Cell.{Cell}
use Rattle.columns.specs.Held.{Held, no_value, bit, text, held}
use Rattle.store.specs.declared.fault.Fault.{Fault}
use Rattle.store.specs.Stores.{Store, standing, written}
use Rattle.store.specs.Calls.{SliceSettles, AdmitSettles, told_cell, cell_told}

-- every column that was well formed before still is, with the same rows
abbrev pub Stays : Store → Store → Type 0
Stays s t = (q : ℕ) → WellFormed (written s) (standing s) q → SameRows (written s) (standing s) q (written t) (standing t) q

-- the slice is well formed, and its row i is row f + i of its input
abbrev pub SliceHasRows : Result ℕ Fault → Store → Store → ℕ → ℕ → ℕ → Type 0
SliceHasRows (Ok place) s t q f n = Stretch (written s) (standing s) q f n (written t) (standing t) place
SliceHasRows (Err fault) s t q f n = Unit {0}

-- the admitted column is well formed, and its rows are those of the column handed in
abbrev pub AdmitHasRows : Result ℕ Fault → Store → Store → List Record → List ℕ → Type 0
AdmitHasRows (Ok place) s t rs bs = SameRows bs rs 0 (written t) (standing t) place
AdmitHasRows (Err fault) s t rs bs = Unit {0}

-- the row that a cell holds
abbrev pub held_row : Held → Row
held_row no_value = null
held_row (bit b) = rows.bit b
held_row (text place s) = raw s

-- the bytes of a cell are the part of the byte memory at its place, below the mark
abbrev pub HeldIn : Store → Held → Type 0
HeldIn s no_value = Unit {0}
HeldIn s (bit b) = Unit {0}
HeldIn s (text place xs) = (place + length xs ≤ s.marks.bytes) × (part s.bytes place (length xs) ≡ xs)

-- the cell is the row of the column
abbrev pub CellHasRow : Result Cell Fault → Store → ℕ → ℕ → Type 0
CellHasRow (Ok c) s q i = (held_row (held c) ≡ row (written s) (standing s) q i) × HeldIn s (held c)
CellHasRow (Err fault) s q i = Unit {0}

-- THE CONTRACTS: s is the store before the call, t the store after it
pub record SliceContract (r : Result ℕ Fault) (s t : Store) (q f n : ℕ) : Type 0 where
  pub settles : SliceSettles r s t q f n
  pub rows : SliceHasRows r s t q f n
  pub stays : Stays s t

pub record AdmitContract (r : Result ℕ Fault) (s t : Store) (rs : List Record) (bs : List ℕ) : Type 0 where
  pub settles : AdmitSettles r s t rs bs
  pub rows : AdmitHasRows r s t rs bs
  pub stays : Stays s t

pub record CellContract (r : Result Cell Fault) (s : Store) (q i : ℕ) : Type 0 where
  pub answer : told_cell r ≡ cell_told s q i
  pub row : CellHasRow r s q i
