-- What a cell holds, with no pointer in it: no_value, a bit, or a place of the byte memory and the bytes from there on.
use Rattle.std.specs.Prelude.{ℕ, ◌+◌, Bool, cond, List, take, drop, Some, None, Option}
use Rattle.std.specs.Borrow.{Bor}
use Rattle.records.specs.declared.record.Record.{Record}
use Rattle.format.specs.Rows.{Row, null, raw}
use Rattle.format.specs.Meaning.{Kind, flat, bits, bytes, dictionary, list, structs, runs, other, kind_of, is_null, number, ends_of, run_of}
use Rattle.format.specs.Cells.{Found, absent, a_bit, bytes_at, found_at}
use Rattle.columns.specs.declared.cells.Cell.{Cell}
use Rattle.columns.specs.declared.cells.Cell.TheVariants.{Null, Bit, Bytes}
use Rattle.std.specs.declared.ops.ControlFlow.{ControlFlow}
use Rattle.std.specs.declared.ops.ControlFlow.TheVariants.{Continue, Break}

pub data Held : Type 0 where
  no_value : Held
  bit : Bool → Held
  text : ℕ → List ℕ → Held

abbrev pub held : Cell → Held
held Null = no_value
held (Bit b) = bit b
held (Bytes place s) = text place s.now

-- what a cell holds where this is found in the bytes bs
abbrev pub shown : List ℕ → Found → Held
shown bs absent = no_value
shown bs (a_bit b) = bit b
shown bs (bytes_at p n) = text p (take n (drop p bs))

-- a step on the way to a cell: it is here, or it is a row of the child
pub data Stepped : Type 0 where
  here : Held → Stepped
  child : ℕ → Stepped

abbrev pub stepped : ControlFlow Cell ℕ → Stepped
stepped (Break c) = here (held c)
stepped (Continue i) = child i

abbrev pub step_at : List ℕ → Record → Kind → ℕ → Stepped
step_at bs r flat j = here (shown bs (found_at bs r flat (λ i. absent) j))
step_at bs r bits j = here (shown bs (found_at bs r bits (λ i. absent) j))
step_at bs r bytes j = here (shown bs (found_at bs r bytes (λ i. absent) j))
step_at bs r dictionary j = child (number bs r j)
step_at bs r list j = here no_value
step_at bs r structs j = here no_value
step_at bs r runs j = child (run_of (ends_of bs r) j)
step_at bs r other j = here no_value

abbrev pub step : List ℕ → Record → ℕ → Stepped
step bs r j = cond (is_null bs r j) (here no_value) (step_at bs r (kind_of r.kind) j)

-- a value, absent or a string of bytes, as a row
abbrev pub value_row : Option (Bor (List ℕ)) → Row
value_row None = null
value_row (Some s) = raw s.now

-- the key of row i of a dictionary record; none where the row is null
abbrev pub key_at : List ℕ → Record → ℕ → Option ℕ
key_at bs r i = cond (is_null bs r (r.start + i)) None (Some (number bs r (r.start + i)))
