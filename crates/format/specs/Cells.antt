-- One row of a column that keys and runs lead to a flat, bit or byte column.
use Rattle.std.specs.Prelude.{ℕ, ◌+◌, ◌-◌, ◌*◌, ◌≤◌, Bool, true, false, cond, List, [], ◌∷◌, length, take, drop}
use Rattle.records.specs.declared.record.Record.{Record}
use Rattle.numbers.specs.Bits.{bit_at}
use Rattle.format.specs.Rows.{Row, null, raw, bit}
use Rattle.format.specs.Meaning.{Kind, flat, bits, bytes, dictionary, list, structs, runs, other, kind_of, is_null, number, ends_of, run_of}

-- null, a bit, or a number of bytes at a place of the byte memory
pub data Found : Type 0 where
  absent : Found
  a_bit : Bool → Found
  bytes_at : ℕ → ℕ → Found

-- the rule of the kind: keys and runs lead on to the child
abbrev pub leads_on : Kind → Bool → Bool
leads_on flat below = true
leads_on bits below = true
leads_on bytes below = true
leads_on dictionary below = below
leads_on list below = false
leads_on structs below = false
leads_on runs below = below
leads_on other below = false

-- do keys and runs lead to kind 1, 2 or 3? `rs` are records in order: the one child of a dictionary or of a run-end record is the
-- record after it.
abbrev pub leads : List Record → Bool
leads [] = false
leads (r ∷ rs) = leads_on (kind_of r.kind) (leads rs)

-- what is found at position j, over what is found in the child
abbrev pub found_at : List ℕ → Record → Kind → (ℕ → Found) → ℕ → Found
found_at bs r flat kid j = bytes_at (r.a + j * r.width) r.width
found_at bs r bits kid j = a_bit (bit_at bs r.a j)
found_at bs r bytes kid j = bytes_at (r.b + number bs r j) (number bs r (j + 1) - number bs r j)
found_at bs r dictionary kid j = kid (number bs r j)
found_at bs r list kid j = absent
found_at bs r structs kid j = absent
found_at bs r runs kid j = kid (run_of (ends_of bs r) j)
found_at bs r other kid j = absent

-- what is found in row i of the first of some records
abbrev pub found : List ℕ → List Record → ℕ → Found
found bs [] i = absent
found bs (r ∷ rs) i =
    cond (is_null bs r (r.start + i)) absent (found_at bs r (kind_of r.kind) (found bs rs) (r.start + i))

-- the row that it is
abbrev pub found_row : List ℕ → Found → Row
found_row bs absent = null
found_row bs (a_bit b) = bit b
found_row bs (bytes_at p n) = raw (take n (drop p bs))

-- bytes that are found end at or below the byte mark
abbrev pub FoundIn : List ℕ → Found → Type 0
FoundIn bs absent = Unit {0}
FoundIn bs (a_bit b) = Unit {0}
FoundIn bs (bytes_at p n) = p + n ≤ length bs
