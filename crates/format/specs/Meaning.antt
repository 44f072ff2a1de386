-- What a column means: row i of the column at a place, by the Apache Arrow Columnar Format. `bs` is the byte memory.
use Rattle.std.specs.Prelude.{ℕ, ◌+◌, ◌-◌, ◌*◌, Bool, true, false, cond, List, [], ◌∷◌, map, take, drop, ◌==◌, nat_le}
use Rattle.std.specs.List.{prefix_len, between, range_with_len}
use Rattle.records.specs.declared.record.Record.{Record}
use Rattle.numbers.specs.Little.{number_at}
use Rattle.numbers.specs.Bits.{bit_at}
use Rattle.format.specs.Rows.{Row, null, raw, bit, listed, struct, rows, first}
use Rattle.format.specs.Trees.{Forest, end, node, parse, first_tree, rec_at}

pub data Kind : Type 0 where
  flat bits bytes dictionary list structs runs other : Kind

abbrev pub kind_of : ℕ → Kind
kind_of n =
    cond (n == 1) flat (cond (n == 2) bits (cond (n == 3) bytes (cond (n == 4) dictionary
    (cond (n == 5) list (cond (n == 8) structs (cond (n == 9) runs other))))))

-- position j is null where the record has a bitmap and bit j is clear
abbrev pub is_null : List ℕ → Record → ℕ → Bool
is_null bs r j = cond (r.nulls == 1) (cond (bit_at bs r.v j) false true) false

-- number j of the first buffer: a key, an offset or a run end
abbrev pub number : List ℕ → Record → ℕ → ℕ
number bs r j = number_at bs r.a r.width j

-- the run ends of a record, and the first run that ends above j
abbrev pub ends_of : List ℕ → Record → List ℕ
ends_of bs r = map (number bs r) (range_with_len 0 r.count)

abbrev pub run_of : List ℕ → ℕ → ℕ
run_of ends j = prefix_len (λ e. nat_le e j) ends

-- what lies at position j of a record that is not null there. `kids i` are the rows i of its children.
abbrev pub value_at : List ℕ → Record → Kind → (ℕ → List Row) → ℕ → Row
value_at bs r flat kids j = raw (take r.width (drop (r.a + j * r.width) bs))
value_at bs r bits kids j = bit (bit_at bs r.a j)
value_at bs r bytes kids j = raw (between (r.b + number bs r j) (r.b + number bs r (j + 1)) bs)
value_at bs r dictionary kids j = first (kids (number bs r j))
value_at bs r list kids j =
    listed (rows (map (λ k. first (kids k)) (range_with_len (number bs r j) (number bs r (j + 1) - number bs r j))))
value_at bs r structs kids j = struct (rows (kids j))
value_at bs r runs kids j = first (kids (run_of (ends_of bs r) j))
value_at bs r other kids j = null

-- row i lies at position start + i
abbrev pub row_of : List ℕ → Record → (ℕ → List Row) → ℕ → Row
row_of bs r kids i = cond (is_null bs r (r.start + i)) null (value_at bs r (kind_of r.kind) kids (r.start + i))

-- row i of each tree of a forest
abbrev pub decode : List ℕ → Forest → ℕ → List Row
decode bs end i = []
decode bs (node r kids next) i = row_of bs r (decode bs kids) i ∷ decode bs next i

-- the column at place q of the records rs, as a tree
abbrev pub column_at : List Record → ℕ → Forest
column_at rs q = first_tree (parse (drop q rs))

-- ROW i of the column at place q
abbrev pub row : List ℕ → List Record → ℕ → ℕ → Row
row bs rs q i = first (decode bs (column_at rs q) i)

-- how many rows it has
abbrev pub row_count : List Record → ℕ → ℕ
row_count rs q = (rec_at rs q).length
