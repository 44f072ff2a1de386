-- Small columns, worked out by the checker from the definitions.
use Rattle.std.specs.Prelude.{◌≡◌, ℕ, true, false, List, [], ◌∷◌, map, Some, None, slice_set}
use Rattle.std.specs.List.{range_with_len}
use Rattle.records.specs.declared.record.Record.{Record}
use Rattle.format.specs.Rows.{Row, null, raw, bit, listed, struct, rows}
use Rattle.format.specs.Meaning.{row}
use Rattle.format.specs.Rules.{WellFormed, first_broken}
use Rattle.format.specs.Types.{first_unlike}
use Rattle.format.specs.Moves.{window}
use Rattle.format.specs.Cells.{found, bytes_at, absent}

-- the first n rows of the column at place 0
abbrev pub first_rows : List ℕ → List Record → ℕ → List Row
first_rows bs rs n = map (row bs rs 0) (range_with_len 0 n)

-- names: rows ice, null, oak, ice; signed 1-byte keys over the entries ice, oak
abbrev pub name_records : List Record
name_records =
    record { root = 1; kind = 4; width = 1; logic = 0; size = 1; span = 2; start = 0; length = 4; nulls = 1; v = 0; a = 8; b = 0; count = 0 }
    ∷ record { root = 0; kind = 3; width = 4; logic = 0; size = 0; span = 1; start = 0; length = 2; nulls = 0; v = 0; a = 16; b = 32; count = 6 }
    ∷ []

abbrev pub name_bytes : List ℕ
name_bytes =
    13 ∷ 0 ∷ 0 ∷ 0 ∷ 0 ∷ 0 ∷ 0 ∷ 0 ∷ 0 ∷ 0 ∷ 1 ∷ 0 ∷ 0 ∷ 0 ∷ 0 ∷ 0 ∷ 0 ∷ 0 ∷ 0 ∷ 0 ∷ 3 ∷ 0 ∷ 0 ∷ 0 ∷ 6 ∷ 0 ∷ 0 ∷ 0 ∷ 0 ∷ 0 ∷ 0 ∷ 0
    ∷ 105 ∷ 99 ∷ 101 ∷ 111 ∷ 97 ∷ 107 ∷ []

abbrev pub ice : List ℕ
ice = 105 ∷ 99 ∷ 101 ∷ []

abbrev pub oak : List ℕ
oak = 111 ∷ 97 ∷ 107 ∷ []

-- a list of bits: rows [1 0] and [], from row 1 on of the offsets 0, 1, 3, 3
abbrev pub list_records : List Record
list_records =
    record { root = 1; kind = 5; width = 4; logic = 0; size = 0; span = 2; start = 1; length = 2; nulls = 0; v = 0; a = 0; b = 0; count = 0 }
    ∷ record { root = 0; kind = 2; width = 0; logic = 0; size = 0; span = 1; start = 0; length = 3; nulls = 0; v = 0; a = 16; b = 0; count = 0 }
    ∷ []

abbrev pub list_bytes : List ℕ
list_bytes = 0 ∷ 0 ∷ 0 ∷ 0 ∷ 1 ∷ 0 ∷ 0 ∷ 0 ∷ 3 ∷ 0 ∷ 0 ∷ 0 ∷ 3 ∷ 0 ∷ 0 ∷ 0 ∷ 2 ∷ []

-- run ends 2, 5 over the flat values 7, 9; and a struct of two such run-end columns
abbrev pub run_record : ℕ → ℕ → ℕ → Record
run_record root start n =
    record { root = root; kind = 9; width = 2; logic = 0; size = 0; span = 2; start = start; length = n; nulls = 0; v = 0; a = 0; b = 0; count = 2 }

abbrev pub run_child : Record
run_child = record { root = 0; kind = 1; width = 1; logic = 0; size = 0; span = 1; start = 0; length = 2; nulls = 0; v = 0; a = 4; b = 0; count = 0 }

abbrev pub run_bytes : List ℕ
run_bytes = 2 ∷ 0 ∷ 5 ∷ 0 ∷ 7 ∷ 9 ∷ []

abbrev pub pairs : ℕ → ℕ → Record
pairs span n = record { root = 1; kind = 8; width = 0; logic = 0; size = 0; span = span; start = 0; length = n; nulls = 0; v = 0; a = 0; b = 0; count = 0 }

pub record Examples : Type 0 where
  pub names_well : WellFormed name_bytes name_records 0
  pub names_rows : first_rows name_bytes name_records 4 ≡ raw ice ∷ null ∷ raw oak ∷ raw ice ∷ []
  -- a key equal to the number of entries is the dictionary's fault; under the null row it is none
  pub key_past : first_broken (slice_set name_bytes 10 2) name_records 0 ≡ Some 0
  pub key_under_null : first_broken (slice_set name_bytes 9 200) name_records 0 ≡ None
  -- byte 200 is negative as a signed key
  pub key_negative : first_broken (slice_set name_bytes 10 200) name_records 0 ≡ Some 0
  -- an offset that falls is the entries' fault
  pub offset_falls : first_broken (slice_set name_bytes 20 7) name_records 0 ≡ Some 1
  -- the second record is no root
  pub no_root : first_broken name_bytes name_records 1 ≡ Some 0
  pub beyond : first_broken name_bytes name_records 2 ≡ Some 0
  -- the cell of row 2 is three bytes at byte 35; that of row 1 is null
  pub cell_two : found name_bytes name_records 2 ≡ bytes_at 35 3
  pub cell_null : found name_bytes name_records 1 ≡ absent
  pub lists_well : WellFormed list_bytes list_records 0
  pub lists_rows : first_rows list_bytes list_records 2 ≡ listed (rows (bit true ∷ bit false ∷ [])) ∷ listed (rows []) ∷ []
  pub runs_well : WellFormed run_bytes (run_record 1 0 5 ∷ run_child ∷ []) 0
  pub runs_rows : first_rows run_bytes (run_record 1 0 5 ∷ run_child ∷ []) 5 ≡ raw (7 ∷ []) ∷ raw (7 ∷ []) ∷ raw (9 ∷ []) ∷ raw (9 ∷ []) ∷ raw (9 ∷ []) ∷ []
  -- a slice of it from row 1 on
  pub runs_sliced : first_rows run_bytes (window (run_record 1 0 5) 1 2 ∷ run_child ∷ []) 2 ≡ raw (7 ∷ []) ∷ raw (9 ∷ []) ∷ []
  -- a row beyond the last run end
  pub runs_short : first_broken run_bytes (run_record 1 0 6 ∷ run_child ∷ []) 0 ≡ Some 0
  pub structs_well : WellFormed run_bytes (pairs 5 3 ∷ run_record 0 0 4 ∷ run_child ∷ run_record 0 1 3 ∷ run_child ∷ []) 0
  pub structs_rows : first_rows run_bytes (pairs 5 1 ∷ run_record 0 0 4 ∷ run_child ∷ run_record 0 1 3 ∷ run_child ∷ []) 2
      ≡ struct (rows (raw (7 ∷ []) ∷ raw (7 ∷ []) ∷ [])) ∷ struct (rows (raw (7 ∷ []) ∷ raw (9 ∷ []) ∷ [])) ∷ []
  -- a child shorter than the struct, and spans that do not add up, are the struct's fault
  pub struct_short : first_broken run_bytes (pairs 5 4 ∷ run_record 0 0 4 ∷ run_child ∷ run_record 0 1 3 ∷ run_child ∷ []) 0 ≡ Some 0
  pub struct_spans : first_broken run_bytes (pairs 4 3 ∷ run_record 0 0 4 ∷ run_child ∷ run_record 0 1 3 ∷ run_child ∷ []) 0 ≡ Some 0
  -- types: the window is no part of them, the width is
  pub types_alike : first_unlike 0 name_records (window (run_record 1 0 5) 1 2 ∷ run_child ∷ []) ≡ Some 0
  pub types_same : first_unlike 0 (run_record 1 0 5 ∷ run_child ∷ []) (run_record 1 1 3 ∷ run_child ∷ []) ≡ None
