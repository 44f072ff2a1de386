-- The numbers of kinds in records.
use Rattle.std.specs.Prelude.{ℕ, cond, Ok, Err, Result, ◌==◌}
use Rattle.records.specs.declared.kind.Kind.{Kind}
use Rattle.records.specs.declared.kind.Kind.TheVariants.{Flat, Bits, Bytes, Dictionary, List, Struct, Runs}
use Rattle.records.specs.declared.kind.UnknownKind.{UnknownKind}

abbrev pub number_of : Kind → ℕ
number_of Flat = 1
number_of Bits = 2
number_of Bytes = 3
number_of Dictionary = 4
number_of List = 5
number_of Struct = 8
number_of Runs = 9

-- the kind of a number; one that no kind has comes back as the error
abbrev pub kind_numbered : ℕ → Result Kind UnknownKind
kind_numbered n =
    cond (n == 1) (Ok Flat) (cond (n == 2) (Ok Bits) (cond (n == 3) (Ok Bytes) (cond (n == 4) (Ok Dictionary)
    (cond (n == 5) (Ok List) (cond (n == 8) (Ok Struct) (cond (n == 9) (Ok Runs) (Err (record { 0 = n }))))))))
