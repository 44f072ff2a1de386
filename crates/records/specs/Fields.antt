-- The fields of a record, in order.
use Rattle.std.specs.Prelude.{ℕ, List, [], ◌∷◌, slice_index}
use Rattle.records.specs.declared.record.Record.{Record}

abbrev pub fields : Record → List ℕ
fields r =
    r.root ∷ r.kind ∷ r.width ∷ r.logic ∷ r.size ∷ r.span ∷ r.start ∷ r.length ∷ r.nulls ∷ r.v ∷ r.a ∷ r.b ∷ r.count ∷ []

-- the record with these fields
abbrev pub of_fields : List ℕ → Record
of_fields ns =
    record {
      root = slice_index ns 0;
      kind = slice_index ns 1;
      width = slice_index ns 2;
      logic = slice_index ns 3;
      size = slice_index ns 4;
      span = slice_index ns 5;
      start = slice_index ns 6;
      length = slice_index ns 7;
      nulls = slice_index ns 8;
      v = slice_index ns 9;
      a = slice_index ns 10;
      b = slice_index ns 11;
      count = slice_index ns 12;
    }
