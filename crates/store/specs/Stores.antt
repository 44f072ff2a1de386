-- A store: its two memories and its two marks.
use Rattle.std.specs.Prelude.{ℕ, ◌+◌, Bool, true, cond, List, length, take, nat_lt}
use Rattle.records.specs.declared.record.Record.{Record}
use Rattle.numbers.specs.Puts.{put}
use Rattle.store.specs.declared.marks.Marks.{Marks}

pub record Store : Type 0 where
  pub records : List Record
  pub bytes : List ℕ
  pub marks : Marks

abbrev pub store : List Record → List ℕ → Marks → Store
store rs bs m = record { records = rs; bytes = bs; marks = m }

-- what lies below the marks: the records of the standing columns, and the bytes that are in use
abbrev pub standing : Store → List Record
standing s = take s.marks.records s.records

abbrev pub written : Store → List ℕ
written s = take s.marks.bytes s.bytes

-- a mark lies beyond its memory, or a memory is longer than 4,294,967,295
abbrev pub torn : Store → Bool
torn s =
    cond (nat_lt (length s.records) s.marks.records) true (cond (nat_lt (length s.bytes) s.marks.bytes) true
    (cond (nat_lt 4294967295 (length s.records)) true (nat_lt 4294967295 (length s.bytes))))

-- the store with records and bytes written above the marks, and the marks behind them; all else stays
abbrev pub grown : Store → List Record → List ℕ → Store
grown s rs bs =
    record {
      records = put s.marks.records rs s.records;
      bytes = put s.marks.bytes bs s.bytes;
      marks = record { records = s.marks.records + length rs; bytes = s.marks.bytes + length bs };
    }
