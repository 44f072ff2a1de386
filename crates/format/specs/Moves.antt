-- Records with another window, and records whose bytes lie elsewhere.
use Rattle.std.specs.Prelude.{ℕ, ◌+◌, ◌-◌, cond, List, ◌∷◌, ◌==◌}
use Rattle.records.specs.declared.record.Record.{Record}
use Rattle.numbers.specs.Puts.{part}
use Rattle.format.specs.Trees.{rec_at}

-- the same record over n rows from row f on
abbrev pub window : Record → ℕ → ℕ → Record
window r f n =
    record {
      root = r.root;
      kind = r.kind;
      width = r.width;
      logic = r.logic;
      size = r.size;
      span = r.span;
      start = r.start + f;
      length = n;
      nulls = r.nulls;
      v = r.v;
      a = r.a;
      b = r.b;
      count = r.count;
    }

-- a record whose used places lie d bytes further on
abbrev pub moved : ℕ → Record → Record
moved d r =
    record {
      root = r.root;
      kind = r.kind;
      width = r.width;
      logic = r.logic;
      size = r.size;
      span = r.span;
      start = r.start;
      length = r.length;
      nulls = r.nulls;
      v = cond (r.nulls == 1) (d + r.v) r.v;
      a = cond (r.kind == 8) r.a (d + r.a);
      b = cond (r.kind == 3) (d + r.b) r.b;
      count = r.count;
    }

-- a slice of the column at place q: its records once more, the first over n rows from row f on
abbrev pub sliced : List Record → ℕ → ℕ → ℕ → List Record
sliced rs q f n = window (rec_at rs q) f n ∷ part rs (q + 1) ((rec_at rs q).span - 1)
