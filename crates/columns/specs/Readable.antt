-- What a read at position j of a record rests on: the buffers that it touches are there. A well-formed column has it at every row.
use Rattle.std.specs.Prelude.{◌≡◌, ℕ, ◌+◌, ◌*◌, ◌/◌, ◌<◌, ◌≤◌, true, List, length}
use Rattle.records.specs.declared.record.Record.{Record}
use Rattle.format.specs.Meaning.{number}
use Rattle.format.specs.Rules.{end_of, validity_ok}

pub record Readable (bs : List ℕ) (r : Record) (j : ℕ) : Type 0 where
  pub low : j < end_of r
  pub small : end_of r ≤ 4294967295
  pub valid : validity_ok bs r ≡ true
  pub flat : r.kind ≡ 1 → r.a + j * r.width + r.width ≤ length bs
  pub bits : r.kind ≡ 2 → r.a + j / 8 < length bs
  pub narrow : r.kind ≡ 3 → r.width ≤ 8
  pub first : r.kind ≡ 3 → r.a + j * r.width + r.width ≤ length bs
  pub second : r.kind ≡ 3 → r.a + (j + 1) * r.width + r.width ≤ length bs
  pub up : r.kind ≡ 3 → number bs r j ≤ number bs r (j + 1)
  pub text : r.kind ≡ 3 → r.b + number bs r (j + 1) ≤ length bs
  pub thin : r.kind ≡ 4 → r.width ≤ 8
  pub key : r.kind ≡ 4 → r.a + j * r.width + r.width ≤ length bs
  pub slim : r.kind ≡ 9 → r.width ≤ 8
  pub ends : r.kind ≡ 9 → r.a + r.count * r.width ≤ length bs
