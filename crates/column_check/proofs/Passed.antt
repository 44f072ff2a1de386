-- What a column that the check has passed is known to be.
use Rattle.std.proofs.Common.{◌≡◌, ℕ, List, Ok, None}
use Rattle.records.specs.declared.record.Record.{Record}
use Rattle.format.specs.Trees.{rec_at}
use Rattle.format.specs.Rules.{first_broken}
use Rattle.format.proofs.Known.{Right, right}
use Rattle.column_check.specs.declared.checked.Column.{Column}
use Rattle.column_check.specs.Checks.{Checks}

pub record Passed (bs : List ℕ) (rs : List Record) (q : ℕ) (r : Record) : Type 0 where
  pub unbroken : first_broken bs rs q ≡ None
  pub right : Right bs rs q
  pub root : r ≡ rec_at rs q

pub passed : (c : Column) (bs : List ℕ) (rs : List Record) (q : ℕ) (r : Record) → Checks (Ok c) bs rs q → r ≡ rec_at c.records.now c.place → Passed bs rs q r
passed c bs rs q r (b, (s, p)) root =
    let w : first_broken c.bytes.now c.records.now c.place ≡ None = c.well in
    let h : first_broken bs rs q ≡ None = cc in
    record { unbroken = h; right = right bs rs q h; root = cc }
