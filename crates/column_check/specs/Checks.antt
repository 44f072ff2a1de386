-- What the check answers: the column, which is well-formed by its type, or the first of its records that breaks a rule.
use Rattle.std.specs.Prelude.{◌≡◌, ℕ, List, Some, Ok, Err, Result}
use Rattle.records.specs.declared.record.Record.{Record}
use Rattle.format.specs.Rules.{first_broken}
use Rattle.column_check.specs.declared.checked.Broken.{Broken}
use Rattle.column_check.specs.declared.checked.Column.{Column}

abbrev pub Checks : Result Column Broken → List ℕ → List Record → ℕ → Type 0
Checks (Ok c) bs rs q = (c.bytes.now ≡ bs) × ((c.records.now ≡ rs) × (c.place ≡ q))
Checks (Err e) bs rs q = first_broken bs rs q ≡ Some e.record
