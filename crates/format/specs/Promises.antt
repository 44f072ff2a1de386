-- Two columns with the same rows, in one memory or in two.
use Rattle.std.specs.Prelude.{◌≡◌, ℕ, ◌+◌, ◌<◌, List}
use Rattle.records.specs.declared.record.Record.{Record}
use Rattle.format.specs.Meaning.{row, row_count}
use Rattle.format.specs.Rules.{WellFormed}

-- the column at p, of the bytes bs' and the records rs', is well formed, and its rows are those of the column at q of bs and rs
pub record SameRows (bs : List ℕ) (rs : List Record) (q : ℕ) (bs' : List ℕ) (rs' : List Record) (p : ℕ) : Type 0 where
  pub well : WellFormed bs' rs' p
  pub count : row_count rs' p ≡ row_count rs q
  pub rows : (i : ℕ) → i < row_count rs q → row bs' rs' p i ≡ row bs rs q i

-- it is well formed and has n rows, those of the column at q from row f on
pub record Stretch (bs : List ℕ) (rs : List Record) (q f n : ℕ) (bs' : List ℕ) (rs' : List Record) (p : ℕ) : Type 0 where
  pub well : WellFormed bs' rs' p
  pub count : row_count rs' p ≡ n
  pub rows : (i : ℕ) → i < n → row bs' rs' p i ≡ row bs rs q (f + i)
