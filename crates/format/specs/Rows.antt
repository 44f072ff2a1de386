-- Decoded rows.
use Rattle.std.specs.Prelude.{ℕ, Bool, List, [], ◌∷◌}

-- a row is null, a string of bytes, a bit, a list of rows or a struct of rows
mutual
  pub data Row : Type 0 where
    null : Row
    raw : List ℕ → Row
    bit : Bool → Row
    listed : Rows → Row
    struct : Rows → Row

  pub data Rows : Type 0 where
    none : Rows
    more : Row → Rows → Rows

-- a list of rows, as a row holds it
abbrev pub rows : List Row → Rows
rows [] = none
rows (r ∷ rs) = more r (rows rs)

-- the first of some rows
abbrev pub first : List Row → Row
first [] = null
first (r ∷ rs) = r
