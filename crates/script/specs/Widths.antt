-- The widths of integers, in bytes.
use Rattle.std.specs.Prelude.{ℕ, cond, Ok, Err, Result, ◌==◌}
use Rattle.script.specs.declared.mistake.Mistake.{Mistake}
use Rattle.script.specs.declared.mistake.Mistake.TheVariants.{NoWidth}
use Rattle.script.specs.declared.width.Width.{Width}
use Rattle.script.specs.declared.width.Width.TheVariants.{One, Two, Four, Eight}

abbrev pub bytes_of : Width → ℕ
bytes_of One = 1
bytes_of Two = 2
bytes_of Four = 4
bytes_of Eight = 8

-- the width of so many bytes; a number that no width has is a mistake
abbrev pub width_of : ℕ → Result Width Mistake
width_of n = cond (n == 1) (Ok One) (cond (n == 2) (Ok Two) (cond (n == 4) (Ok Four) (cond (n == 8) (Ok Eight) (Err NoWidth))))
