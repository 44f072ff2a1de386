-- The names of the hashes in a script.
use Rattle.std.specs.Prelude.{ℕ, List, cond, Ok, Err, Result, codes}
use Rattle.std.specs.Str.{bytes_eq}
use Rattle.script.specs.declared.mistake.Mistake.{Mistake}
use Rattle.script.specs.declared.mistake.Mistake.TheVariants.{NoHash}
use Rattle.script.specs.declared.parse.Hashing.{Hashing}
use Rattle.script.specs.declared.parse.Hashing.TheVariants.{Fnv, Lead}

abbrev pub hashing_named : List ℕ → Result Hashing Mistake
hashing_named word =
    cond (bytes_eq word (codes "fnv")) (Ok Fnv) (cond (bytes_eq word (codes "lead")) (Ok Lead) (Err NoHash))
