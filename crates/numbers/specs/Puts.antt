-- Reads and writes of one memory, and the places where buffers start.
use Rattle.std.specs.Prelude.{ℕ, ◌+◌, ◌*◌, ◌/◌, List, ◌++◌, length, take, drop}

-- d with s written over it from `at` on; all else stays
abbrev pub put : {X : Type 0} → ℕ → List X → List X → List X
put at s d = take at d ++ (s ++ drop (at + length s) d)

-- n elements of d, from `at` on
abbrev pub part : {X : Type 0} → List X → ℕ → ℕ → List X
part d at n = take n (drop at d)

-- the next place at or above m: the next multiple of 8
abbrev pub next_place : ℕ → ℕ
next_place m = (m + 7) / 8 * 8
