-- The table of refusals: the number, the input and the record of each fault.
use Rattle.std.specs.Prelude.{ℕ, List, ◌++◌, codes, decimal}
use Rattle.store.specs.declared.fault.Fault.{Fault}
use Rattle.store.specs.declared.fault.Fault.TheVariants.{Torn, NoInput, Crowd, Surplus, Malformed, Ragged, Unlike, Outside, Kind, Rows, RunEnds, Offsets, Scratch, Keys, Full, Unfinished}

-- a refusal: its number, the first offending input and record, 0 where it has none
pub record Refusal : Type 0 where
  pub number : ℕ
  pub input : ℕ
  pub at : ℕ

abbrev pub refusal : ℕ → ℕ → ℕ → Refusal
refusal n i r = record { number = n; input = i; at = r }

abbrev pub tell : Fault → Refusal
tell Torn = refusal 1 0 0
tell NoInput = refusal 2 0 0
tell Crowd = refusal 3 0 0
tell Surplus = refusal 4 0 0
tell (Malformed input at) = refusal 5 input at
tell (Ragged input) = refusal 6 input 0
tell (Unlike input at) = refusal 7 input at
tell (Outside input) = refusal 8 input 0
tell Kind = refusal 9 0 0
tell (Rows at) = refusal 10 0 at
tell (RunEnds at) = refusal 11 0 at
tell (Offsets at) = refusal 12 0 at
tell (Scratch at) = refusal 13 0 at
tell (Keys at) = refusal 14 0 at
tell Full = refusal 15 0 0
tell Unfinished = refusal 16 0 0

-- the name of each refusal, and how it is written: its number and name, then the input and the record
abbrev pub name_of : Fault → List ℕ
name_of Torn = codes "torn"
name_of NoInput = codes "none"
name_of Crowd = codes "crowd"
name_of Surplus = codes "surplus"
name_of (Malformed input at) = codes "malformed"
name_of (Ragged input) = codes "ragged"
name_of (Unlike input at) = codes "unlike"
name_of (Outside input) = codes "outside"
name_of Kind = codes "kind"
name_of (Rows at) = codes "rows"
name_of (RunEnds at) = codes "run_ends"
name_of (Offsets at) = codes "offsets"
name_of (Scratch at) = codes "scratch"
name_of (Keys at) = codes "keys"
name_of Full = codes "full"
name_of Unfinished = codes "unfinished"

abbrev pub fault_text : Fault → List ℕ
fault_text f =
    decimal (tell f).number ++ (codes " " ++ (name_of f ++ (codes " input " ++ (decimal (tell f).input ++ (codes " record " ++ decimal (tell f).at)))))
