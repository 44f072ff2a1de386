-- The worked cases, computed by the checker from the definitions that the calls' contracts use.
use Rattle.std.specs.Prelude.{◌≡◌, ℕ, [], ◌∷◌, replicate}
use Rattle.records.specs.declared.record.Record.{Record}
use Rattle.format.specs.Trees.{nothing}
use Rattle.store.specs.Stores.{Store, store, grown}
use Rattle.store.specs.Calls.{made, admit_told, admitted, admitted_bytes}

-- a store whose byte mark is 13
abbrev pub at_thirteen : Store
at_thirteen = store (replicate 2 nothing) (replicate 24 238) (record { records = 0; bytes = 13 })

-- a flat column of four bytes, at place a
abbrev pub four_bytes : ℕ → Record
four_bytes a = record { root = 1; kind = 1; width = 1; logic = 0; size = 0; span = 1; start = 0; length = 4; nulls = 0; v = 0; a = a; b = 0; count = 0 }

pub record Cases : Type 0 where
  -- byte mark 13, four bytes: place 16, mark 20, zeros in the gap
  pub accepted : admit_told at_thirteen (four_bytes 0 ∷ []) (1 ∷ 2 ∷ 3 ∷ 4 ∷ []) ≡ made 0
  pub place : admitted 13 (four_bytes 0 ∷ []) ≡ four_bytes 16 ∷ []
  pub gap : admitted_bytes 13 (1 ∷ 2 ∷ 3 ∷ 4 ∷ []) ≡ 0 ∷ 0 ∷ 0 ∷ 1 ∷ 2 ∷ 3 ∷ 4 ∷ []
  pub mark : (grown at_thirteen (admitted 13 (four_bytes 0 ∷ [])) (admitted_bytes 13 (1 ∷ 2 ∷ 3 ∷ 4 ∷ []))).marks ≡ record { records = 1; bytes = 20 }
