-- Types are equal where span, kind, width, logic and size agree record by record.
use Rattle.std.specs.Prelude.{ℕ, ◌+◌, Bool, cond, List, [], ◌∷◌, take, drop, Some, None, Option, ◌==◌}
use Rattle.records.specs.declared.record.Record.{Record}
use Rattle.format.specs.Trees.{rec_at}
use Rattle.format.specs.Rules.{all_of}

abbrev pub same_type : Record → Record → Bool
same_type r s =
    all_of ((r.span == s.span) ∷ (r.kind == s.kind) ∷ (r.width == s.width) ∷ (r.logic == s.logic) ∷ (r.size == s.size) ∷ [])

-- the records of the column at place q
abbrev pub records_at : List Record → ℕ → List Record
records_at rs q = take (rec_at rs q).span (drop q rs)

-- the number, from i, of the first record whose type differs
abbrev pub first_unlike : ℕ → List Record → List Record → Option ℕ
first_unlike i [] rs = None
first_unlike i (s ∷ ss) [] = Some i
first_unlike i (s ∷ ss) (r ∷ rs) = cond (same_type r s) (first_unlike (i + 1) ss rs) (Some i)
