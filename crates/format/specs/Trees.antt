-- The trees that records spell, each parent before its children.
use Rattle.std.specs.Prelude.{ℕ, zero, suc, ◌+◌, ◌-◌, List, [], ◌∷◌, ◌++◌, slice_index_or}
use Rattle.records.specs.declared.record.Record.{Record}

-- trees side by side: a record, its children, the trees after it
pub data Forest : Type 0 where
  end : Forest
  node : Record → Forest → Forest → Forest

-- how many records a forest has
abbrev pub records_of : Forest → ℕ
records_of end = 0
records_of (node r kids next) = 1 + records_of kids + records_of next

-- the records of a forest, each parent before its children
abbrev pub preorder : Forest → List Record
preorder end = []
preorder (node r kids next) = r ∷ (preorder kids ++ preorder next)

-- the records of the topmost trees
abbrev pub tops : Forest → List Record
tops end = []
tops (node r kids next) = r ∷ tops next

-- the trees among the next n records of a forest, and the trees after those
abbrev pub among : Forest → ℕ → Forest
among end n = end
among (node r kids next) zero = end
among (node r kids next) (suc n) = node r kids (among next (n - records_of kids))

abbrev pub after : Forest → ℕ → Forest
after end n = end
after (node r kids next) zero = node r kids next
after (node r kids next) (suc n) = after next (n - records_of kids)

-- records read from the right: each takes its children, span - 1 records, from the trees that follow it
abbrev pub parse : List Record → Forest
parse [] = end
parse (r ∷ rs) = node r (among (parse rs) (r.span - 1)) (after (parse rs) (r.span - 1))

-- the first tree alone
abbrev pub first_tree : Forest → Forest
first_tree end = end
first_tree (node r kids next) = node r kids end

-- a record of zeros, which stands for what lies beyond the record mark
abbrev pub nothing : Record
nothing =
    record {
      root = 0;
      kind = 0;
      width = 0;
      logic = 0;
      size = 0;
      span = 0;
      start = 0;
      length = 0;
      nulls = 0;
      v = 0;
      a = 0;
      b = 0;
      count = 0;
    }

abbrev pub rec_at : List Record → ℕ → Record
rec_at rs p = slice_index_or rs p nothing
