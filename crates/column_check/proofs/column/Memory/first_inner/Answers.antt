use Rattle.std.proofs.Common.{rules, tests, ◌-◌, not, sym, refl, ◌∙◌}
use Rattle.std.proofs.lemmas.Iterator.{YieldsList-from_range}
use Rattle.std.proofs.lemmas.Iterator.Adapters.{option_map_id}
use Rattle.std.proofs.lemmas.Iterator.Search.{find_from_yields_List}
use Rattle.column_check.specs.Tests.{inner_from}
use Rattle.column_check.proofs.Loops.{first_found}
use Rattle.column_check.proofs.column.Memory.first_inner.Goals as goal

pub returns : goal.returns
returns c =
    let f = inner_from c.args.self.now.bytes.now c.args.self.now.records.now c.args.q c.args.span in
    sym (option_map_id c.find.result)
    ∙ find_from_yields_List (λ i. not (inner_from c.args.self.now.bytes.now c.args.self.now.records.now c.args.q c.args.span i)) _ _ c.find.result c.find.ensures.ran
    (YieldsList-from_range 1 c.args.span (c.args.span - 1) refl refl) (λ x b q k. search (rules, tests))
    ∙ first_found f _
