use Rattle.std.proofs.Common.{rules, tests, ◌≡◌, drop, false, ap, ◌∙◌}
use Rattle.std.specs.Option.{option_map, option_map_or}
use Rattle.std.proofs.lemmas.Iterator.{YieldsList-from_slice}
use Rattle.std.proofs.lemmas.Iterator.Adapters.{YieldsList-from_skip}
use Rattle.std.proofs.lemmas.Iterator.Search.{find_from_yields_List}
use Rattle.columns.proofs.Ways.{holds, stays, leads_first}
use Rattle.columns.proofs.cells.leads_to_value.Goals as goal

pub returns : goal.returns
returns c =
    let first = find_from_yields_List stays _ _ c.find.result c.find.ensures.ran
    (YieldsList-from_skip c.args.q (YieldsList-from_slice c.args.records.now (search rules)) (search rules)) (λ x b q k. search (rules, tests)) in
    let said : c.is_some_and.result ≡ option_map_or holds (option_map (λ r. r.now) c.find.result) false = search (rules, tests) in
    said ∙ ap (λ o. option_map_or holds o false) first ∙ leads_first (drop c.args.q c.args.records.now)
