use Rattle.std.proofs.Common.{rules, tests, refl, ◌∙◌, arith}
use Rattle.std.specs.List.{range_with_len}
use Rattle.std.proofs.lemmas.Iterator.{YieldsList-from_range}
use Rattle.std.proofs.lemmas.Iterator.Search.{all_from_yields_List}
use Rattle.format.specs.Rules.{key_ok}
use Rattle.column_check.proofs.Loops.{list_all-every}
use Rattle.column_check.proofs.table.Numbers.keys_ok.Goals as goal

pub returns : goal.returns
returns g c =
    let r = c.args.self.now.of.r in
    let names = key_ok c.args.self.now.of.bytes.now r c.args.entries in
    all_from_yields_List names _ _ c.all.result c.all.ensures.ran
    (YieldsList-from_range r.start c.args.self.now.count r.length refl (omega arith)) (λ x b q k. search (rules, tests))
    ∙ list_all-every names (range_with_len r.start r.length)
