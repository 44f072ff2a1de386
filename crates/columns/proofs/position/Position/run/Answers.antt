use Rattle.std.proofs.Common.{rules, tests, ◌≡◌, leb, not, ap, refl, sym, ◌∙◌, arith}
use Rattle.std.specs.Option.{unwrap_or}
use Rattle.std.proofs.lemmas.Iterator.{YieldsList-from_range}
use Rattle.std.proofs.lemmas.Iterator.Adapters.{option_map_id}
use Rattle.std.proofs.lemmas.Iterator.Search.{find_from_yields_List}
use Rattle.format.specs.Meaning.{number}
use Rattle.columns.proofs.Ways.{run_first}
use Rattle.columns.proofs.position.Position.run.Goals as goal

pub returns : goal.returns
returns c =
    let r = c.args.self.now.r in
    let f = number c.args.self.now.bytes.now r in
    let first = find_from_yields_List (λ k. not (leb (f k) c.args.self.now.j)) _ _ c.find.result c.find.ensures.ran
    (YieldsList-from_range 0 r.count r.count refl (omega arith)) (λ x b q k. search (rules, tests)) in
    let said : c.unwrap_or.result ≡ unwrap_or c.find.result r.count = search (rules, tests) in
    said ∙ ap (λ o. unwrap_or o r.count) (sym (option_map_id c.find.result) ∙ first) ∙ run_first f c.args.self.now.j r.count
