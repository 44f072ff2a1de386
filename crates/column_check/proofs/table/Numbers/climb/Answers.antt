use Rattle.std.proofs.Common.{rules, tests, ◌≡◌, ◌+◌, leb, false, refl, ◌∙◌, arith}
use Rattle.std.specs.Option.{option_map_or}
use Rattle.std.proofs.lemmas.Iterator.{YieldsList-from_range}
use Rattle.numbers.specs.Little.{not_negative}
use Rattle.format.specs.Meaning.{number}
use Rattle.format.specs.Rules.{both}
use Rattle.column_check.specs.Tests.{climbs}
use Rattle.column_check.proofs.Chains.{all_from_try_fold}
use Rattle.column_check.proofs.table.Numbers.climb.Goals as goal

pub returns : goal.returns
returns g c =
    let r = c.args.self.now.of.r in
    let last : c.is_some_and.result ≡ option_map_or (λ a. leb a c.args.most) c.try_fold.result false = search (rules, tests) in
    last
    ∙ all_from_try_fold (λ a x. both (not_negative g.I.Index.SIGNED r.width x) (leb a x)) (λ a. leb a c.args.most) (climbs g.I.Index.SIGNED r.width c.args.most) (λ a. refl) (λ a x xs. refl)
    (number c.args.self.now.of.bytes.now r) _ _ 0 c.try_fold.result c.try_fold.ensures.ran
    (YieldsList-from_range r.start _ (r.length + 1) refl (omega arith)) (λ a x v q k. search (rules, tests))
