use Rattle.std.proofs.Common.{[], length, sym, ◌∙◌, subst, rules, arith, ◌<◌}
use Rattle.std.proofs.lemmas.List.{append-nil}
use Rattle.interning.specs.Merging.{slots_in}
use Rattle.dictionary.specs.Dictionaries.{taken}
use Rattle.dictionary.specs.Tables.{so_far}
use Rattle.dictionary.proofs.Interns.{length-entries, stands_as, kept_more}
use Rattle.dictionary.proofs.Going.{going_start, going_as, going_end, rest_all, rest_none, turn_mark, turn_more}
use Rattle.dictionary.proofs.interner.Interner.intern_masked_values.Goals as goal

pub loop-j-init : goal.loop-j-init
loop-j-init g c =
    let H = g.H.Hash.meaning c.args.hash.now in
    let ts = taken c.args.from.now in
    let i = c.args.self.now in
    let ss = slots_in c.args.input (length c.args.keys.now) in
    let long = length-entries i.chosen.now i.entries in
    record {
      going =
          going_as H ts ss (so_far i) [] _ _ _ (so_far i) 0 c.args.keys.now (sym (rest_all c.args.input (length c.args.keys.now)))
          (going_start H ts ss (so_far i) [] (length i.chosen.now) c.args.keys.now (c.requires.marks ∙ sym (append-nil _)) (rw long c.requires.room));
      kept = record { stands = c.requires.stands; lent = search rules; same = search rules };
    }

pub key-requires : goal.key-requires
key-requires g c =
    let i = c.loop-j.self in
    let ts = taken c.args.from.now in
    let v = c.loop-j.invariant in
    let t = turn_mark c.args.input _ v.kept.same v.going c.loop-j-test.true in
    let long = length-entries i.chosen.now i.entries in
    let most = v.kept.lent.chosen.long in
    record {
      slot = record { input = c.requires.input; entry = subst (λ x. c.loop-j.j < x) c.requires.long c.loop-j-test.true };
      stands = stands_as (sym v.kept.same) v.kept.stands;
      mark = t.1;
      room = λ u. let r = t.2 (sym t.1 ∙ u) in omega arith;
    }

pub loop-j-preserved : goal.loop-j-preserved
loop-j-preserved g c =
    let v = c.loop-j.invariant in
    record {
      going = turn_more c.args.input _ v.kept.same v.going c.loop-j-test.true _ _ c.key.ensures.key c.key.ensures.entries;
      kept = kept_more v.kept c.key.ensures.kept;
    }

pub returns : goal.returns
returns g c =
    let v = c.loop-j.invariant in
    let none = rest_none c.args.input c.loop-j.j (length c.args.keys.now) c.loop-j-test.false in
    let done = going_end _ (taken c.args.from.now) _ _ [] _ _ (so_far c.loop-j.self) c.loop-j.j c.loop-j.keys none v.going in
    record { keys = done.1 ∙ append-nil _; entries = done.0; kept = v.kept }
