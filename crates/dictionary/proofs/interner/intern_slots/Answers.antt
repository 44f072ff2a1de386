use Rattle.std.proofs.Common.{◌≡◌, take, rules}
use Rattle.interning.specs.Values.{same_value}
use Rattle.interning.specs.Merging.{chosen_slots}
use Rattle.dictionary.specs.Dictionaries.{taken}
use Rattle.dictionary.proofs.Interns.{all_chosen}
use Rattle.dictionary.proofs.interner.intern_slots.Goals as goal

pub returns : goal.returns
returns g c =
    let i = c.intern_all.new.self in
    let all = all_chosen (g.H.Hash.meaning c.args.hash.now) (taken c.args.from.now) i.chosen.now i.entries c.intern_all.ensures.kept.stands.fits c.intern_all.ensures.entries in
    let t : take i.entries i.chosen.now ≡ chosen_slots same_value (g.H.Hash.meaning c.args.hash.now) (taken c.args.from.now) = all.1 in
    record { entries = all.0; keys = c.intern_all.ensures.keys; chosen = search rules; same = c.intern_all.ensures.kept.same }
