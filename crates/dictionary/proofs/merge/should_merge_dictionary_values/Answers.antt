use Rattle.dictionary.proofs.Merges.{should_not, should_is}
use Rattle.dictionary.proofs.merge.should_merge_dictionary_values.Goals as goal

pub returns-then-not-same_entries : goal.returns-then-not-same_entries
returns-then-not-same_entries c =
    let head = c.in-Some.ensures.item.3 in
    should_is c.args.from.now.bytes.now c.args.from.now.pieces.now c.args.from.now.ok head.0 c.in-Some.first.now (head.1 _) c.same_entries.result c.same_entries.ensures
    c.pays.result _ _ _ c.if-not-same_entries.true c.pays.ensures c.total_slots.ensures.total c.most_key.ensures c.total_rows.ensures

pub returns-else-not-same_entries : goal.returns-else-not-same_entries
returns-else-not-same_entries c =
    let head = c.in-Some.ensures.item.3 in
    rw c.if-not-same_entries.false
    (should_not c.args.from.now.bytes.now c.args.from.now.pieces.now c.args.from.now.ok head.0 c.in-Some.first.now (head.1 _) c.same_entries.result c.same_entries.ensures c.if-not-same_entries.false)
