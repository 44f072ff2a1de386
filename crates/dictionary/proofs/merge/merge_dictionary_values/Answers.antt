use Rattle.std.proofs.Common.{◌+◌, ltb, ap, ◌∙◌, arith}
use Rattle.dictionary.specs.Dictionaries.{taken}
use Rattle.dictionary.proofs.Merges.{no_keys, no_buckets, no_chosen, too_many, made, keys_fit, front_is, count_is}
use Rattle.dictionary.proofs.merge.merge_dictionary_values.Goals as goal
use Rattle.dictionary.proofs.merge.merge_dictionary_values.Goals.{then-buckets-count-via-then-buckets-count, then-buckets-count-via-else-buckets-count+then-chosen-used}

pub returns-then-keys-total-clause-merges : goal.returns-then-keys-total-clause-merges
returns-then-keys-total-clause-merges g c = no_keys _ _ _ _ _ _ (omega arith)

pub returns-then-buckets-count-clause-merges : goal.returns-then-buckets-count-clause-merges
returns-then-buckets-count-clause-merges g c =
    let ts = taken c.args.from.now in
    let m = c.mark_used-used in
    let b = count_is ts m.result _ _ m.ensures.used c.bucket_shift-shift.ensures.whole c.bucket_count-count.ensures in
    let fits = keys_fit ts m.new.keys c.args.tables.now.keys.now _ c.total_slots-total.ensures.total c.if-keys-total.false m.auto.keys in
    elim c.then-buckets-count.branch [
      | then-buckets-count-via-then-buckets-count w ↦ rw w.tables-is (no_buckets _ _ ts _ _ _ fits (omega arith))
      | then-buckets-count-via-else-buckets-count+then-chosen-used w ↦ rw w.tables-is (no_chosen _ _ ts _ _ _ fits (omega arith) (omega arith))
    ]

pub returns-then-outnumbers-clause-merges : goal.returns-then-outnumbers-clause-merges
returns-then-outnumbers-clause-merges g c =
    let ts = taken c.args.from.now in
    let m = c.mark_used-used in
    let i = c.intern_slots-entries in
    let b = count_is ts m.result _ _ m.ensures.used c.bucket_shift-shift.ensures.whole c.bucket_count-count.ensures in
    let fits = keys_fit ts i.new.keys c.args.tables.now.keys.now _ c.total_slots-total.ensures.total c.if-keys-total.false (i.auto.keys ∙ m.auto.keys) in
    let room = i.auto.chosen in
    too_many _ _ ts _ _ _ fits (omega arith) (omega arith) i.result i.ensures.entries (c.if-outnumbers.ensures ∙ ap (λ x. ltb (x + 1) i.result) c.most_key.ensures)

pub returns-clause-merges : goal.returns-clause-merges
returns-clause-merges g c =
    let ts = taken c.args.from.now in
    let m = c.mark_used-used in
    let i = c.intern_slots-entries in
    let b = count_is ts m.result _ _ m.ensures.used c.bucket_shift-shift.ensures.whole c.bucket_count-count.ensures in
    let total = c.total_slots-total.ensures.total in
    let long = i.auto.keys ∙ m.auto.keys in
    let fits = keys_fit ts i.new.keys c.args.tables.now.keys.now _ total c.if-keys-total.false long in
    let front = front_is ts i.new.keys c.args.tables.now.keys.now _ total c.if-keys-total.false long _ i.ensures.keys in
    let room = i.auto.chosen in
    made _ _ ts _ _ _ fits (omega arith) (omega arith) i.result i.ensures.entries (c.if-outnumbers.ensures ∙ ap (λ x. ltb (x + 1) i.result) c.most_key.ensures) (front, i.ensures.chosen)
