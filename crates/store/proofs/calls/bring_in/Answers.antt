use Rattle.std.proofs.Common.{rules}
use Rattle.column_check.proofs.Passed.{passed}
use Rattle.store.specs.Stores.{store}
use Rattle.store.proofs.Admits.{all_movable, admit_grown}
use Rattle.store.proofs.calls.bring_in.Goals as goal

pub write_moved-requires-clause-movable : goal.write_moved-requires-clause-movable
write_moved-requires-clause-movable c =
    let p = passed c.in_ok-check.field-0 c.args.source.now c.args.column.now 0 c.root-span.result c.in_ok-check.ensures c.root-span.ensures.is in
    rw p.root (all_movable c.args.source.now c.args.column.now c.next_place-base.result p.right (search rules))

pub returns : goal.returns
returns c =
    let p = passed c.in_ok-check.field-0 c.args.source.now c.args.column.now 0 c.root-span.result c.in_ok-check.ensures c.root-span.ensures.is in
    let n = p.unbroken in
    record {
      answer = search (rules, n);
      leaves = admit_grown (store c.args.records.now c.args.bytes.now c.args.marks.now) c.args.column.now c.args.source.now c.next_place-base.result c.root-span.result c.write_moved.new.records c.write_data.new.bytes p.right p.root c.next_place-base.ensures c.write_moved.ensures (search rules) c.write_data.ensures;
    }
