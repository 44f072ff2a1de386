use Rattle.std.proofs.Common.{ap, arith, rules}
use Rattle.column_check.proofs.Passed.{passed}
use Rattle.store.specs.Stores.{store}
use Rattle.store.proofs.Slices.{slice_grown}
use Rattle.store.proofs.calls.make_slice.Goals as goal

pub write_slice-requires-clause-some : goal.write_slice-requires-clause-some
write_slice-requires-clause-some c =
    let p = passed c.in_ok-check.field-0 _ _ c.args.s.place c.root-r.result c.in_ok-check.ensures c.root-r.ensures.is in
    let e = ap (λ r. r.span) p.root in
    omega (arith, p.right.head.some)

pub returns : goal.returns
returns c =
    let p = passed c.in_ok-check.field-0 _ _ c.args.s.place c.root-r.result c.in_ok-check.ensures c.root-r.ensures.is in
    let n = p.unbroken in
    record {
      answer = search (rules, n);
      leaves = slice_grown (store c.args.records.now c.args.bytes.now c.args.marks.now) c.args.s.place c.args.s.first c.args.s.rows c.root-r.result c.write_slice.new.records p.right p.root c.write_slice.ensures;
    }
