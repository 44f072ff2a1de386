use Rattle.std.proofs.Common.{◌≡◌, ◌^◌, ◌<◌, sym, ◌∙◌, arith, rules}
use Rattle.std.specs.List.{sum_by}
use Rattle.dictionary.specs.declared.piece.Piece.{Piece}
use Rattle.dictionary.proofs.Slots.{entries_few, slots_total}
use Rattle.dictionary.proofs.mask.total_slots.Goals as goal

pub sum-requires-clause-fits : goal.sum-requires-clause-fits
sum-requires-clause-fits c =
    let low = entries_few c.args.from.now.bytes.now c.args.from.now.pieces.now c.args.from.now.ok c.requires.few in
    let b : sum_by (λ (p : Piece). p.entries.length) c.args.from.now.pieces.now < 2 ^ 64 = omega arith in
    search rules

pub returns : goal.returns
returns c =
    let e : c.sum.result ≡ sum_by (λ (p : Piece). p.entries.length) c.args.from.now.pieces.now = search rules in
    let low = entries_few c.args.from.now.bytes.now c.args.from.now.pieces.now c.args.from.now.ok c.requires.few in
    record { total = e ∙ sym (slots_total c.args.from.now.bytes.now 0 c.args.from.now.pieces.now); low = rw e low }
