use Rattle.std.proofs.Common.{◌^◌, ◌<◌, arith, rules}
use Rattle.std.specs.List.{sum_by}
use Rattle.dictionary.specs.declared.piece.Piece.{Piece}
use Rattle.dictionary.proofs.Slots.{rows_few, total_is}
use Rattle.dictionary.proofs.merge.total_rows.Goals as goal

pub sum-requires-clause-fits : goal.sum-requires-clause-fits
sum-requires-clause-fits c =
    let low = rows_few c.args.from.now.bytes.now c.args.from.now.pieces.now c.args.from.now.ok c.requires.few in
    let b : sum_by (λ (p : Piece). p.keys.length) c.args.from.now.pieces.now < 2 ^ 64 = omega arith in
    search rules

pub returns : goal.returns
returns c = rw total_is (search rules)
