use Rattle.std.proofs.Common.{◌-◌, ◌*◌, ◌^◌, ap, ◌∙◌, one-mul, arith, shl_exact}
use Rattle.dictionary.proofs.Counts.{shifted}
use Rattle.dictionary.proofs.merge.bucket_count.Goals as goal

pub returns : goal.returns
returns c =
    ap (λ x. x * 2 ^ c.args.shift) (shl_exact 1 (64 - c.args.shift) 64 (omega arith) (omega arith) ∙ one-mul (2 ^ (64 - c.args.shift)))
    ∙ shifted c.args.shift (omega arith)
