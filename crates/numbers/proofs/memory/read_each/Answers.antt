use Rattle.std.proofs.Common.{◌≡◌, ℕ, ◌<◌, get_or, reverse, ◌∙◌, arith, rules}
use Rattle.std.specs.List.{fold}
use Rattle.numbers.proofs.Numbers.{with_byte, little_from_high, little_below}
use Rattle.numbers.proofs.memory.read_each.Goals as goal

pub returns : goal.returns
returns c =
    let folded : c.fold.result ≡ fold with_byte 0 (reverse c.args.bytes.now) = search rules in
    let bytes : (i : ℕ) → get_or c.args.bytes.now i 0 < 256 = λ i. omega (arith, c.type_inv.bytes i) in
    let value = folded ∙ little_from_high c.args.bytes.now c.requires bytes in
    record { value = value; small = omega (arith, little_below c.args.bytes.now bytes) }
