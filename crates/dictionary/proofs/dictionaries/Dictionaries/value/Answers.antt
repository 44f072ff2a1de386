use Rattle.std.proofs.Common.{sym, ◌∙◌}
use Rattle.dictionary.specs.Pieces.{no_piece}
use Rattle.dictionary.proofs.Slots.{one_or_three, seen_as, value_is, entry_readable}
use Rattle.dictionary.proofs.dictionaries.Dictionaries.value.Goals as goal

pub value-requires : goal.value-requires
value-requires c =
    let bs = c.args.self.now.bytes.now in
    let ps = c.args.self.now.pieces.now in
    record {
      kind = one_or_three _ (c.args.self.now.ok _ no_piece c.requires.input).leaf;
      readable = entry_readable bs ps c.args.slot c.args.self.now.ok c.requires;
    }

pub returns : goal.returns
returns c =
    seen_as c.value.result _ c.value.ensures
    ∙ sym (value_is c.args.self.now.bytes.now c.args.self.now.pieces.now c.args.slot c.requires)
