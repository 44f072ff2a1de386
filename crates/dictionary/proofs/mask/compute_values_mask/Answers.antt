use Rattle.std.proofs.Common.{◌≡◌, ◌+◌, [], ◌∷◌, length, sym, ap, ◌∙◌}
use Rattle.columns.proofs.Ways.{readable}
use Rattle.dictionary.specs.Pieces.{keys_of}
use Rattle.dictionary.specs.Tables.{marks, marked}
use Rattle.dictionary.proofs.Masks.{marks_all, keys_left, left_more, left_none, key_below}
use Rattle.dictionary.proofs.mask.compute_values_mask.Goals as goal

pub key-requires : goal.key-requires
key-requires c = record { kind = c.requires.ok.kind; readable = readable c.args.bytes.now c.args.piece.keys (c.args.piece.entries ∷ []) c.requires.ok.keys c.loop-i.i c.loop-i-test.true }

pub mark-requires : goal.mark-requires
mark-requires c =
    let long : length c.loop-i.mask ≡ c.args.piece.entries.length = c.loop-i.auto.mask ∙ c.fill.auto.self ∙ c.requires.long in
    rw (long, c.key.ensures) (key_below c.args.bytes.now c.args.piece c.requires.ok c.loop-i.i c.loop-i-test.true)

pub loop-i-preserved : goal.loop-i-preserved
loop-i-preserved c =
    let bs = c.args.bytes.now in
    let r = c.args.piece.keys in
    ap (marks (keys_left bs r (c.loop-i.i + 1))) (c.mark.ensures ∙ ap (λ k. marked k c.loop-i.mask) c.key.ensures)
    ∙ ap (λ ks. marks ks c.loop-i.mask) (sym (left_more bs r c.loop-i.i c.loop-i-test.true))
    ∙ c.loop-i.invariant

pub returns : goal.returns
returns c =
    let bs = c.args.bytes.now in
    let r = c.args.piece.keys in
    ap (λ ks. marks ks c.loop-i.mask) (sym (left_none bs r c.loop-i.i c.loop-i-test.false))
    ∙ c.loop-i.invariant
    ∙ ap (marks (keys_of bs r)) (c.fill.ensures.after (λ y e. e))
    ∙ marks_all (keys_of bs r) (length c.args.mask.now)
