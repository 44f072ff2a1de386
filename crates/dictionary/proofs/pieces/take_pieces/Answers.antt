use Rattle.std.proofs.Common.{◌≡◌, Ok, sym, ◌∙◌, subst, rules}
use Rattle.std.proofs.lemmas.List.Elements.{All-push}
use Rattle.dictionary.specs.Pieces.{PieceOk, AnswerOk}
use Rattle.dictionary.proofs.Stretches.{taking_more}
use Rattle.dictionary.proofs.pieces.take_pieces.Goals as goal

pub loop-i-preserved : goal.loop-i-preserved
loop-i-preserved c =
    let i = c.loop-i.invariant in
    let bs = c.args.bytes.now in
    let was : c.dictionary_piece.result ≡ Ok c.in_ok-piece.piece = search rules in
    let more = taking_more bs c.args.records.now c.args.inputs.now c.loop-i.i c.loop-i.pieces.items c.in_ok-piece.piece c.loop-i-test.true i.taken (sym was ∙ c.dictionary_piece.ensures.answer) in
    let all = All-push (PieceOk bs) c.loop-i.pieces.items c.in_ok-piece.piece i.ok (subst (AnswerOk bs) was c.dictionary_piece.ensures.ok) in
    record { count = search rules; taken = rw c.push.ensures.items more; ok = rw c.push.ensures.items all }
