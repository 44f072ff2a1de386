use Rattle.std.proofs.Common.{[], length, sym, ◌∙◌, rules}
use Rattle.std.proofs.lemmas.List.{append-nil}
use Rattle.interning.specs.Merging.{slots_of}
use Rattle.dictionary.specs.Dictionaries.{taken}
use Rattle.dictionary.specs.Tables.{so_far}
use Rattle.dictionary.proofs.Interns.{length-entries, stands_as, kept_more}
use Rattle.dictionary.proofs.Going.{going_start, input_within, input_long, input_marks, input_room, input_more}
use Rattle.dictionary.proofs.interner.Interner.intern_all.Goals as goal

pub loop-i-init : goal.loop-i-init
loop-i-init g c =
    let i = c.args.self.now in
    let ts = taken c.args.from.now in
    let long = length-entries i.chosen.now i.entries in
    record {
      going = going_start _ ts (slots_of ts) (so_far i) [] (length i.chosen.now) c.args.keys.now (c.requires.marks ∙ sym (append-nil _)) (rw long c.requires.room);
      kept = record { stands = c.requires.stands; lent = search rules; same = search rules };
    }

pub slice_bounds-intern_masked_values-end : goal.slice_bounds-intern_masked_values-end
slice_bounds-intern_masked_values-end g c =
    let w = input_within c.args.from.now.bytes.now c.args.from.now.pieces.now c.loop-i.i c.loop-i.invariant.kept.same c.loop-i.invariant.going c.loop-i-test.true in
    search rules

pub intern_masked_values-requires : goal.intern_masked_values-requires
intern_masked_values-requires g c =
    let i = c.loop-i.self in
    let v = c.loop-i.invariant in
    let bs = c.args.from.now.bytes.now in
    let ps = c.args.from.now.pieces.now in
    let long = length-entries i.chosen.now i.entries in
    let r = input_room bs ps c.loop-i.i v.kept.same v.going c.loop-i-test.true in
    record {
      input = c.loop-i-test.true;
      long = input_long bs ps c.loop-i.i v.kept.same v.going c.loop-i-test.true;
      marks = input_marks bs ps c.loop-i.i v.kept.same v.going c.loop-i-test.true;
      stands = stands_as (sym v.kept.same) v.kept.stands;
      room = rw (← long, v.kept.lent.chosen.long) r;
    }

pub loop-i-preserved : goal.loop-i-preserved
loop-i-preserved g c =
    let v = c.loop-i.invariant in
    let new = c.intern_masked_values.ensures in
    record {
      going =
          input_more c.args.from.now.bytes.now c.args.from.now.pieces.now c.loop-i.i v.kept.same v.going c.loop-i-test.true
          c.intern_masked_values.new.keys (so_far c.intern_masked_values.new.self) new.keys new.entries;
      kept = kept_more v.kept new.kept;
    }
