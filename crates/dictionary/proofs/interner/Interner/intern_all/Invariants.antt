use Rattle.std.proofs.Common.{[], length, drop}
use Rattle.interning.specs.Merging.{slots_of, slots_from}
use Rattle.dictionary.specs.Dictionaries.{taken}
use Rattle.dictionary.specs.Tables.{so_far, Kept}
use Rattle.dictionary.proofs.Going.{Going}
use Rattle.dictionary.proofs.interner.Interner.intern_all.Given as goal

abbrev pub invariant-loop-i : goal.invariant-loop-i
invariant-loop-i g l = record {
  going :
      Going (g.H.Hash.meaning l.initial.hash) (taken l.from) (slots_of (taken l.from)) (so_far l.initial.self) []
      (length l.initial.self.chosen.now) (slots_from l.i (drop l.i (taken l.from))) (so_far l.self) l.at l.keys;
  kept : Kept (g.H.Hash.meaning l.initial.hash) (g.H.Hash.meaning l.hash) l.from l.initial.self l.self;
}
