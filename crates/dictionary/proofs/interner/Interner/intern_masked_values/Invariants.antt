use Rattle.std.proofs.Common.{[], length}
use Rattle.interning.specs.Merging.{slots_in}
use Rattle.dictionary.specs.Dictionaries.{taken}
use Rattle.dictionary.specs.Tables.{so_far, Kept}
use Rattle.dictionary.proofs.Going.{Going, rest_in}
use Rattle.dictionary.proofs.interner.Interner.intern_masked_values.Given as goal

abbrev pub invariant-loop-j : goal.invariant-loop-j
invariant-loop-j g l = record {
  going :
      Going (g.H.Hash.meaning l.initial.hash) (taken l.from) (slots_in l.input (length l.initial.keys)) (so_far l.initial.self) []
      (length l.initial.self.chosen.now) (rest_in l.input l.j (length l.initial.keys)) (so_far l.self) l.j l.keys;
  kept : Kept (g.H.Hash.meaning l.initial.hash) (g.H.Hash.meaning l.hash) l.from l.initial.self l.self;
}
