-- What a merge takes of the program's pieces, and their slots.
use Rattle.std.specs.Prelude.{List}
use Rattle.records.specs.declared.slot.Slot.{Slot}
use Rattle.interning.specs.Merging.{Taken}
use Rattle.dictionary.specs.declared.dictionaries.Dictionaries.{Dictionaries}
use Rattle.dictionary.specs.Pieces.{taken_all, SlotIn}

abbrev pub taken : Dictionaries → List Taken
taken d = taken_all d.bytes.now d.pieces.now

abbrev pub HasSlot : Dictionaries → Slot → Type 0
HasSlot d s = SlotIn d.pieces.now s
