-- The lent tables of an interner, and what they stand for.
use Rattle.std.specs.Prelude.{◌≡◌, ℕ, zero, suc, ◌*◌, ◌^◌, ◌<◌, ◌≤◌, Bool, cond, List, [], ◌∷◌, length, Some, None, Option, ◌==◌, slice_index, slice_index_or, slice_set}
use Rattle.std.specs.Borrow.{MutBor}
use Rattle.std.specs.List.{AllByRecursion}
use Rattle.records.specs.declared.slot.Slot.{Slot}
use Rattle.interning.specs.Values.{Value, same_value}
use Rattle.interning.specs.Interning.{is_new, number_of, entries_with}
use Rattle.interning.specs.Merging.{Taken, slot, points_to, is_used, value_of, slot_bucket, same_slot, count_of_buckets}
use Rattle.dictionary.specs.declared.piece.Piece.{Piece}
use Rattle.dictionary.specs.declared.dictionaries.Dictionaries.{Dictionaries}
use Rattle.dictionary.specs.declared.tables.Tables.{Tables}
use Rattle.dictionary.specs.declared.interner.Interner.{Interner}
use Rattle.dictionary.specs.Pieces.{taken_all, SlotIn}

-- the first n chosen slots as the entries so far, the newest first
abbrev pub entries_in : List Slot → ℕ → List Slot
entries_in chosen zero = []
entries_in chosen (suc n) = slice_index_or chosen n (slot 0 0) ∷ entries_in chosen n

-- what a bucket holds: one more than the number of the last entry in it, or 0 where it is empty
abbrev pub held_in : {V : Type 0} → (V → ℕ) → ℕ → List V → ℕ
held_in bucket b [] = 0
held_in bucket b (e ∷ es) = cond (bucket e == b) (suc (length es)) (held_in bucket b es)

-- where a bucket holds an entry, that entry is a slot of the pieces
abbrev pub HeldSlot : List Piece → List Slot → ℕ → Type 0
HeldSlot ps chosen zero = Unit {0}
HeldSlot ps chosen (suc n) = (n < length chosen) × SlotIn ps (slice_index_or chosen n (slot 0 0))

-- and its number, if it has value v
abbrev pub held_entry : List Taken → List Slot → ℕ → Value → Option ℕ
held_entry ts chosen zero v = None
held_entry ts chosen (suc n) v = cond (same_value (value_of ts (slice_index_or chosen n (slot 0 0))) v) (Some n) None

-- a place of the key table: 0 for an unused slot, else one more than its entry number
abbrev pub in_table : Option ℕ → ℕ
in_table None = 0
in_table (Some n) = suc n

-- a mask of entries: 1 where one of some keys points
abbrev pub mask_at : List (Option ℕ) → ℕ → ℕ
mask_at ks j = cond (points_to j ks) 1 0

-- a mask with one more key marked, and with some
abbrev pub marked : Option ℕ → List ℕ → List ℕ
marked None m = m
marked (Some k) m = slice_set m k 1

abbrev pub marks : List (Option ℕ) → List ℕ → List ℕ
marks [] m = m
marks (k ∷ ks) m = marks ks (marked k m)

-- a key, if it is one, is below n
abbrev pub KeyBelow : ℕ → Option ℕ → Type 0
KeyBelow n None = Unit {0}
KeyBelow n (Some k) = k < n

-- before its slot is interned, a place of the key table is 1 where the slot is used
abbrev pub mark_of : List Taken → Slot → ℕ
mark_of ts s = cond (is_used ts s) 1 0

-- the tables stand for n entries: each bucket holds the last entry in it, and every chosen slot is one of the pieces'
pub record Standing (hash : List ℕ → ℕ) (bs : List ℕ) (ps : List Piece) (buckets : List ℕ) (chosen : List Slot) (n shift : ℕ) : Type 0 where
  pub whole : count_of_buckets (taken_all bs ps) * 2 ^ shift ≡ 2 ^ 64
  pub low : shift < 64
  pub wide : count_of_buckets (taken_all bs ps) ≤ length buckets
  pub fits : n ≤ length chosen
  pub within : AllByRecursion (SlotIn ps) (entries_in chosen n)
  pub table : (b : ℕ) → b < count_of_buckets (taken_all bs ps) → slice_index buckets b ≡ held_in (slot_bucket hash (taken_all bs ps)) b (entries_in chosen n)

-- slot s interned after the entries es: its number, whether it is new, and the entries after it
pub record Interns (hash : List ℕ → ℕ) (ts : List Taken) (es : List Slot) (s : Slot) (n : ℕ) (new : Bool) (after : List Slot) : Type 0 where
  pub number : n ≡ number_of (same_slot same_value ts) (slot_bucket hash ts) s es
  pub fresh : new ≡ is_new (same_slot same_value ts) (slot_bucket hash ts) s es
  pub entries : after ≡ entries_with (same_slot same_value ts) (slot_bucket hash ts) s es

-- the same lent memory
pub record SameMemory {X : Type 0} (s t : MutBor (List X)) : Type 0 where
  pub name : t.ghost_name ≡ s.ghost_name
  pub long : length t.now ≡ length s.now

pub record SameTables (s t : Tables) : Type 0 where
  pub keys : SameMemory s.keys t.keys
  pub buckets : SameMemory s.buckets t.buckets
  pub chosen : SameMemory s.chosen t.chosen

-- both hold the same lent tables
pub record SameLent (i j : Interner) : Type 0 where
  pub buckets : SameMemory i.buckets j.buckets
  pub chosen : SameMemory i.chosen j.chosen

-- the entries so far of an interner, and that its tables stand for them
abbrev pub so_far : Interner → List Slot
so_far i = entries_in i.chosen.now i.entries

abbrev pub Stands : (List ℕ → ℕ) → Dictionaries → Interner → Type 0
Stands hash d i = Standing hash d.bytes.now d.pieces.now i.buckets.now i.chosen.now i.entries i.shift

-- after some slots: the same lent tables, which stand for the entries, and a hash of the same meaning
pub record Kept (hash hash' : List ℕ → ℕ) (d : Dictionaries) (i j : Interner) : Type 0 where
  pub stands : Stands hash d j
  pub lent : SameLent i j
  pub same : hash' ≡ hash
