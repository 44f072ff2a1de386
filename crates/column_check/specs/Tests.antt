-- The rules of a column in the order in which the check tests them. The check's own contract is about the rules of the format; that the
-- two agree is shown in proofs/Same.antt.
use Rattle.std.specs.Prelude.{ℕ, zero, suc, ◌+◌, ◌-◌, ◌*◌, Bool, true, false, cond, List, [], ◌∷◌, map, length, Some, None, Option, ◌==◌, nat_le, nat_lt}
use Rattle.std.specs.List.{range_with_len}
use Rattle.records.specs.declared.record.Record.{Record}
use Rattle.numbers.specs.Little.{not_negative}
use Rattle.numbers.specs.Bits.{bit_bytes}
use Rattle.format.specs.Trees.{rec_at}
use Rattle.format.specs.Meaning.{Kind, flat, bits, bytes, dictionary, list, structs, runs, other, kind_of, number, ends_of}
use Rattle.format.specs.Rules.{both, every, one_of, zeros, end_of, room, key_ok, validity_ok, first_not}

-- one test after another
abbrev pub in_turn : List Bool → Bool
in_turn [] = true
in_turn (t ∷ []) = t
in_turn (t ∷ u ∷ ts) = both t (in_turn (u ∷ ts))

-- number x of an index kind, where it is not negative and at least, or above, another
abbrev pub at_least : Bool → ℕ → ℕ → ℕ → Option ℕ
at_least s w a x = cond (both (not_negative s w x) (nat_le a x)) (Some x) None

abbrev pub above : Bool → ℕ → ℕ → ℕ → Option ℕ
above s w a x = cond (both (not_negative s w x) (nat_lt a x)) (Some x) None

-- offsets from a on: none is negative or below the one before it, and the last is at most `most`
abbrev pub climbs : Bool → ℕ → ℕ → ℕ → List ℕ → Bool
climbs s w most a [] = nat_le a most
climbs s w most a (x ∷ xs) = both (both (not_negative s w x) (nat_le a x)) (climbs s w most x xs)

abbrev pub offsets_of : List ℕ → Record → List ℕ
offsets_of bs r = map (number bs r) (range_with_len r.start (r.length + 1))

abbrev pub offsets_ok : List ℕ → Record → ℕ → Bool
offsets_ok bs r most = both (room bs r.a ((end_of r + 1) * r.width)) (climbs true r.width most 0 (offsets_of bs r))

abbrev pub keys_ok : List ℕ → Record → ℕ → Bool
keys_ok bs r entries = every (key_ok bs r entries) (range_with_len r.start r.length)

-- run ends above a: none is negative, each is above the one before it, and the last is at least e
abbrev pub rising : Bool → ℕ → ℕ → ℕ → List ℕ → Bool
rising s w e a [] = nat_le e a
rising s w e a (x ∷ xs) = both (both (not_negative s w x) (nat_lt a x)) (rising s w e x xs)

-- a child of at least n rows
abbrev pub reaches : ℕ → Record → Bool
reaches n k = nat_le n k.length

-- the trees from k up to e: each has one record at least, none reaches past e, each passes f
abbrev pub walk : ℕ → (Record → Bool) → List Record → ℕ → ℕ → Bool
walk zero f rs k e = true
walk (suc n) f rs k e =
    cond (nat_lt k e)
    (both (nat_le 1 (rec_at rs k).span) (both (nat_le (k + (rec_at rs k).span) e)
    (both (f (rec_at rs k)) (walk n f rs (k + (rec_at rs k).span) e)))) true

-- r has one child, k
abbrev pub single : Record → Record → Bool
single r k = both (nat_le 2 r.span) (r.span == 1 + k.span)

-- each kind; k is the record after r
abbrev pub flat_tests : List ℕ → Record → List Bool
flat_tests bs r =
    one_of r.width (1 ∷ 2 ∷ 4 ∷ 8 ∷ 16 ∷ 32 ∷ []) ∷ room bs r.a (end_of r * r.width) ∷ (r.span == 1)
    ∷ zeros (r.size ∷ r.b ∷ r.count ∷ []) ∷ []

abbrev pub bit_tests : List ℕ → Record → List Bool
bit_tests bs r = room bs r.a (bit_bytes (end_of r)) ∷ (r.span == 1) ∷ zeros (r.width ∷ r.size ∷ r.b ∷ r.count ∷ []) ∷ []

abbrev pub bytes_tests : List ℕ → Record → List Bool
bytes_tests bs r =
    one_of r.width (4 ∷ 8 ∷ []) ∷ offsets_ok bs r r.count ∷ room bs r.b r.count ∷ (r.span == 1) ∷ zeros (r.size ∷ []) ∷ []

abbrev pub dictionary_tests : List ℕ → Record → Record → List Bool
dictionary_tests bs r k =
    one_of r.width (1 ∷ 2 ∷ 4 ∷ 8 ∷ []) ∷ nat_le r.size 1 ∷ room bs r.a (end_of r * r.width) ∷ single r k
    ∷ keys_ok bs r k.length ∷ zeros (r.b ∷ r.count ∷ []) ∷ []

abbrev pub list_tests : List ℕ → Record → Record → List Bool
list_tests bs r k =
    one_of r.width (4 ∷ 8 ∷ []) ∷ single r k ∷ offsets_ok bs r k.length ∷ zeros (r.size ∷ r.b ∷ r.count ∷ []) ∷ []

abbrev pub struct_tests : List Record → Record → ℕ → List Bool
struct_tests rs r p =
    zeros (r.width ∷ r.size ∷ r.a ∷ r.b ∷ r.count ∷ [])
    ∷ walk (r.span - 1) (reaches (end_of r)) rs (p + 1) (p + r.span) ∷ []

abbrev pub run_tests : List ℕ → Record → Record → List Bool
run_tests bs r k =
    one_of r.width (2 ∷ 4 ∷ 8 ∷ []) ∷ room bs r.a (r.count * r.width)
    ∷ rising true r.width (end_of r) 0 (ends_of bs r) ∷ single r k ∷ nat_le r.count k.length
    ∷ zeros (r.nulls ∷ r.size ∷ r.b ∷ []) ∷ []

abbrev pub kind_tests : List ℕ → List Record → Record → ℕ → Kind → List Bool
kind_tests bs rs r p flat = flat_tests bs r
kind_tests bs rs r p bits = bit_tests bs r
kind_tests bs rs r p bytes = bytes_tests bs r
kind_tests bs rs r p dictionary = dictionary_tests bs r (rec_at rs (p + 1))
kind_tests bs rs r p list = list_tests bs r (rec_at rs (p + 1))
kind_tests bs rs r p structs = struct_tests rs r p
kind_tests bs rs r p runs = run_tests bs r (rec_at rs (p + 1))
kind_tests bs rs r p other = false ∷ []

abbrev pub kind_ok : List ℕ → List Record → Record → ℕ → Bool
kind_ok bs rs r p = in_turn (kind_tests bs rs r p (kind_of r.kind))

-- the record at p, in a column that ends at e
abbrev pub record_tests : List ℕ → List Record → ℕ → ℕ → List Bool
record_tests bs rs e p =
    nat_le (rec_at rs p).logic 65535 ∷ nat_le (end_of (rec_at rs p)) 4294967295 ∷ validity_ok bs (rec_at rs p)
    ∷ nat_le 1 (rec_at rs p).span ∷ nat_le (p + (rec_at rs p).span) e ∷ kind_ok bs rs (rec_at rs p) p ∷ []

abbrev pub root_tests : List ℕ → List Record → ℕ → List Bool
root_tests bs rs q =
    nat_lt q (length rs) ∷ ((rec_at rs q).root == 1) ∷ nat_le (rec_at rs q).span 64 ∷ nat_le (q + (rec_at rs q).span) (length rs)
    ∷ in_turn (record_tests bs rs (q + (rec_at rs q).span) q) ∷ []

abbrev pub inner_tests : List ℕ → List Record → ℕ → ℕ → List Bool
inner_tests bs rs e p = ((rec_at rs p).root == 0) ∷ in_turn (record_tests bs rs e p) ∷ []

-- record i after the first, of a column of `span` records at q
abbrev pub inner_from : List ℕ → List Record → ℕ → ℕ → ℕ → Bool
inner_from bs rs q span i = in_turn (inner_tests bs rs (q + span) (q + i))

abbrev pub first_failed : List ℕ → List Record → ℕ → Option ℕ
first_failed bs rs q =
    cond (in_turn (root_tests bs rs q)) (first_not (inner_from bs rs q (rec_at rs q).span) (range_with_len 1 ((rec_at rs q).span - 1))) (Some 0)
