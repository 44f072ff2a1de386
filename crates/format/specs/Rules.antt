-- What a well-formed column is: the rules of each record, and the number of the first record that breaks one. `bs` is the byte memory
-- up to its mark, `rs` the record memory up to its mark.
use Rattle.std.specs.Prelude.{◌≡◌, ℕ, zero, suc, ◌+◌, ◌-◌, ◌*◌, Bool, true, false, cond, nat_le, List, [], ◌∷◌, length, Some, None, Option, ◌==◌, nat_eq, nat_lt}
use Rattle.std.specs.List.{range_with_len}
use Rattle.records.specs.declared.record.Record.{Record}
use Rattle.numbers.specs.Little.{not_negative}
use Rattle.numbers.specs.Bits.{bit_bytes}
use Rattle.format.specs.Trees.{rec_at}
use Rattle.format.specs.Meaning.{Kind, flat, bits, bytes, dictionary, list, structs, runs, other, kind_of, is_null, number, ends_of}

abbrev pub both : Bool → Bool → Bool
both x y = cond x y false

-- every one of some tests holds
abbrev pub all_of : List Bool → Bool
all_of [] = true
all_of (t ∷ ts) = both t (all_of ts)

abbrev pub every : {X : Type 0} → (X → Bool) → List X → Bool
every f [] = true
every f (x ∷ xs) = both (f x) (every f xs)

abbrev pub one_of : ℕ → List ℕ → Bool
one_of x [] = false
one_of x (y ∷ ys) = cond (x == y) true (one_of x ys)

abbrev pub zeros : List ℕ → Bool
zeros fields = every (λ x. nat_eq x 0) fields

abbrev pub total : {X : Type 0} → (X → ℕ) → List X → ℕ
total f [] = 0
total f (x ∷ xs) = f x + total f xs

abbrev pub last : ℕ → List ℕ → ℕ
last a [] = a
last a (e ∷ es) = last e es

-- each number is above the one before it
abbrev pub rises : ℕ → List ℕ → Bool
rises a [] = true
rises a (e ∷ es) = both (nat_lt a e) (rises e es)

-- the position after the last row
abbrev pub end_of : Record → ℕ
end_of r = r.start + r.length

-- n bytes at p end at or below the byte mark
abbrev pub room : List ℕ → ℕ → ℕ → Bool
room bs p n = nat_le (p + n) (length bs)

-- offsets number start to end: they are there, none is negative, they never fall, and the last is at most `most`
abbrev pub offset_rules : List ℕ → Record → ℕ → List Bool
offset_rules bs r most =
    room bs r.a ((end_of r + 1) * r.width)
    ∷ every (λ j. not_negative true r.width (number bs r j)) (range_with_len r.start (r.length + 1))
    ∷ every (λ j. nat_le (number bs r j) (number bs r (j + 1))) (range_with_len r.start r.length)
    ∷ nat_le (number bs r (end_of r)) most ∷ []

-- the key at position j is not negative and names one of the entries, unless the position is null
abbrev pub key_ok : List ℕ → Record → ℕ → ℕ → Bool
key_ok bs r entries j =
    cond (is_null bs r j) true (both (not_negative (r.size == 1) r.width (number bs r j)) (nat_lt (number bs r j) entries))

abbrev pub one_child : List Record → (Record → Bool) → Bool
one_child [] f = false
one_child (k ∷ []) f = f k
one_child (k ∷ l ∷ ks) f = false

abbrev pub no_child : List Record → Bool
no_child [] = true
no_child (k ∷ ks) = false

-- the rules of each kind, for a record r whose children's first records are kids. Fields that a kind leaves unused are 0.
abbrev pub kind_rules : List ℕ → Record → List Record → Kind → List Bool
kind_rules bs r kids flat =
    one_of r.width (1 ∷ 2 ∷ 4 ∷ 8 ∷ 16 ∷ 32 ∷ []) ∷ room bs r.a (end_of r * r.width) ∷ no_child kids
    ∷ zeros (r.size ∷ r.b ∷ r.count ∷ []) ∷ []
kind_rules bs r kids bits =
    room bs r.a (bit_bytes (end_of r)) ∷ no_child kids ∷ zeros (r.width ∷ r.size ∷ r.b ∷ r.count ∷ []) ∷ []
kind_rules bs r kids bytes =
    one_of r.width (4 ∷ 8 ∷ []) ∷ all_of (offset_rules bs r r.count) ∷ room bs r.b r.count ∷ no_child kids
    ∷ zeros (r.size ∷ []) ∷ []
kind_rules bs r kids dictionary =
    one_of r.width (1 ∷ 2 ∷ 4 ∷ 8 ∷ []) ∷ nat_le r.size 1 ∷ room bs r.a (end_of r * r.width)
    ∷ one_child kids (λ k. every (key_ok bs r k.length) (range_with_len r.start r.length))
    ∷ zeros (r.b ∷ r.count ∷ []) ∷ []
kind_rules bs r kids list =
    one_of r.width (4 ∷ 8 ∷ []) ∷ one_child kids (λ k. all_of (offset_rules bs r k.length))
    ∷ zeros (r.size ∷ r.b ∷ r.count ∷ []) ∷ []
kind_rules bs r kids structs =
    every (λ k. nat_le (end_of r) k.length) kids ∷ zeros (r.width ∷ r.size ∷ r.a ∷ r.b ∷ r.count ∷ []) ∷ []
kind_rules bs r kids runs =
    one_of r.width (2 ∷ 4 ∷ 8 ∷ []) ∷ room bs r.a (r.count * r.width)
    ∷ every (λ e. not_negative true r.width e) (ends_of bs r) ∷ rises 0 (ends_of bs r) ∷ nat_le (end_of r) (last 0 (ends_of bs r))
    ∷ one_child kids (λ k. nat_le r.count k.length) ∷ zeros (r.nulls ∷ r.size ∷ r.b ∷ []) ∷ []
kind_rules bs r kids other = false ∷ []

-- the validity bitmap, where there is one
abbrev pub validity_ok : List ℕ → Record → Bool
validity_ok bs r = cond (r.nulls == 1) (room bs r.v (bit_bytes (end_of r))) (zeros (r.nulls ∷ r.v ∷ []))

-- the rules of a record; spans add up
abbrev pub record_rules : List ℕ → Record → List Record → List Bool
record_rules bs r kids =
    nat_le r.logic 65535 ∷ nat_le (end_of r) 4294967295 ∷ validity_ok bs r ∷ all_of (kind_rules bs r kids (kind_of r.kind))
    ∷ every (λ k. nat_le 1 k.span) kids ∷ (r.span == 1 + total (λ k. k.span) kids) ∷ []

-- the first records of the trees that start at p, each behind the one before it, up to e; at most n of them
abbrev pub trees_from : ℕ → List Record → ℕ → ℕ → List Record
trees_from zero rs p e = []
trees_from (suc n) rs p e = cond (nat_lt p e) (rec_at rs p ∷ trees_from n rs (p + (rec_at rs p).span) e) []

abbrev pub children_at : List Record → ℕ → List Record
children_at rs p = trees_from (rec_at rs p).span rs (p + 1) (p + (rec_at rs p).span)

-- the record at p keeps its rules
abbrev pub ruled_at : List ℕ → List Record → ℕ → Bool
ruled_at bs rs p = all_of (record_rules bs (rec_at rs p) (children_at rs p))

-- and its span ends within its column, which ends at e
abbrev pub ok_at : List ℕ → List Record → ℕ → ℕ → Bool
ok_at bs rs e p = both (nat_le (p + (rec_at rs p).span) e) (ruled_at bs rs p)

-- the first record is a root, and its column has at most 64 records, all of them below the record mark
abbrev pub root_rules : List ℕ → List Record → ℕ → List Bool
root_rules bs rs q =
    nat_lt q (length rs) ∷ ((rec_at rs q).root == 1) ∷ nat_le (rec_at rs q).span 64 ∷ nat_le (q + (rec_at rs q).span) (length rs)
    ∷ ok_at bs rs (q + (rec_at rs q).span) q ∷ []

-- any other record is none
abbrev pub inner_ok : List ℕ → List Record → ℕ → ℕ → Bool
inner_ok bs rs e p = both ((rec_at rs p).root == 0) (ok_at bs rs e p)

abbrev pub first_not : (ℕ → Bool) → List ℕ → Option ℕ
first_not f [] = None
first_not f (x ∷ xs) = cond (f x) (first_not f xs) (Some x)

-- THE CHECK: the number, from 0, of the first record of the column at place q that breaks a rule
abbrev pub first_broken : List ℕ → List Record → ℕ → Option ℕ
first_broken bs rs q =
    cond (all_of (root_rules bs rs q))
    (first_not (λ i. inner_ok bs rs (q + (rec_at rs q).span) (q + i)) (range_with_len 1 ((rec_at rs q).span - 1))) (Some 0)

-- A WELL-FORMED column: none of its records breaks a rule
abbrev pub WellFormed : List ℕ → List Record → ℕ → Type 0
WellFormed bs rs q = first_broken bs rs q ≡ None
