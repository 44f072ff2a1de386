-- What the records of a well-formed column are known to have: places in the memory, and windows that end low enough.
use Rattle.std.proofs.Common.{◌≡◌, ℕ, zero, suc, ◌+◌, ◌-◌, ◌*◌, ◌<◌, ◌≤◌, Bool, true, false, cond, eqb, leb, List, [], ◌∷◌, length, get_or, refl, arith}
use Rattle.records.specs.declared.record.Record.{Record}
use Rattle.numbers.specs.Bits.{bit_bytes}
use Rattle.format.specs.Trees.{rec_at}
use Rattle.format.specs.Meaning.{Kind, flat, bits, bytes, dictionary, list, structs, runs, other, kind_of}
use Rattle.format.specs.Rules.{all_of, zeros, total, end_of, room, offset_rules, one_child, kind_rules, validity_ok, record_rules, children_at, ruled_at, root_rules, inner_ok, WellFormed}
use Rattle.std.proofs.lemmas.Bool.{leb-true, ltb-true, eqb-true}
use Rattle.format.proofs.Tests.{no_way, sub_true, all_of_lem, none_not, passed}

unused : (xs : List ℕ) → zeros xs ≡ true → (i : ℕ) → get_or xs i 0 ≡ 0
unused [] h i = refl
unused (x ∷ xs) h zero = eqb-true x 0 (sub_true (eqb x 0) (zeros xs) h).0
unused (x ∷ xs) h (suc i) = unused xs (sub_true (eqb x 0) (zeros xs) h).1 i

zero_low : (xs : List ℕ) → zeros xs ≡ true → (i n : ℕ) → get_or xs i 0 ≤ n
zero_low xs h i n = omega (arith, unused xs h i)

low : (x m n : ℕ) → leb (x + m) n ≡ true → x ≤ n
low x m n h = omega (arith, leb-true (x + m) n h)

offsets_low : (bs : List ℕ) (r : Record) (most : ℕ) → all_of (offset_rules bs r most) ≡ true → r.a ≤ length bs
offsets_low bs r most h = low r.a ((end_of r + 1) * r.width) (length bs) (all_of_lem (offset_rules bs r most) h).0

lone_low : (bs : List ℕ) (r : Record) (ks : List Record) → one_child ks (λ k. all_of (offset_rules bs r k.length)) ≡ true → r.a ≤ length bs
lone_low bs r [] h = no_way h
lone_low bs r (k ∷ []) h = offsets_low bs r k.length h
lone_low bs r (k ∷ l ∷ ks) h = no_way h

-- the first two places, by kind
places : (bs : List ℕ) (r : Record) (ks : List Record) (K : Kind) → all_of (kind_rules bs r ks K) ≡ true → (r.a ≤ length bs) × (r.b ≤ length bs)
places bs r ks flat h =
    let t = all_of_lem (kind_rules bs r ks flat) h in
    (low r.a (end_of r * r.width) (length bs) t.1.0, zero_low (r.size ∷ r.b ∷ r.count ∷ []) t.1.1.1.0 1 (length bs))
places bs r ks bits h =
    let t = all_of_lem (kind_rules bs r ks bits) h in
    (low r.a (bit_bytes (end_of r)) (length bs) t.0, zero_low (r.width ∷ r.size ∷ r.b ∷ r.count ∷ []) t.1.1.0 2 (length bs))
places bs r ks bytes h =
    let t = all_of_lem (kind_rules bs r ks bytes) h in (offsets_low bs r r.count t.1.0, low r.b r.count (length bs) t.1.1.0)
places bs r ks dictionary h =
    let t = all_of_lem (kind_rules bs r ks dictionary) h in
    (low r.a (end_of r * r.width) (length bs) t.1.1.0, zero_low (r.b ∷ r.count ∷ []) t.1.1.1.1.0 0 (length bs))
places bs r ks list h =
    let t = all_of_lem (kind_rules bs r ks list) h in (lone_low bs r ks t.1.0, zero_low (r.size ∷ r.b ∷ r.count ∷ []) t.1.1.0 1 (length bs))
places bs r ks structs h =
    let z = (all_of_lem (kind_rules bs r ks structs) h).1.0 in
    let l : List ℕ = r.width ∷ r.size ∷ r.a ∷ r.b ∷ r.count ∷ [] in
    (zero_low (r.width ∷ r.size ∷ r.a ∷ r.b ∷ r.count ∷ []) z 2 (length bs), zero_low (r.width ∷ r.size ∷ r.a ∷ r.b ∷ r.count ∷ []) z 3 (length bs))
places bs r ks runs h =
    let t = all_of_lem (kind_rules bs r ks runs) h in
    (low r.a (r.count * r.width) (length bs) t.1.0, zero_low (r.nulls ∷ r.size ∷ r.b ∷ []) t.1.1.1.1.1.1.0 2 (length bs))
places bs r ks other h = no_way h

-- what is known of each record
pub record Known (n : ℕ) (r : Record) : Type 0 where
  pub v : r.v ≤ n
  pub a : r.a ≤ n
  pub b : r.b ≤ n
  pub low : end_of r ≤ 4294967295
  pub some : 1 ≤ r.span

valid_low : (bs : List ℕ) (r : Record) → validity_ok bs r ≡ true → r.v ≤ length bs
valid_low bs r = go (eqb r.nulls 1)
  where
    go : (t : Bool) → cond t (room bs r.v (bit_bytes (end_of r))) (zeros (r.nulls ∷ r.v ∷ [])) ≡ true → r.v ≤ length bs
    go true h = low r.v (bit_bytes (end_of r)) (length bs) h
    go false h = zero_low (r.nulls ∷ r.v ∷ []) h 1 (length bs)

pub known : (bs : List ℕ) (r : Record) (ks : List Record) → all_of (record_rules bs r ks) ≡ true → Known (length bs) r
known bs r ks h =
    let t = all_of_lem (record_rules bs r ks) h in
    let p = places bs r ks (kind_of r.kind) t.1.1.1.0 in
    let s = eqb-true r.span (1 + total (λ k. k.span) ks) t.1.1.1.1.1.0 in
    record { v = valid_low bs r t.1.1.0; a = p.0; b = p.1; low = leb-true (end_of r) 4294967295 t.1.0; some = omega arith }

-- what is known of a column
pub record Right (bs : List ℕ) (rs : List Record) (q : ℕ) : Type 0 where
  pub here : q < length rs
  pub few : (rec_at rs q).span ≤ 64
  pub inside : q + (rec_at rs q).span ≤ length rs
  pub each : (i : ℕ) → i < (rec_at rs q).span → ruled_at bs rs (q + i) ≡ true
  pub ends : (i : ℕ) → i < (rec_at rs q).span → q + i + (rec_at rs (q + i)).span ≤ q + (rec_at rs q).span
  pub head : Known (length bs) (rec_at rs q)

pub right : (bs : List ℕ) (rs : List Record) (q : ℕ) → WellFormed bs rs q → Right bs rs q
right bs rs q w =
    let s : ℕ = (rec_at rs q).span in
    let p = passed (all_of (root_rules bs rs q)) _ w in
    let t = all_of_lem (root_rules bs rs q) p.0 in
    let top : ruled_at bs rs q ≡ true = (sub_true (leb (q + (rec_at rs q).span) (q + (rec_at rs q).span)) _ t.1.1.1.1.0).1 in
    record {
      here = ltb-true _ _ t.0;
      few = leb-true _ _ t.1.1.0;
      inside = leb-true _ _ t.1.1.1.0;
      head = known bs (rec_at rs q) (children_at rs q) top;
      each = λ i l. at i l top (λ j x y. (sub_true (leb (q + j + (rec_at rs (q + j)).span) (q + s)) _
          (sub_true (eqb (rec_at rs (q + j)).root 0) _ (none_not (λ i. inner_ok bs rs (q + s) (q + i)) 1 (s - 1) p.1 j x y)).1).1);
      ends = λ i l. end_at i l (λ j x y. leb-true _ _ (sub_true (leb (q + j + (rec_at rs (q + j)).span) (q + s)) (ruled_at bs rs (q + j))
          (sub_true (eqb (rec_at rs (q + j)).root 0) _ (none_not (λ i. inner_ok bs rs (q + s) (q + i)) 1 (s - 1) p.1 j x y)).1).0);
    }
  where
    end_at : (i : ℕ) → i < (rec_at rs q).span
        → ((j : ℕ) → 1 ≤ j → j < 1 + ((rec_at rs q).span - 1) → q + j + (rec_at rs (q + j)).span ≤ q + (rec_at rs q).span)
        → q + i + (rec_at rs (q + i)).span ≤ q + (rec_at rs q).span
    end_at zero l f = let z : q + 0 ≡ q = omega arith in rw z (omega arith)
    end_at (suc i) l f = f (suc i) (omega arith) (omega arith)

    at : (i : ℕ) → i < (rec_at rs q).span → ruled_at bs rs q ≡ true
        → ((j : ℕ) → 1 ≤ j → j < 1 + ((rec_at rs q).span - 1) → ruled_at bs rs (q + j) ≡ true) → ruled_at bs rs (q + i) ≡ true
    at zero l h f = let z : q + 0 ≡ q = omega arith in rw z h
    at (suc i) l h f = f (suc i) (omega arith) (omega arith)
