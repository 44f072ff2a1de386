-- What the rules of a record say of its buffers and children, as facts.
use Rattle.std.proofs.Common.{◌≡◌, ℕ, suc, ◌+◌, ◌-◌, ◌*◌, ◌<◌, ◌≤◌, Bool, true, false, cond, eqb, leb, List, [], ◌∷◌, length, sym, refl, ap, arith}
use Rattle.std.specs.List.{AllByRecursion}
use Rattle.records.specs.declared.record.Record.{Record}
use Rattle.numbers.specs.Bits.{bit_bytes}
use Rattle.format.specs.Meaning.{Kind, flat, bits, bytes, dictionary, list, structs, runs, other, kind_of, is_null, number, ends_of, run_of}
use Rattle.format.specs.Rules.{all_of, zeros, last, rises, end_of, room, offset_rules, one_child, kind_rules, record_rules}
use Rattle.std.proofs.lemmas.Bool.{leb-true, ltb-true, eqb-true, eq-eqb}
use Rattle.std.proofs.ByRecursion.{All-weaker}
use Rattle.format.proofs.Tests.{no_way, sub_true, all_of_lem, each, each_from, climb}

-- the number of a kind
abbrev pub Is : Kind → ℕ → Type 0
Is flat n = n ≡ 1
Is bits n = n ≡ 2
Is bytes n = n ≡ 3
Is dictionary n = n ≡ 4
Is list n = n ≡ 5
Is structs n = n ≡ 8
Is runs n = n ≡ 9
Is other n = Unit {0}

pub kind_is : (n : ℕ) → Is (kind_of n) n
kind_is n =
    on n 1 _ _ (λ e. e) (on n 2 _ _ (λ e. e) (on n 3 _ _ (λ e. e) (on n 4 _ _ (λ e. e) (on n 5 _ _ (λ e. e)
    (on n 8 _ _ (λ e. e) (on n 9 _ _ (λ e. e) tt))))))
  where
    on : (n k : ℕ) (x y : Kind) → (n ≡ k → Is x n) → Is y n → Is (cond (eqb n k) x y) n
    on n k x y f g = go (eqb n k) refl
      where
        go : (b : Bool) → eqb n k ≡ b → Is (cond b x y) n
        go true e = f (eqb-true n k e)
        go false e = g

-- each number is above the one before it
abbrev pub Rising : ℕ → List ℕ → Type 0
Rising a [] = Unit {0}
Rising a (e ∷ es) = (a < e) × Rising e es

pub rising : (a : ℕ) (es : List ℕ) → rises a es ≡ true → Rising a es
rising a [] h = tt
rising a (e ∷ es) h = let s = sub_true _ _ h in (ltb-true a e s.0, rising e es s.1)

-- where run ends rise, the first that ends above a row below the last is one of them
pub run_below : (a i : ℕ) (es : List ℕ) → Rising a es → a ≤ i → i < last a es → run_of es i < length es
run_below a i [] r h l = absurd (omega arith)
run_below a i (e ∷ es) r h l = go (leb e i) refl (run_below e i es r.1)
  where
    go : (b : Bool) → leb e i ≡ b → (e ≤ i → i < last e es → run_of es i < length es)
        → cond b (1 + run_of es i) 0 < suc (length es)
    go true t ih = let x = ih (leb-true e i t) l in omega arith
    go false t ih = omega arith

-- offsets that lie in memory, never fall, and end at or below `most`
pub record Offsets (bs : List ℕ) (r : Record) (most : ℕ) : Type 0 where
  pub fits : r.a + (end_of r + 1) * r.width ≤ length bs
  pub steps : (j : ℕ) → r.start ≤ j → j < end_of r → number bs r j ≤ number bs r (j + 1)
  pub below : (j : ℕ) → r.start ≤ j → j ≤ end_of r → number bs r j ≤ most

-- one child, of which something holds
pub record Lone (ks : List Record) (P : Record → Type 0) : Type 0 where
  pub child : Record
  pub alone : ks ≡ child ∷ []
  pub holds : P child

abbrev pub Says : Kind → List ℕ → Record → List Record → Type 0
Says flat bs r ks = r.a + end_of r * r.width ≤ length bs
Says bits bs r ks = r.a + bit_bytes (end_of r) ≤ length bs
Says bytes bs r ks = Offsets bs r r.count × (r.b + r.count ≤ length bs)
Says dictionary bs r ks =
    (r.a + end_of r * r.width ≤ length bs)
    × Lone ks (λ k. (j : ℕ) → r.start ≤ j → j < end_of r → is_null bs r j ≡ false → number bs r j < k.length)
Says list bs r ks = Lone ks (λ k. Offsets bs r k.length)
Says structs bs r ks = AllByRecursion (λ k. end_of r ≤ k.length) ks
Says runs bs r ks =
    (r.a + r.count * r.width ≤ length bs) × Rising 0 (ends_of bs r) × (end_of r ≤ last 0 (ends_of bs r)) × Lone ks (λ k. r.count ≤ k.length)
Says other bs r ks = ⊥

lone : (ks : List Record) (f : Record → Bool) (P : Record → Type 0) → ((k : Record) → f k ≡ true → P k) → one_child ks f ≡ true → Lone ks P
lone [] f P g h = no_way h
lone (k ∷ []) f P g h = record { child = k; alone = refl; holds = g k h }
lone (k ∷ l ∷ ks) f P g h = no_way h

module _ (bs : List ℕ) (r : Record) (ks : List Record) where
  offsets : (most : ℕ) → all_of (offset_rules bs r most) ≡ true → Offsets bs r most
  offsets most h =
      let t = all_of_lem (offset_rules bs r most) h in
      let up : (j : ℕ) → r.start ≤ j → j < end_of r → number bs r j ≤ number bs r (j + 1) =
      λ j a b. leb-true _ _ (each_from _ r.start r.length t.1.1.0 j a b) in
      record {
        fits = leb-true _ _ t.0;
        steps = up;
        below = λ j a b.
            let z : j + (end_of r - j) ≡ end_of r = omega arith in
            let c = climb (number bs r) r.start (end_of r) up j (end_of r - j) a (omega arith) in
            let y : number bs r (j + (end_of r - j)) ≡ number bs r (end_of r) = ap (number bs r) z in
            omega (arith, leb-true _ _ t.1.1.1.0);
      }

  says : (K : Kind) → all_of (kind_rules bs r ks K) ≡ true → Says K bs r ks
  says flat h = let t = all_of_lem (kind_rules bs r ks flat) h in leb-true _ _ t.1.0
  says bits h = let t = all_of_lem (kind_rules bs r ks bits) h in leb-true _ _ t.0
  says bytes h = let t = all_of_lem (kind_rules bs r ks bytes) h in (offsets r.count t.1.0, leb-true _ _ t.1.1.0)
  says dictionary h =
      let t = all_of_lem (kind_rules bs r ks dictionary) h in (
        leb-true _ _ t.1.1.0,
        lone ks _ _ (λ k g j a b v. ltb-true _ _ (sub_true _ _ (unless (is_null bs r j) _ v (each_from _ r.start r.length g j a b))).1) t.1.1.1.0,
      )
    where
      unless : (u w : Bool) → u ≡ false → cond u true w ≡ true → w ≡ true
      unless true w e h = no_way (sym e)
      unless false w e h = h
  says list h = let t = all_of_lem (kind_rules bs r ks list) h in lone ks _ _ (λ k g. offsets k.length g) t.1.0
  says structs h =
      let t = all_of_lem (kind_rules bs r ks structs) h in All-weaker _ _ (λ x e. leb-true _ _ e) ks (each _ ks t.0)
  says runs h =
      let t = all_of_lem (kind_rules bs r ks runs) h in (
        leb-true _ _ t.1.0,
        rising 0 (ends_of bs r) t.1.1.1.0,
        leb-true _ _ t.1.1.1.1.0,
        lone ks _ _ (λ k g. leb-true _ _ g) t.1.1.1.1.1.0,
      )
  says other h = no_way h

  pub facts : all_of (record_rules bs r ks) ≡ true → Says (kind_of r.kind) bs r ks
  facts h = says (kind_of r.kind) (all_of_lem (record_rules bs r ks) h).1.1.1.0

  pub validity : all_of (record_rules bs r ks) ≡ true → (r.nulls ≡ 1) → r.v + bit_bytes (end_of r) ≤ length bs
  validity h e =
      let t = all_of_lem (record_rules bs r ks) h in
      let x : cond (eqb r.nulls 1) (room bs r.v (bit_bytes (end_of r))) (zeros (r.nulls ∷ r.v ∷ [])) ≡ true = t.1.1.0 in
      leb-true _ _ (rw (eq-eqb r.nulls 1 e) at x)
