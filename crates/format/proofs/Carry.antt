-- The rules of a record hold on when its window shrinks, when its places move along with the bytes, and when bytes are added above
-- the mark: slice, admit, and every later call.
use Rattle.std.proofs.Common.{◌≡◌, ℕ, suc, ◌+◌, ◌-◌, ◌*◌, ◌/◌, ◌<◌, ◌≤◌, Bool, true, false, cond, eqb, leb, List, [], ◌∷◌, length, sym, refl, ◌∙◌, subst, ap₂, mul-le-mul_right, arith}
use Rattle.std.specs.List.{range_with_len}
use Rattle.records.specs.declared.record.Record.{Record}
use Rattle.numbers.specs.Little.{number_at, not_negative}
use Rattle.numbers.specs.Bits.{bit_bytes}
use Rattle.format.specs.Meaning.{Kind, flat, bits, bytes, dictionary, list, structs, runs, other, kind_of, is_null, ends_of}
use Rattle.format.specs.Rules.{all_of, every, zeros, total, last, rises, end_of, room, offset_rules, key_ok, one_child, no_child, kind_rules, validity_ok, record_rules}
use Rattle.std.proofs.lemmas.Bool.{leb-true, eqb-true, eqb-false, eq-eqb, le-leb}
use Rattle.format.proofs.Tests.{no_way, sub_true, both_true, all_of_lem, all_in, each_from, every_from, map-range_with_len, climb}
use Rattle.format.proofs.Facts.{Is, kind_is}

-- number j of e numbers that fit
pub in_room : (p w e j L : ℕ) → p + e * w ≤ L → j < e → p + j * w + w ≤ L
in_room p w e j L h l = omega (arith, mul-le-mul_right {m = suc j} {n = e} w l)

-- the record r with another window and other places
abbrev pub placed : Record → ℕ → ℕ → ℕ → ℕ → ℕ → Record
placed r st n v a b =
    record {
      root = r.root;
      kind = r.kind;
      width = r.width;
      logic = r.logic;
      size = r.size;
      span = r.span;
      start = st;
      length = n;
      nulls = r.nulls;
      v = v;
      a = a;
      b = b;
      count = r.count;
    }

-- the records of the children have the same lengths and spans
abbrev pub SameKids : List Record → List Record → Type 0
SameKids [] [] = Unit {0}
SameKids [] (l ∷ ls) = ⊥
SameKids (k ∷ ks) [] = ⊥
SameKids (k ∷ ks) (l ∷ ls) = (k.length ≡ l.length) × (k.span ≡ l.span) × SameKids ks ls

pub same_kids : (ks : List Record) → SameKids ks ks
same_kids [] = tt
same_kids (k ∷ ks) = (refl, refl, same_kids ks)

spans_same : (ks ls : List Record) → SameKids ks ls → total (λ k. k.span) ks ≡ total (λ k. k.span) ls
spans_same [] [] h = refl
spans_same [] (l ∷ ls) h = absurd h
spans_same (k ∷ ks) [] h = absurd h
spans_same (k ∷ ks) (l ∷ ls) h = ap₂ (λ a b. a + b) h.1 (spans_same ks ls h.2)

every_same : (f : Record → Bool) (g : Record → Bool) → ((k l : Record) → k.length ≡ l.length → k.span ≡ l.span → f k ≡ true → g l ≡ true)
    → (ks ls : List Record) → SameKids ks ls → every f ks ≡ true → every g ls ≡ true
every_same f g i [] [] h e = refl
every_same f g i [] (l ∷ ls) h e = absurd h
every_same f g i (k ∷ ks) [] h e = absurd h
every_same f g i (k ∷ ks) (l ∷ ls) h e =
    let s = sub_true _ _ e in both_true (g l) (every g ls) (i k l h.0 h.1 s.0) (every_same f g i ks ls h.2 s.1)

-- what bytes and places must have in common: r in bs, and r with its new window and places in cs
pub record Carries (bs : List ℕ) (r : Record) (cs : List ℕ) (st n v a b : ℕ) : Type 0 where
  pub starts : r.start ≤ st
  pub ends : st + n ≤ r.start + r.length
  pub a_room : (r.kind ≡ 8 → ⊥) → (m : ℕ) → r.a + m ≤ length bs → a + m ≤ length cs
  pub nums : (r.kind ≡ 8 → ⊥) → (j : ℕ) → r.a + j * r.width + r.width ≤ length bs → number_at cs a r.width j ≡ number_at bs r.a r.width j
  pub a_kept : r.kind ≡ 8 → a ≡ r.a
  pub b_room : r.kind ≡ 3 → (m : ℕ) → r.b + m ≤ length bs → b + m ≤ length cs
  pub b_kept : (r.kind ≡ 3 → ⊥) → b ≡ r.b
  pub v_room : r.nulls ≡ 1 → (m : ℕ) → r.v + m ≤ length bs → v + m ≤ length cs
  pub v_kept : (r.nulls ≡ 1 → ⊥) → v ≡ r.v
  pub nulled : ((r.nulls ≡ 1) → r.v + (r.start + r.length + 7) / 8 ≤ length bs)
      → (j : ℕ) → j < r.start + r.length → is_null cs (placed r st n v a b) j ≡ is_null bs r j

module _ (bs : List ℕ) (r : Record) (cs : List ℕ) (st n v a b : ℕ) (c : Carries bs r cs st n v a b) (ks ls : List Record) (same : SameKids ks ls) where
  abbrev s : Record
  s = placed r st n v a b

  abbrev O : ℕ → ℕ
  O = number_at bs r.a r.width

  no_child_lem : no_child ks ≡ true → no_child ls ≡ true
  no_child_lem h = go ks ls same h
    where
      go : (ks ls : List Record) → SameKids ks ls → no_child ks ≡ true → no_child ls ≡ true
      go [] [] s h = refl
      go [] (l ∷ ls) s h = absurd s
      go (k ∷ ks) ls s h = no_way h

  one_child_lem : (f g : Record → Bool) → ((k l : Record) → k.length ≡ l.length → f k ≡ true → g l ≡ true)
      → one_child ks f ≡ true → one_child ls g ≡ true
  one_child_lem f g i h = go ks ls same h
    where
      go : (xs ys : List Record) → SameKids xs ys → one_child xs f ≡ true → one_child ys g ≡ true
      go [] ys e h = no_way h
      go (k ∷ []) [] e h = absurd e
      go (k ∷ []) (l ∷ []) e h = i k l e.0 h
      go (k ∷ []) (l ∷ m ∷ ys) e h = absurd e.2
      go (k ∷ x ∷ xs) ys e h = no_way h

  -- a buffer of x numbers shrinks to one of y
  less : (x y : ℕ) → y ≤ x → (r.kind ≡ 8 → ⊥) → r.a + x * r.width ≤ length bs → a + y * r.width ≤ length cs
  less x y l k h = c.a_room k (y * r.width) (omega (arith, mul-le-mul_right {m = y} {n = x} r.width l))

  read : (x j : ℕ) → j < x → (r.kind ≡ 8 → ⊥) → r.a + x * r.width ≤ length bs → number_at cs a r.width j ≡ O j
  read x j l k h = c.nums k j (in_room r.a r.width x j (length bs) h l)

  offsets : (most most' : ℕ) → most ≡ most' → (r.kind ≡ 8 → ⊥) → all_of (offset_rules bs r most) ≡ true → all_of (offset_rules cs s most') ≡ true
  offsets most most' m k h =
      let t = all_of_lem (offset_rules bs r most) h in
      let e : ℕ = r.start + r.length in
      let big : r.a + (e + 1) * r.width ≤ length bs = leb-true _ _ t.0 in
      let up : (j : ℕ) → r.start ≤ j → j < e → O j ≤ O (j + 1) = λ j x y. leb-true _ _ (each_from _ r.start r.length t.1.1.0 j x y) in
      let z : st + n + (e - (st + n)) ≡ e = omega (arith, c.ends) in
      let top : O (st + n) ≤ O e = rw z at (climb O r.start e up (st + n) (e - (st + n)) (omega (arith, c.starts)) (omega (arith, c.ends))) in
      let at_end : number_at cs a r.width (st + n) ≡ O (st + n) = read (e + 1) (st + n) (omega (arith, c.ends)) k big in
      let few : O e ≤ most = leb-true _ _ t.1.1.1.0 in
      all_in (offset_rules cs s most') (
        le-leb _ _ (less (e + 1) (st + n + 1) (omega (arith, c.ends)) k big),
        (
          every_from _ st (n + 1) (λ j x y.
              let p = read (e + 1) j (omega (arith, c.ends)) k big in
              rw p (each_from _ r.start (r.length + 1) t.1.0 j (omega (arith, c.starts)) (omega (arith, c.ends)))),
          (
            every_from _ st n (λ j x y.
                let p = read (e + 1) j (omega (arith, c.ends)) k big in
                let q = read (e + 1) (j + 1) (omega (arith, c.ends)) k big in
                le-leb _ _ (rw (p, q) (up j (omega (arith, c.starts)) (omega (arith, c.ends))))),
            (le-leb _ _ (rw at_end (omega arith)), tt),
          ),
        ),
      )

  module _ (vok : (r.nulls ≡ 1) → r.v + (r.start + r.length + 7) / 8 ≤ length bs) where
    not8 : (k : ℕ) → r.kind ≡ k → eqb k 8 ≡ false → r.kind ≡ 8 → ⊥
    not8 k e f g = eqb-false k 8 f (sym e ∙ g)

    not3 : (k : ℕ) → r.kind ≡ k → eqb k 3 ≡ false → r.kind ≡ 3 → ⊥
    not3 k e f g = eqb-false k 3 f (sym e ∙ g)

    carry_kind : (K : Kind) → Is K r.kind → all_of (kind_rules bs r ks K) ≡ true → all_of (kind_rules cs s ls K) ≡ true
    carry_kind flat i h =
        let t = all_of_lem (kind_rules bs r ks flat) h in
        all_in (kind_rules cs s ls flat) (
          t.0,
          (
            le-leb _ _ (less (r.start + r.length) (st + n) c.ends (not8 1 i refl) (leb-true _ _ t.1.0)),
            (no_child_lem t.1.1.0, (rw (c.b_kept (not3 1 i refl)) t.1.1.1.0, tt)),
          ),
        )
    carry_kind bits i h =
        let t = all_of_lem (kind_rules bs r ks bits) h in
        all_in (kind_rules cs s ls bits) (
          le-leb _ _ (c.a_room (not8 2 i refl) ((st + n + 7) / 8) (omega (arith, c.ends, leb-true _ _ t.0))),
          (no_child_lem t.1.0, (rw (c.b_kept (not3 2 i refl)) t.1.1.0, tt)),
        )
    carry_kind bytes i h =
        let t = all_of_lem (kind_rules bs r ks bytes) h in
        all_in (kind_rules cs s ls bytes) (
          t.0,
          (
            offsets r.count r.count refl (not8 3 i refl) t.1.0,
            (le-leb _ _ (c.b_room i r.count (leb-true _ _ t.1.1.0)), (no_child_lem t.1.1.1.0, (t.1.1.1.1.0, tt))),
          ),
        )
    carry_kind dictionary i h =
        let t = all_of_lem (kind_rules bs r ks dictionary) h in
        let big : r.a + (r.start + r.length) * r.width ≤ length bs = leb-true _ _ t.1.1.0 in
        all_in (kind_rules cs s ls dictionary) (
          t.0,
          (
            t.1.0,
            (
              le-leb _ _ (less (r.start + r.length) (st + n) c.ends (not8 4 i refl) big),
              (
                one_child_lem (λ k. every (key_ok bs r k.length) (range_with_len r.start r.length)) (λ k. every (key_ok cs s k.length) (range_with_len st n))
                    (λ k l e g. every_from _ st n (λ j x y.
                    let p = read (r.start + r.length) j (omega (arith, c.ends)) (not8 4 i refl) big in
                    let q = c.nulled vok j (omega (arith, c.ends)) in
                    rw (q, p, ← e) (each_from _ r.start r.length g j (omega (arith, c.starts)) (omega (arith, c.ends)))))
                    t.1.1.1.0,
                (rw (c.b_kept (not3 4 i refl)) t.1.1.1.1.0, tt),
              ),
            ),
          ),
        )
    carry_kind list i h =
        let t = all_of_lem (kind_rules bs r ks list) h in
        all_in (kind_rules cs s ls list) (
          t.0,
          (
            one_child_lem (λ k. all_of (offset_rules bs r k.length)) (λ k. all_of (offset_rules cs s k.length))
                (λ k l e g. offsets k.length l.length e (not8 5 i refl) g) t.1.0,
            (rw (c.b_kept (not3 5 i refl)) t.1.1.0, tt),
          ),
        )
    carry_kind structs i h =
        let t = all_of_lem (kind_rules bs r ks structs) h in
        all_in (kind_rules cs s ls structs) (
          every_same _ _ (λ k l e f g. le-leb _ _ (omega (arith, leb-true _ _ g, c.ends))) ks ls same t.0,
          (rw (c.a_kept i, c.b_kept (not3 8 i refl)) t.1.0, tt),
        )
    carry_kind runs i h =
        let t = all_of_lem (kind_rules bs r ks runs) h in
        let big : r.a + r.count * r.width ≤ length bs = leb-true _ _ t.1.0 in
        let es : ends_of cs s ≡ ends_of bs r = map-range_with_len _ _ 0 0 r.count (λ k l. read r.count (0 + k) (omega arith) (not8 9 i refl) big) in
        all_in (kind_rules cs s ls runs) (
          t.0,
          (
            le-leb _ _ (less r.count r.count (omega arith) (not8 9 i refl) big),
            (
              subst (λ x. every (λ e. not_negative true r.width e) x ≡ true) (sym es) t.1.1.0,
              (
                subst (λ x. rises 0 x ≡ true) (sym es) t.1.1.1.0,
                (
                  le-leb _ _ (subst (λ x. st + n ≤ last 0 x) (sym es) (omega (arith, leb-true _ _ t.1.1.1.1.0, c.ends))),
                  (
                    one_child_lem (λ k. leb r.count k.length) (λ k. leb r.count k.length) (λ k l e g. rw (← e) g) t.1.1.1.1.1.0,
                    (rw (c.b_kept (not3 9 i refl)) t.1.1.1.1.1.1.0, tt),
                  ),
                ),
              ),
            ),
          ),
        )
    carry_kind other i h = no_way h

  valid_ok : validity_ok bs r ≡ true → (r.nulls ≡ 1) → r.v + (r.start + r.length + 7) / 8 ≤ length bs
  valid_ok h e = leb-true _ _ (rw (eq-eqb r.nulls 1 e) at h)

  carry_valid : validity_ok bs r ≡ true → validity_ok cs s ≡ true
  carry_valid h = go (eqb r.nulls 1) refl h
    where
      go : (t : Bool) → eqb r.nulls 1 ≡ t
          → cond t (room bs r.v (bit_bytes (end_of r))) (zeros (r.nulls ∷ r.v ∷ [])) ≡ true
          → cond t (room cs v (bit_bytes (st + n))) (zeros (r.nulls ∷ v ∷ [])) ≡ true
      go true e h = le-leb _ _ (c.v_room (eqb-true _ _ e) ((st + n + 7) / 8) (omega (arith, leb-true _ _ h, c.ends)))
      go false e h = rw (c.v_kept (eqb-false _ _ e)) h

  pub carry : all_of (record_rules bs r ks) ≡ true → all_of (record_rules cs s ls) ≡ true
  carry h =
      let t = all_of_lem (record_rules bs r ks) h in
      all_in (record_rules cs s ls) (
        t.0,
        (
          le-leb _ _ (omega (arith, leb-true _ _ t.1.0, c.ends)),
          (
            carry_valid t.1.1.0,
            (
              carry_kind (valid_ok t.1.1.0) (kind_of r.kind) (kind_is r.kind) t.1.1.1.0,
              (
                every_same _ _ (λ k l e f g. rw (← f) g) ks ls same t.1.1.1.1.0,
                (rw (← spans_same ks ls same) t.1.1.1.1.1.0, tt),
              ),
            ),
          ),
        ),
      )
