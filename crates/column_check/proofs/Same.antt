-- The tests of the check and the rules of the format agree.
use Rattle.std.proofs.Common.{◌≡◌, ℕ, zero, suc, ◌+◌, ◌-◌, ◌<◌, ◌≤◌, Bool, true, false, cond, eqb, ltb, leb, List, [], ◌∷◌, map, length, get_or, Some, sym, refl, ap, ◌∙◌, subst, arith}
use Rattle.std.specs.List.{range_with_len, AllByRecursion}
use Rattle.std.proofs.lemmas.Bool.{leb-true, ltb-true, ltb-false, eqb-true, eq-eqb, lt-ltb, le-ltb, le-leb}
use Rattle.records.specs.declared.record.Record.{Record}
use Rattle.numbers.specs.Little.{not_negative}
use Rattle.format.specs.Trees.{rec_at}
use Rattle.format.specs.Meaning.{Kind, flat, bits, bytes, dictionary, list, structs, runs, other, kind_of, number, ends_of}
use Rattle.format.specs.Rules.{both, all_of, every, total, last, rises, end_of, offset_rules, one_child, no_child, kind_rules, record_rules, trees_from, children_at, ruled_at, ok_at, root_rules, inner_ok, first_not, first_broken}
use Rattle.format.proofs.Tests.{no_way, sub_true, both_true, same_test, all_of_lem, all_in}
use Rattle.column_check.specs.Tests.{in_turn, climbs, offsets_of, offsets_ok, rising, reaches, walk, single, flat_tests, bit_tests, bytes_tests, dictionary_tests, list_tests, struct_tests, run_tests, kind_tests, record_tests, root_tests, inner_from, first_failed}

-- where all tests hold, number i does
pub test : (ts : List Bool) → in_turn ts ≡ true → (i : ℕ) → get_or ts i true ≡ true
test [] h i = refl
test (t ∷ []) h zero = h
test (t ∷ []) h (suc i) = refl
test (t ∷ u ∷ ts) h zero = (sub_true t (in_turn (u ∷ ts)) h).0
test (t ∷ u ∷ ts) h (suc i) = test (u ∷ ts) (sub_true t (in_turn (u ∷ ts)) h).1 i

pub in_turn_lem : (ts : List Bool) → AllByRecursion (λ t. t ≡ true) ts → in_turn ts ≡ true
in_turn_lem [] h = refl
in_turn_lem (t ∷ []) h = h.0
in_turn_lem (t ∷ u ∷ ts) h = both_true t (in_turn (u ∷ ts)) h.0 (in_turn_lem (u ∷ ts) h.1)

-- offsets, one after another
climbs_to : (w most a s n : ℕ) (f : ℕ → ℕ) → climbs true w most a (map f (range_with_len s (n + 1))) ≡ true
    → (every (λ j. not_negative true w (f j)) (range_with_len s (n + 1)) ≡ true) × (every (λ j. leb (f j) (f (j + 1))) (range_with_len s n) ≡ true) × (leb (f (s + n)) most ≡ true)
climbs_to w most a s zero f h =
    let z : s + 0 ≡ s = omega arith in
    let g = sub_true (both (not_negative true w (f s)) (leb a (f s))) (leb (f s) most) h in (
      both_true (not_negative true w (f s)) true (sub_true (not_negative true w (f s)) (leb a (f s)) g.0).0 refl,
      refl,
      ap (λ x. leb (f x) most) z ∙ g.1,
    )
climbs_to w most a s (suc n) f h =
    let one : suc n + 1 ≡ suc (n + 1) = omega arith in
    let h2 : climbs true w most a (map f (range_with_len s (suc (n + 1)))) ≡ true = rw one at h in
    let g = sub_true (both (not_negative true w (f s)) (leb a (f s))) (climbs true w most (f s) (map f (range_with_len (s + 1) (n + 1)))) h2 in
    let ih = climbs_to w most (f s) (s + 1) n f g.1 in
    let step : leb (f s) (f (s + 1)) ≡ true = first_step n g.1 in
    let z : s + suc n ≡ s + 1 + n = omega arith in (
      subst (λ m. every (λ j. not_negative true w (f j)) (range_with_len s m) ≡ true) (sym one)
          (both_true (not_negative true w (f s)) (every (λ j. not_negative true w (f j)) (range_with_len (s + 1) (n + 1))) (sub_true (not_negative true w (f s)) (leb a (f s)) g.0).0 ih.0),
      both_true (leb (f s) (f (s + 1))) (every (λ j. leb (f j) (f (j + 1))) (range_with_len (s + 1) n)) step ih.1,
      ap (λ x. leb (f x) most) z ∙ ih.2,
    )
  where
    first_step : (n : ℕ) → climbs true w most (f s) (map f (range_with_len (s + 1) (n + 1))) ≡ true → leb (f s) (f (s + 1)) ≡ true
    first_step n h =
        let one : n + 1 ≡ suc n = omega arith in
        let h2 : climbs true w most (f s) (map f (range_with_len (s + 1) (suc n))) ≡ true = rw one at h in
        (sub_true (not_negative true w (f (s + 1))) (leb (f s) (f (s + 1)))
        (sub_true (both (not_negative true w (f (s + 1))) (leb (f s) (f (s + 1)))) (climbs true w most (f (s + 1)) (map f (range_with_len (s + 1 + 1) n))) h2).0).1

climbs_from : (w most a s n : ℕ) (f : ℕ → ℕ) → a ≤ f s → every (λ j. not_negative true w (f j)) (range_with_len s (n + 1)) ≡ true
    → every (λ j. leb (f j) (f (j + 1))) (range_with_len s n) ≡ true → leb (f (s + n)) most ≡ true → climbs true w most a (map f (range_with_len s (n + 1))) ≡ true
climbs_from w most a s zero f l nat up top =
    let z : s + 0 ≡ s = omega arith in
    both_true (both (not_negative true w (f s)) (leb a (f s))) (leb (f s) most)
    (both_true (not_negative true w (f s)) (leb a (f s)) (sub_true (not_negative true w (f s)) true nat).0 (le-leb a (f s) l))
    (sym (ap (λ x. leb (f x) most) z) ∙ top)
climbs_from w most a s (suc n) f l nat up top =
    let one : suc n + 1 ≡ suc (n + 1) = omega arith in
    let nat2 : every (λ j. not_negative true w (f j)) (range_with_len s (suc (n + 1))) ≡ true = rw one at nat in
    let g = sub_true (not_negative true w (f s)) (every (λ j. not_negative true w (f j)) (range_with_len (s + 1) (n + 1))) nat2 in
    let u = sub_true (leb (f s) (f (s + 1))) (every (λ j. leb (f j) (f (j + 1))) (range_with_len (s + 1) n)) up in
    let z : s + suc n ≡ s + 1 + n = omega arith in
    let ih = climbs_from w most (f s) (s + 1) n f (leb-true (f s) (f (s + 1)) u.0) g.1 u.1 (sym (ap (λ x. leb (f x) most) z) ∙ top) in
    subst (λ m. climbs true w most a (map f (range_with_len s m)) ≡ true) (sym one)
    (both_true (both (not_negative true w (f s)) (leb a (f s))) (climbs true w most (f s) (map f (range_with_len (s + 1) (n + 1))))
    (both_true (not_negative true w (f s)) (leb a (f s)) g.0 (le-leb a (f s) l)) ih)

offsets_to : (bs : List ℕ) (r : Record) (most : ℕ) → offsets_ok bs r most ≡ true → all_of (offset_rules bs r most) ≡ true
offsets_to bs r most h =
    let g = sub_true _ (climbs true r.width most 0 (offsets_of bs r)) h in
    let c = climbs_to r.width most 0 r.start r.length (number bs r) g.1 in
    all_in (offset_rules bs r most) (g.0, (c.0, (c.1, (c.2, tt))))

offsets_from : (bs : List ℕ) (r : Record) (most : ℕ) → all_of (offset_rules bs r most) ≡ true → offsets_ok bs r most ≡ true
offsets_from bs r most h =
    let t = all_of_lem (offset_rules bs r most) h in
    both_true _ (climbs true r.width most 0 (offsets_of bs r)) t.0
    (climbs_from r.width most 0 r.start r.length (number bs r) (omega arith) t.1.0 t.1.1.0 t.1.1.1.0)

-- run ends, one after another
rising_to : (w e a : ℕ) (xs : List ℕ) → rising true w e a xs ≡ true
    → (every (λ x. not_negative true w x) xs ≡ true) × (rises a xs ≡ true) × (leb e (last a xs) ≡ true)
rising_to w e a [] h = (refl, refl, h)
rising_to w e a (x ∷ xs) h =
    let g = sub_true (both (not_negative true w x) (ltb a x)) (rising true w e x xs) h in
    let k = sub_true (not_negative true w x) (ltb a x) g.0 in
    let ih = rising_to w e x xs g.1 in
    (both_true (not_negative true w x) (every (λ x. not_negative true w x) xs) k.0 ih.0, both_true (ltb a x) (rises x xs) k.1 ih.1, ih.2)

rising_from : (w e a : ℕ) (xs : List ℕ) → every (λ x. not_negative true w x) xs ≡ true → rises a xs ≡ true → leb e (last a xs) ≡ true → rising true w e a xs ≡ true
rising_from w e a [] nat up top = top
rising_from w e a (x ∷ xs) nat up top =
    let g = sub_true (not_negative true w x) (every (λ x. not_negative true w x) xs) nat in
    let k = sub_true (ltb a x) (rises x xs) up in
    both_true (both (not_negative true w x) (ltb a x)) (rising true w e x xs) (both_true (not_negative true w x) (ltb a x) g.0 k.0) (rising_from w e x xs g.1 k.1 top)

-- children
none_kids : (rs : List Record) (p s : ℕ) → s ≡ 1 → trees_from s rs (p + 1) (p + s) ≡ []
none_kids rs p s e =
    ap (λ n. trees_from n rs (p + 1) (p + n)) e
    ∙ ap (λ b. cond b (rec_at rs (p + 1) ∷ []) []) (le-ltb (p + 1) (p + 1) (omega arith))

one_kid : (rs : List Record) (p s : ℕ) → 2 ≤ s → s ≡ 1 + (rec_at rs (p + 1)).span → trees_from s rs (p + 1) (p + s) ≡ rec_at rs (p + 1) ∷ []
one_kid rs p zero h e = absurd (omega arith)
one_kid rs p (suc zero) h e = absurd (omega arith)
one_kid rs p (suc (suc n)) h e =
    ap (λ b. cond b (rec_at rs (p + 1) ∷ trees_from (suc n) rs (p + 1 + (rec_at rs (p + 1)).span) (p + suc (suc n))) []) (lt-ltb (p + 1) (p + suc (suc n)) (omega arith))
    ∙ ap (λ b. rec_at rs (p + 1) ∷ cond b (rec_at rs (p + 1 + (rec_at rs (p + 1)).span) ∷ trees_from n rs (p + 1 + (rec_at rs (p + 1)).span + (rec_at rs (p + 1 + (rec_at rs (p + 1)).span)).span) (p + suc (suc n))) [])
    (le-ltb (p + 1 + (rec_at rs (p + 1)).span) (p + suc (suc n)) (omega arith))

-- the children that a walk passed
record Walked (f : Record → Bool) (k e : ℕ) (ts : List Record) : Type 0 where
  pub each : every f ts ≡ true
  pub some : every (λ x. leb 1 x.span) ts ≡ true
  pub ends : k + total (λ x. x.span) ts ≡ e

walked : (f : Record → Bool) (rs : List Record) (n m k e : ℕ) → k ≤ e → e - k ≤ n → e - k ≤ m → walk n f rs k e ≡ true → Walked f k e (trees_from m rs k e)
walked f rs n zero k e low a b h = record { each = refl; some = refl; ends = omega arith }
walked f rs zero (suc m) k e low a b h =
    let z : ltb k e ≡ false = le-ltb k e (omega arith) in
    let t : trees_from (suc m) rs k e ≡ [] = ap (λ c. cond c (rec_at rs k ∷ trees_from m rs (k + (rec_at rs k).span) e) []) z in
    subst (Walked f k e) (sym t) (record { each = refl; some = refl; ends = omega arith })
walked f rs (suc n) (suc m) k e low a b h = go (ltb k e) refl h (λ l x y g. walked f rs n m (k + (rec_at rs k).span) e l x y g)
  where
    go : (t : Bool) → ltb k e ≡ t
        → cond t (both (leb 1 (rec_at rs k).span) (both (leb (k + (rec_at rs k).span) e) (both (f (rec_at rs k)) (walk n f rs (k + (rec_at rs k).span) e)))) true ≡ true
        → (k + (rec_at rs k).span ≤ e → e - (k + (rec_at rs k).span) ≤ n → e - (k + (rec_at rs k).span) ≤ m → walk n f rs (k + (rec_at rs k).span) e ≡ true → Walked f (k + (rec_at rs k).span) e (trees_from m rs (k + (rec_at rs k).span) e))
        → Walked f k e (cond t (rec_at rs k ∷ trees_from m rs (k + (rec_at rs k).span) e) [])
    go false t h more = let l = ltb-false k e t in record { each = refl; some = refl; ends = omega arith }
    go true t h more =
        let rest = walk n f rs (k + (rec_at rs k).span) e in
        let h1 = sub_true (leb 1 (rec_at rs k).span) (both (leb (k + (rec_at rs k).span) e) (both (f (rec_at rs k)) rest)) h in
        let h2 = sub_true (leb (k + (rec_at rs k).span) e) (both (f (rec_at rs k)) rest) h1.1 in
        let h3 = sub_true (f (rec_at rs k)) rest h2.1 in
        let one = leb-true 1 (rec_at rs k).span h1.0 in
        let in' = leb-true (k + (rec_at rs k).span) e h2.0 in
        let w = more in' (omega arith) (omega arith) h3.1 in
        record {
          each = ap (λ x. both x (every f (trees_from m rs (k + (rec_at rs k).span) e))) h3.0 ∙ w.each;
          some = ap (λ x. both x (every (λ x. leb 1 x.span) (trees_from m rs (k + (rec_at rs k).span) e))) h1.0 ∙ w.some;
          ends = omega (arith, w.ends);
        }

walk_from : (f : Record → Bool) (rs : List Record) (n m k e : ℕ) → Walked f k e (trees_from m rs k e) → walk n f rs k e ≡ true
walk_from f rs zero m k e w = refl
walk_from f rs (suc n) zero k e w =
    let z = w.ends in
    ap (λ t. cond t (both (leb 1 (rec_at rs k).span) (both (leb (k + (rec_at rs k).span) e) (both (f (rec_at rs k)) (walk n f rs (k + (rec_at rs k).span) e)))) true)
    (le-ltb k e (omega arith))
walk_from f rs (suc n) (suc m) k e w = go (ltb k e) refl w (walk_from f rs n m (k + (rec_at rs k).span) e)
  where
    go : (t : Bool) → ltb k e ≡ t → Walked f k e (cond t (rec_at rs k ∷ trees_from m rs (k + (rec_at rs k).span) e) [])
        → (Walked f (k + (rec_at rs k).span) e (trees_from m rs (k + (rec_at rs k).span) e) → walk n f rs (k + (rec_at rs k).span) e ≡ true)
        → cond t (both (leb 1 (rec_at rs k).span) (both (leb (k + (rec_at rs k).span) e) (both (f (rec_at rs k)) (walk n f rs (k + (rec_at rs k).span) e)))) true ≡ true
    go false t w ih = refl
    go true t w ih =
        let s = sub_true (leb 1 (rec_at rs k).span) (every (λ x. leb 1 x.span) (trees_from m rs (k + (rec_at rs k).span) e)) w.some in
        let g = sub_true (f (rec_at rs k)) (every f (trees_from m rs (k + (rec_at rs k).span) e)) w.each in
        let ends = w.ends in
        both_true _ _ s.0 (both_true _ _ (le-leb _ _ (omega arith))
        (both_true _ _ g.0 (ih (record { each = g.1; some = s.1; ends = omega arith }))))

-- what the format asks of a record r with the children ks
record Asked (bs : List ℕ) (r : Record) (K : Kind) (ks : List Record) : Type 0 where
  pub kind : all_of (kind_rules bs r ks K) ≡ true
  pub some : every (λ x. leb 1 x.span) ks ≡ true
  pub spans : r.span ≡ 1 + total (λ x. x.span) ks

module _ (bs : List ℕ) (rs : List Record) (p : ℕ) where
  abbrev r : Record
  r = rec_at rs p

  abbrev k : Record
  k = rec_at rs (p + 1)

  abbrev A : Kind → Type 0
  A K = Asked bs (rec_at rs p) K (children_at rs p)

  alone : (K : Kind) → eqb r.span 1 ≡ true → all_of (kind_rules bs r [] K) ≡ true → A K
  alone K e h =
      let s = eqb-true r.span 1 e in
      subst (Asked bs r K) (sym (none_kids rs p r.span s)) (record { kind = h; some = refl; spans = omega arith })

  lone : (K : Kind) → single r k ≡ true → all_of (kind_rules bs r (k ∷ []) K) ≡ true → A K
  lone K e h =
      let g = sub_true _ _ e in
      let two = leb-true 2 r.span g.0 in
      let s = eqb-true r.span (1 + k.span) g.1 in
      let one : leb 1 k.span ≡ true = le-leb 1 k.span (omega arith) in
      subst (Asked bs r K) (sym (one_kid rs p r.span two s))
      (record { kind = h; some = ap (λ b. both b true) one; spans = omega arith })

  asked : 1 ≤ r.span → (K : Kind) → in_turn (kind_tests bs rs r p K) ≡ true → A K
  asked one flat h =
      let q = test (flat_tests bs r) h in
      alone flat (q 2) (all_in (kind_rules bs r [] flat) (q 0, (q 1, (refl, (q 3, tt)))))
  asked one bits h =
      let q = test (bit_tests bs r) h in
      alone bits (q 1) (all_in (kind_rules bs r [] bits) (q 0, (refl, (q 2, tt))))
  asked one bytes h =
      let q = test (bytes_tests bs r) h in
      alone bytes (q 3) (all_in (kind_rules bs r [] bytes) (q 0, (offsets_to bs r r.count (q 1), (q 2, (refl, (q 4, tt))))))
  asked one dictionary h =
      let q = test (dictionary_tests bs r k) h in
      lone dictionary (q 3) (all_in (kind_rules bs r (k ∷ []) dictionary) (q 0, (q 1, (q 2, (q 4, (q 5, tt))))))
  asked one list h =
      let q = test (list_tests bs r k) h in
      lone list (q 1) (all_in (kind_rules bs r (k ∷ []) list) (q 0, (offsets_to bs r k.length (q 2), (q 3, tt))))
  asked one structs h =
      let q = test (struct_tests rs r p) h in
      let w = walked (reaches (end_of r)) rs (r.span - 1) r.span (p + 1) (p + r.span) (omega arith) (omega arith) (omega arith) (q 1) in
      record { kind = all_in (kind_rules bs r (children_at rs p) structs) (w.each, (q 0, tt)); some = w.some; spans = omega (arith, w.ends) }
  asked one runs h =
      let q = test (run_tests bs r k) h in
      let w = rising_to r.width (end_of r) 0 (ends_of bs r) (q 2) in
      lone runs (q 3) (all_in (kind_rules bs r (k ∷ []) runs) (q 0, (q 1, (w.0, (w.1, (w.2, (q 4, (q 5, tt))))))))
  asked one other h = no_way h

  -- the other way round
  no_kids : (K : Kind) → A K → no_child (children_at rs p) ≡ true → eqb r.span 1 ≡ true
  no_kids K a h = eq-eqb r.span 1 (go (children_at rs p) h a.spans)
    where
      go : (ks : List Record) → no_child ks ≡ true → r.span ≡ 1 + total (λ x. x.span) ks → r.span ≡ 1
      go [] h s = omega arith
      go (x ∷ xs) h s = no_way h

  one_child_lem : (K : Kind) (f : Record → Bool) → A K → one_child (children_at rs p) f ≡ true → (single r k ≡ true) × (f k ≡ true)
  one_child_lem K f a h = go r.span refl h a.some a.spans
    where
      ended : (ks : List Record) → one_child (k ∷ ks) f ≡ true → every (λ x. leb 1 x.span) (k ∷ ks) ≡ true → r.span ≡ 1 + total (λ x. x.span) (k ∷ ks)
          → (single r k ≡ true) × (f k ≡ true)
      ended [] h s n =
          let one = leb-true 1 k.span (sub_true (leb 1 k.span) true s).0 in
          (both_true _ _ (le-leb 2 r.span (omega arith)) (eq-eqb r.span (1 + k.span) (omega arith)), h)
      ended (x ∷ xs) h s n = no_way h

      first_one : (t : Bool) (ks : List Record) → one_child (cond t (k ∷ ks) []) f ≡ true → every (λ x. leb 1 x.span) (cond t (k ∷ ks) []) ≡ true
          → r.span ≡ 1 + total (λ x. x.span) (cond t (k ∷ ks) []) → (single r k ≡ true) × (f k ≡ true)
      first_one true ks h s n = ended ks h s n
      first_one false ks h s n = no_way h

      go : (s : ℕ) → r.span ≡ s → one_child (trees_from s rs (p + 1) (p + s)) f ≡ true → every (λ x. leb 1 x.span) (trees_from s rs (p + 1) (p + s)) ≡ true
          → r.span ≡ 1 + total (λ x. x.span) (trees_from s rs (p + 1) (p + s)) → (single r k ≡ true) × (f k ≡ true)
      go zero e h s n = no_way h
      go (suc m) e h s n = first_one (ltb (p + 1) (p + suc m)) (trees_from m rs (p + 1 + k.span) (p + suc m)) h s n

  tested : (K : Kind) → A K → in_turn (kind_tests bs rs r p K) ≡ true
  tested flat a =
      let t = all_of_lem (kind_rules bs r (children_at rs p) flat) a.kind in
      in_turn_lem (flat_tests bs r) (t.0, (t.1.0, (no_kids flat a t.1.1.0, (t.1.1.1.0, tt))))
  tested bits a =
      let t = all_of_lem (kind_rules bs r (children_at rs p) bits) a.kind in
      in_turn_lem (bit_tests bs r) (t.0, (no_kids bits a t.1.0, (t.1.1.0, tt)))
  tested bytes a =
      let t = all_of_lem (kind_rules bs r (children_at rs p) bytes) a.kind in
      in_turn_lem (bytes_tests bs r) (t.0, (offsets_from bs r r.count t.1.0, (t.1.1.0, (no_kids bytes a t.1.1.1.0, (t.1.1.1.1.0, tt)))))
  tested dictionary a =
      let t = all_of_lem (kind_rules bs r (children_at rs p) dictionary) a.kind in
      let c = one_child_lem dictionary _ a t.1.1.1.0 in
      in_turn_lem (dictionary_tests bs r k) (t.0, (t.1.0, (t.1.1.0, (c.0, (c.1, (t.1.1.1.1.0, tt))))))
  tested list a =
      let t = all_of_lem (kind_rules bs r (children_at rs p) list) a.kind in
      let c = one_child_lem list _ a t.1.0 in
      in_turn_lem (list_tests bs r k) (t.0, (c.0, (offsets_from bs r k.length c.1, (t.1.1.0, tt))))
  tested structs a =
      let t = all_of_lem (kind_rules bs r (children_at rs p) structs) a.kind in
      let n = a.spans in
      in_turn_lem (struct_tests rs r p) (t.1.0, (walk_from (reaches (end_of r)) rs (r.span - 1) r.span (p + 1) (p + r.span) (record { each = t.0; some = a.some; ends = omega arith }), tt))
  tested runs a =
      let t = all_of_lem (kind_rules bs r (children_at rs p) runs) a.kind in
      let c = one_child_lem runs _ a t.1.1.1.1.1.0 in
      in_turn_lem (run_tests bs r k) (t.0, (t.1.0, (rising_from r.width (end_of r) 0 (ends_of bs r) t.1.1.0 t.1.1.1.0 t.1.1.1.1.0, (c.0, (c.1, (t.1.1.1.1.1.1.0, tt))))))
  tested other a = no_way a.kind

  pub record_same : (e : ℕ) → in_turn (record_tests bs rs e p) ≡ ok_at bs rs e p
  record_same e = same_test (in_turn (record_tests bs rs e p)) (ok_at bs rs e p) to from
    where
      to : in_turn (record_tests bs rs e p) ≡ true → ok_at bs rs e p ≡ true
      to h =
          let q = test (record_tests bs rs e p) h in
          let w = asked (leb-true 1 r.span (q 3)) (kind_of r.kind) (q 5) in
          both_true (leb (p + r.span) e) (ruled_at bs rs p) (q 4)
          (all_in (record_rules bs r (children_at rs p))
          (q 0, (q 1, (q 2, (w.kind, (w.some, (eq-eqb r.span (1 + total (λ x. x.span) (children_at rs p)) w.spans, tt)))))))

      from : ok_at bs rs e p ≡ true → in_turn (record_tests bs rs e p) ≡ true
      from h =
          let g = sub_true (leb (p + r.span) e) (ruled_at bs rs p) h in
          let t = all_of_lem (record_rules bs r (children_at rs p)) g.1 in
          let n = eqb-true r.span (1 + total (λ x. x.span) (children_at rs p)) t.1.1.1.1.1.0 in
          in_turn_lem (record_tests bs rs e p)
          (t.0, (t.1.0, (t.1.1.0, (le-leb 1 r.span (omega arith), (g.0, (tested (kind_of r.kind) (record { kind = t.1.1.1.0; some = t.1.1.1.1.0; spans = n }), tt))))))

root_same : (bs : List ℕ) (rs : List Record) (q : ℕ) → in_turn (root_tests bs rs q) ≡ all_of (root_rules bs rs q)
root_same bs rs q = same_test (in_turn (root_tests bs rs q)) (all_of (root_rules bs rs q)) to from
  where
    to : in_turn (root_tests bs rs q) ≡ true → all_of (root_rules bs rs q) ≡ true
    to h =
        let t = test (root_tests bs rs q) h in
        all_in (root_rules bs rs q) (t 0, (t 1, (t 2, (t 3, (sym (record_same bs rs q (q + (rec_at rs q).span)) ∙ t 4, tt)))))

    from : all_of (root_rules bs rs q) ≡ true → in_turn (root_tests bs rs q) ≡ true
    from h =
        let t = all_of_lem (root_rules bs rs q) h in
        in_turn_lem (root_tests bs rs q) (t.0, (t.1.0, (t.1.1.0, (t.1.1.1.0, (record_same bs rs q (q + (rec_at rs q).span) ∙ t.1.1.1.1.0, tt)))))

first_not_same : (f g : ℕ → Bool) → ((i : ℕ) → f i ≡ g i) → (xs : List ℕ) → first_not f xs ≡ first_not g xs
first_not_same f g e [] = refl
first_not_same f g e (x ∷ xs) =
    ap (λ b. cond b (first_not f xs) (Some x)) (e x) ∙ ap (λ o. cond (g x) o (Some x)) (first_not_same f g e xs)

pub first_same : (bs : List ℕ) (rs : List Record) (q : ℕ) → first_failed bs rs q ≡ first_broken bs rs q
first_same bs rs q =
    let s : ℕ = (rec_at rs q).span in
    let l : List ℕ = range_with_len 1 ((rec_at rs q).span - 1) in
    ap (λ b. cond b (first_not (inner_from bs rs q (rec_at rs q).span) (range_with_len 1 ((rec_at rs q).span - 1))) (Some 0)) (root_same bs rs q)
    ∙ ap (λ o. cond (all_of (root_rules bs rs q)) o (Some 0))
    (first_not_same (inner_from bs rs q (rec_at rs q).span) (λ i. inner_ok bs rs (q + (rec_at rs q).span) (q + i))
    (λ i. ap (λ b. both (eqb (rec_at rs (q + i)).root 0) b) (record_same bs rs (q + i) (q + (rec_at rs q).span))) (range_with_len 1 ((rec_at rs q).span - 1)))

-- the first record passed, or not
pub first_then : (bs : List ℕ) (rs : List Record) (q : ℕ) → in_turn (root_tests bs rs q) ≡ true
    → first_not (inner_from bs rs q (rec_at rs q).span) (range_with_len 1 ((rec_at rs q).span - 1)) ≡ first_broken bs rs q
first_then bs rs q t =
    sym (ap (λ b. cond b (first_not (inner_from bs rs q (rec_at rs q).span) (range_with_len 1 ((rec_at rs q).span - 1))) (Some 0)) t) ∙ first_same bs rs q

pub first_else : (bs : List ℕ) (rs : List Record) (q : ℕ) → in_turn (root_tests bs rs q) ≡ false → Some 0 ≡ first_broken bs rs q
first_else bs rs q t =
    sym (ap (λ b. cond b (first_not (inner_from bs rs q (rec_at rs q).span) (range_with_len 1 ((rec_at rs q).span - 1))) (Some 0)) t) ∙ first_same bs rs q

-- what a root that breaks no rule says of its place
pub root_here : (bs : List ℕ) (rs : List Record) (q : ℕ) → in_turn (root_tests bs rs q) ≡ true → q < length rs
root_here bs rs q t = ltb-true q (length rs) (test (root_tests bs rs q) t 0)

pub root_inside : (bs : List ℕ) (rs : List Record) (q : ℕ) → in_turn (root_tests bs rs q) ≡ true → q + (rec_at rs q).span ≤ length rs
root_inside bs rs q t = leb-true (q + (rec_at rs q).span) (length rs) (test (root_tests bs rs q) t 3)
