-- What is found in a row is the row, and its bytes end at or below the mark.
use Rattle.std.proofs.Common.{◌≡◌, ℕ, ◌+◌, ◌-◌, ◌<◌, ◌≤◌, Bool, true, false, cond, List, [], ◌∷◌, ◌++◌, length, take, drop, sym, refl, ap, ◌∙◌, subst, arith}
use Rattle.std.specs.List.{AllByRecursion}
use Rattle.records.specs.declared.record.Record.{Record}
use Rattle.format.specs.Rows.{Row, null, raw, first}
use Rattle.format.specs.Trees.{Forest, end, node, preorder, tops, rec_at}
use Rattle.format.specs.Meaning.{Kind, flat, bits, bytes, dictionary, list, structs, runs, other, kind_of, is_null, number, ends_of, run_of, value_at, decode, row}
use Rattle.format.specs.Rules.{end_of, WellFormed}
use Rattle.std.proofs.lemmas.List.FromFn.{length-map-range_with_len}
use Rattle.format.specs.Cells.{Found, absent, leads_on, leads, found_at, found, found_row, FoundIn}
use Rattle.format.proofs.Tests.{no_way}
use Rattle.std.proofs.lemmas.List.{append_assoc, take-append-drop}
use Rattle.format.proofs.Facts.{run_below, Says, facts}
use Rattle.format.proofs.Checked.{Kept, checked, column_is}
use Rattle.format.proofs.Carry.{in_room}

abbrev SomeTree : Forest → Type 0
SomeTree end = ⊥
SomeTree (node r kids next) = Unit {0}

has_tree : (F : Forest) (k : Record) → tops F ≡ k ∷ [] → SomeTree F
has_tree end k e = absurd (cc)
has_tree (node r kids next) k e = tt

module _ (bs : List ℕ) (r : Record) (kid : ℕ → Found) (ks : Forest) (kids : ℕ → List Row) where
  value_row_lem : (K : Kind) (b : Bool) → leads_on K b ≡ true → Says K bs r (tops ks) → (SomeTree ks → b ≡ true → (j : ℕ) → found_row bs (kid j) ≡ first (kids j))
      → (j : ℕ) → found_row bs (found_at bs r K kid j) ≡ value_at bs r K kids j
  value_row_lem flat b e s h j = refl
  value_row_lem bits b e s h j = refl
  value_row_lem bytes b e s h j =
      let o : ℕ = number bs r j in
      let p : ℕ = number bs r (j + 1) in
      let z : p - o ≡ r.b + p - (r.b + o) = omega arith in
      ap (λ n. raw (take n (drop (r.b + o) bs))) z
  value_row_lem dictionary b e s h j = h (has_tree ks s.1.child s.1.alone) e (number bs r j)
  value_row_lem list b e s h j = no_way e
  value_row_lem structs b e s h j = no_way e
  value_row_lem runs b e s h j = h (has_tree ks s.3.child s.3.alone) e (run_of (ends_of bs r) j)
  value_row_lem other b e s h j = no_way e

null_or : (bs : List ℕ) (t : Bool) (c : Found) (r : Row) → found_row bs c ≡ r → found_row bs (cond t absent c) ≡ cond t null r
null_or bs true c r e = refl
null_or bs false c r e = e

-- the records of a forest, and more behind them
pub found_row_lem : (bs : List ℕ) (F : Forest) (X : List Record) → SomeTree F → Kept bs F → leads (preorder F ++ X) ≡ true
    → (i : ℕ) → found_row bs (found bs (preorder F ++ X) i) ≡ first (decode bs F i)
found_row_lem bs end X some k e i = absurd some
found_row_lem bs (node r kids next) X some k e i =
    let Y : List Record = preorder next ++ X in
    let z : (preorder kids ++ preorder next) ++ X ≡ preorder kids ++ (preorder next ++ X) = append_assoc (preorder kids) (preorder next) X in
    null_or bs (is_null bs r (r.start + i)) _ _
    (value_row_lem bs r (found bs ((preorder kids ++ preorder next) ++ X)) kids (decode bs kids) (kind_of r.kind) (leads ((preorder kids ++ preorder next) ++ X)) e
    (facts bs r (tops kids) k.0)
    (λ t l j. ap (λ y. found_row bs (found bs y j)) z ∙ found_row_lem bs kids (preorder next ++ X) t k.1 (sym (ap leads z) ∙ l) j)
    (r.start + i))

value_in : (bs : List ℕ) (r : Record) (ks : Forest) (kid : ℕ → Found) (K : Kind) → Says K bs r (tops ks)
    → (SomeTree ks → (j : ℕ) → AllByRecursion (λ k. j < k.length) (tops ks) → FoundIn bs (kid j))
    → (j : ℕ) → r.start ≤ j → j < end_of r → is_null bs r j ≡ false → FoundIn bs (found_at bs r K kid j)
value_in bs r ks kid flat s k j a b v = in_room r.a r.width (end_of r) j (length bs) s b
value_in bs r ks kid bits s k j a b v = tt
value_in bs r ks kid bytes s k j a b v = omega (arith, s.0.steps j a b, s.0.below (j + 1) (omega arith) (omega arith), s.1)
value_in bs r ks kid dictionary s k j a b v =
    let c = s.1 in
    k (has_tree ks c.child c.alone) (number bs r j) (subst (AllByRecursion (λ x. number bs r j < x.length)) (sym c.alone) (c.holds j a b v, tt))
value_in bs r ks kid list s k j a b v = tt
value_in bs r ks kid structs s k j a b v = tt
value_in bs r ks kid runs s k j a b v =
    let c = s.3 in
    let t = run_below 0 j (ends_of bs r) s.1 (omega arith) (omega (arith, s.2)) in
    let n = length-map-range_with_len (number bs r) 0 r.count in
    k (has_tree ks c.child c.alone) (run_of (ends_of bs r) j)
    (subst (AllByRecursion (λ x. run_of (ends_of bs r) j < x.length)) (sym c.alone) (omega (arith, c.holds), tt))
value_in bs r ks kid other s k j a b v = tt

pub found_in : (bs : List ℕ) (F : Forest) (X : List Record) → SomeTree F → Kept bs F → (i : ℕ) → AllByRecursion (λ k. i < k.length) (tops F) → FoundIn bs (found bs (preorder F ++ X) i)
found_in bs end X some k i l = absurd some
found_in bs (node r kids next) X some k i l =
    go (is_null bs r (r.start + i)) refl
    (λ t j m. subst (λ y. FoundIn bs (found bs y j)) (sym (append_assoc (preorder kids) (preorder next) X)) (found_in bs kids (preorder next ++ X) t k.1 j m))
  where
    go : (t : Bool) → is_null bs r (r.start + i) ≡ t
        → (SomeTree kids → (j : ℕ) → AllByRecursion (λ k. j < k.length) (tops kids) → FoundIn bs (found bs ((preorder kids ++ preorder next) ++ X) j))
        → FoundIn bs (cond t absent (found_at bs r (kind_of r.kind) (found bs ((preorder kids ++ preorder next) ++ X)) (r.start + i)))
    go true t h = tt
    go false t h =
        value_in bs r kids (found bs ((preorder kids ++ preorder next) ++ X)) (kind_of r.kind) (facts bs r (tops kids) k.0) h (r.start + i) (omega arith) (omega (arith, l.0)) t

-- A CELL of a well-formed column: what is found is the row, and it ends at or below the mark
pub found_right : (bs : List ℕ) (rs : List Record) (q i : ℕ) → WellFormed bs rs q → i < (rec_at rs q).length
    → FoundIn bs (found bs (drop q rs) i) × (leads (drop q rs) ≡ true → found_row bs (found bs (drop q rs) i) ≡ row bs rs q i)
found_right bs rs q i w l =
    let c = checked rs bs q w in
    let F : Forest = node (rec_at rs q) c.kids end in
    let rest : List Record = drop (rec_at rs q).span (drop q rs) in
    let e : drop q rs ≡ preorder F ++ rest = sym (take-append-drop (rec_at rs q).span (drop q rs)) ∙ ap (λ x. x ++ rest) (sym c.spelled) in (
      subst (λ y. FoundIn bs (found bs y i)) (sym e) (found_in bs F rest tt c.kept i (l, tt)),
      λ t. ap (λ y. found_row bs (found bs y i)) e ∙ found_row_lem bs F rest tt c.kept (sym (ap leads e) ∙ t) i
          ∙ sym (ap (λ X. first (decode bs X i)) (column_is rs bs q w)),
    )
