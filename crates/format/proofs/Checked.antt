-- A column that passes the check is a tree of records that keep their rules, and the other way round.
use Rattle.std.proofs.Common.{◌≡◌, ℕ, zero, suc, ◌+◌, ◌-◌, ◌<◌, ◌≤◌, Bool, true, false, cond, eqb, ltb, leb, List, [], ◌∷◌, ◌++◌, map, length, get_or, take, drop, sym, refl, ap, ◌∙◌, subst, ap₂, zero-add, arith}
use Rattle.std.specs.List.{AllByRecursion}
use Rattle.records.specs.declared.record.Record.{Record}
use Rattle.format.specs.Trees.{Forest, end, node, records_of, preorder, tops, parse, first_tree, nothing, rec_at}
use Rattle.format.specs.Meaning.{column_at}
use Rattle.format.specs.Rules.{all_of, total, record_rules, trees_from, children_at, ruled_at, ok_at, root_rules, inner_ok, WellFormed}
use native.Mathlib.Decide.{dec_lt}
use Rattle.std.proofs.lemmas.Bool.{leb-true, ltb-true, eqb-true, eq-eqb, lt-ltb, le-ltb, le-leb}
use Rattle.std.proofs.lemmas.List.{drop_more, drop-drop, take-append-drop, append_assoc, length-append, length-drop, length-map, drop_at, get_or-drop, get_or-take, get_or-map, get_or_append_left}
use Rattle.std.proofs.ByRecursion.{All-weaker}
use Rattle.format.specs.Types.{records_at}
use Rattle.format.proofs.Trees.{Spanned, length-preorder, parse-preorder}
use Rattle.format.proofs.Tests.{sub_true, both_true, all_of_lem, all_in, each, none_not, no_broken, passed}

-- every record of a forest keeps its rules
abbrev pub Kept : List ℕ → Forest → Type 0
Kept bs end = Unit {0}
Kept bs (node r kids next) = (all_of (record_rules bs r (tops kids)) ≡ true) × Kept bs kids × Kept bs next

spans_records : (bs : List ℕ) (F : Forest) → Kept bs F → total (λ x. x.span) (tops F) ≡ records_of F
spans_records bs end k = refl
spans_records bs (node r kids next) k =
    let t = all_of_lem (record_rules bs r (tops kids)) k.0 in
    let s = eqb-true _ _ t.1.1.1.1.1.0 in
    omega (arith, s, spans_records bs kids k.1, spans_records bs next k.2)

pub kept_spanned : (bs : List ℕ) (F : Forest) → Kept bs F → Spanned F
kept_spanned bs end k = tt
kept_spanned bs (node r kids next) k =
    let t = all_of_lem (record_rules bs r (tops kids)) k.0 in
    let s = eqb-true _ _ t.1.1.1.1.1.0 in
    (omega (arith, s, spans_records bs kids k.1), kept_spanned bs kids k.1, kept_spanned bs next k.2)

-- the records from p to e, read as trees
module _ (bs : List ℕ) (rs : List Record) where
  abbrev Trees : ℕ → ℕ → List Record → Type 0
  Trees p e ts = (F : Forest) × Kept bs F × (preorder F ≡ take (e - p) (drop p rs)) × (tops F ≡ ts)

  cut_two : (n m : ℕ) (xs : List Record) → take (n + m) xs ≡ take n xs ++ take m (drop n xs)
  cut_two zero m xs = rw zero-add
  cut_two (suc n) m [] = let z : suc n + m ≡ suc (n + m) = omega arith in rw z (none m)
    where
      none : (m : ℕ) → ◌≡◌ {A = List Record} [] (take m [])
      none zero = refl
      none (suc m) = refl
  cut_two (suc n) m (x ∷ xs) = let z : suc n + m ≡ suc (n + m) = omega arith in rw z (ap (λ t. x ∷ t) (cut_two n m xs))

  one_tree : (p s m : ℕ) → p < length rs → take (1 + s + m) (drop p rs) ≡ rec_at rs p ∷ (take s (drop (p + 1) rs) ++ take m (drop (p + (1 + s)) rs))
  one_tree p s m l =
      let z : 1 + s + m ≡ suc (s + m) = omega arith in
      let y : p + 1 + s ≡ p + (1 + s) = omega arith in
      rw (z, drop_more rs p nothing l) (ap (λ t. rec_at rs p ∷ t) (cut_two s m (drop (p + 1) rs) ∙ rw (drop-drop s (p + 1) rs, y)))

  build : (b k p e : ℕ) → e - p ≤ b → e ≤ length rs → ((i : ℕ) → p ≤ i → i < e → ruled_at bs rs i ≡ true)
      → AllByRecursion (λ x. 1 ≤ x.span) (trees_from k rs p e) → p + total (λ x. x.span) (trees_from k rs p e) ≡ e
      → Trees p e (trees_from k rs p e)
  build b zero p e lb le ok sp tl = let z : e - p ≡ 0 = omega arith in (end, tt, rw z, refl)
  build zero (suc k) p e lb le ok sp tl = go (ltb p e) refl tl
    where
      go : (t : Bool) → ltb p e ≡ t → p + total (λ x. x.span) (cond t (rec_at rs p ∷ trees_from k rs (p + (rec_at rs p).span) e) []) ≡ e
          → Trees p e (cond t (rec_at rs p ∷ trees_from k rs (p + (rec_at rs p).span) e) [])
      go true t tl = absurd (omega (arith, ltb-true p e t))
      go false t tl = let z : e - p ≡ 0 = omega arith in (end, tt, rw z, refl)
  build (suc b) (suc k) p e lb le ok sp tl = go (ltb p e) refl sp tl (λ q. build b k q e) (build b (rec_at rs p).span (p + 1) (p + (rec_at rs p).span))
    where
      r : Record
      r = rec_at rs p

      go : (t : Bool) → ltb p e ≡ t
          → AllByRecursion (λ x. 1 ≤ x.span) (cond t (rec_at rs p ∷ trees_from k rs (p + (rec_at rs p).span) e) [])
          → p + total (λ x. x.span) (cond t (rec_at rs p ∷ trees_from k rs (p + (rec_at rs p).span) e) []) ≡ e
          → ((q : ℕ) → e - q ≤ b → e ≤ length rs → ((i : ℕ) → q ≤ i → i < e → ruled_at bs rs i ≡ true)
          → AllByRecursion (λ x. 1 ≤ x.span) (trees_from k rs q e) → q + total (λ x. x.span) (trees_from k rs q e) ≡ e → Trees q e (trees_from k rs q e))
          → (p + (rec_at rs p).span - (p + 1) ≤ b → p + (rec_at rs p).span ≤ length rs
          → ((i : ℕ) → p + 1 ≤ i → i < p + (rec_at rs p).span → ruled_at bs rs i ≡ true)
          → AllByRecursion (λ x. 1 ≤ x.span) (children_at rs p) → p + 1 + total (λ x. x.span) (children_at rs p) ≡ p + (rec_at rs p).span
          → Trees (p + 1) (p + (rec_at rs p).span) (children_at rs p))
          → Trees p e (cond t (rec_at rs p ∷ trees_from k rs (p + (rec_at rs p).span) e) [])
      go false t sp tl rest below = let z : e - p ≡ 0 = omega arith in (end, tt, rw z, refl)
      go true t sp tl rest below =
          let l : p < e = ltb-true p e t in
          let s : ℕ = (rec_at rs p).span in
          let one : 1 ≤ s = sp.0 in
          let ts = all_of_lem (record_rules bs (rec_at rs p) (children_at rs p)) (ok p (omega arith) l) in
          let fits : p + s ≤ e = omega arith in
          let N = rest (p + s) (omega arith) le (λ i x y. ok i (omega arith) y) sp.1 (omega arith) in
          let K = below (omega arith) (omega arith) (λ i x y. ok i (omega arith) (omega arith))
          (All-weaker _ _ (λ x e. leb-true _ _ e) _ (each _ _ ts.1.1.1.1.0))
          (omega (arith, eqb-true _ _ ts.1.1.1.1.1.0)) in
          let okp : all_of (record_rules bs (rec_at rs p) (tops K.0)) ≡ true = rw K.3 (ok p (omega arith) l) in
          let z : 1 + (s - 1) + (e - (p + s)) ≡ e - p = omega arith in
          let y : p + (1 + (s - 1)) ≡ p + s = omega arith in
          let x : s - 1 ≡ p + s - (p + 1) = omega arith in
          let cut : take (e - p) (drop p rs) ≡ rec_at rs p ∷ (take (p + s - (p + 1)) (drop (p + 1) rs) ++ take (e - (p + s)) (drop (p + s) rs)) =
          ap (λ n. take n (drop p rs)) (sym z) ∙ one_tree p (s - 1) (e - (p + s)) (omega arith)
          ∙ ap₂ (λ n m. rec_at rs p ∷ (take n (drop (p + 1) rs) ++ take (e - (p + s)) (drop m rs))) x y in (
            node (rec_at rs p) K.0 N.0,
            (okp, K.1, N.1),
            ap₂ (λ u w. rec_at rs p ∷ (u ++ w)) K.2 N.2 ∙ sym cut,
            ap (λ u. rec_at rs p ∷ u) N.3,
          )

lone : (F : Forest) (r : Record) → tops F ≡ r ∷ [] → (K : Forest) × (F ≡ node r K end)
lone end r e = absurd (cc)
lone (node x K end) r e = let z : x ≡ r = cc in (K, ap (λ y. node y K end) z)
lone (node x K (node y a b)) r e = let z : ◌≡◌ {A = List Record} (y ∷ tops b) [] = cc in absurd (cc)

-- a column that passes the check, as a tree of records that keep their rules
pub record Checked (rs : List Record) (bs : List ℕ) (q : ℕ) : Type 0 where
  pub kids : Forest
  pub inside : q + (rec_at rs q).span ≤ length rs
  pub kept : Kept bs (node (rec_at rs q) kids end)
  pub spelled : preorder (node (rec_at rs q) kids end) ≡ take (rec_at rs q).span (drop q rs)

pub checked : (rs : List Record) (bs : List ℕ) (q : ℕ) → WellFormed bs rs q → Checked rs bs q
checked rs bs q w =
    let r : Record = rec_at rs q in
    let s : ℕ = (rec_at rs q).span in
    let pw = passed (all_of (root_rules bs rs q)) _ w in
    let t = all_of_lem (root_rules bs rs q) pw.0 in
    let ruled : ruled_at bs rs q ≡ true = (sub_true _ _ t.1.1.1.1.0).1 in
    let u = all_of_lem (record_rules bs r (children_at rs q)) ruled in
    let span : s ≡ 1 + total (λ k. k.span) (children_at rs q) = eqb-true _ _ u.1.1.1.1.1.0 in
    let inside : q + s ≤ length rs = leb-true _ _ t.1.1.1.0 in
    let there : ltb q (q + s) ≡ true = lt-ltb q (q + s) (omega arith) in
    let lst : trees_from 1 rs q (q + s) ≡ r ∷ [] = rw there in
    let T = build bs rs s 1 q (q + s) (omega arith) inside
    (λ i a b. at i (i - q) (omega arith) ruled (λ j x y. (sub_true (leb (q + j + (rec_at rs (q + j)).span) (q + s)) _ (sub_true (eqb (rec_at rs (q + j)).root 0) _ (none_not (λ i. inner_ok bs rs (q + s) (q + i)) 1 (s - 1) pw.1 j x y)).1).1) (omega arith))
    (subst (AllByRecursion (λ x. 1 ≤ x.span)) (sym lst) (omega arith, tt))
    (rw lst (omega arith)) in
    let L = lone T.0 r (T.3 ∙ lst) in
    let z : q + s - q ≡ s = omega arith in
    record {
      kids = L.0;
      inside = inside;
      kept = subst (Kept bs) L.1 T.1;
      spelled = ap preorder (sym L.1) ∙ T.2 ∙ ap (λ n. take n (drop q rs)) z;
    }
  where
    at : (i d : ℕ) → q + d ≡ i → ruled_at bs rs q ≡ true
        → ((j : ℕ) → 1 ≤ j → j < 1 + ((rec_at rs q).span - 1) → ruled_at bs rs (q + j) ≡ true) → d < (rec_at rs q).span → ruled_at bs rs i ≡ true
    at i zero e h f l = let z : q ≡ i = omega arith in rw z at h
    at i (suc d) e h f l = rw (← e) (f (suc d) (omega arith) (omega arith))

-- no record but the first is a root
abbrev pub Rootless : List Record → Type 0
Rootless rs = (i : ℕ) → 1 ≤ i → i < length rs → (get_or rs i nothing).root ≡ 0

module _ (bs : List ℕ) (rs : List Record) where
  pub head_at : (p : ℕ) (r : Record) (xs : List Record) → drop p rs ≡ r ∷ xs → rec_at rs p ≡ r
  head_at p r xs e =
      let z : p + 0 ≡ p = omega arith in
      ap (λ k. get_or rs k nothing) (sym z) ∙ sym (get_or-drop p rs 0 nothing) ∙ ap (λ x. get_or x 0 nothing) e

  past : (p n : ℕ) (r : Record) (xs ys : List Record) → drop p rs ≡ r ∷ (xs ++ ys) → n ≡ 1 + length xs → drop (p + n) rs ≡ ys
  past p n r xs ys e l = sym (drop-drop n p rs) ∙ ap (drop n) e ∙ drop_at (r ∷ xs) ys n (omega arith)

  module _ (r : Record) (kids next : Forest) (rest : List Record) (p : ℕ) (s : Spanned (node r kids next))
      (e : drop p rs ≡ r ∷ ((preorder kids ++ preorder next) ++ rest)) where
    below : drop (p + 1) rs ≡ preorder kids ++ (preorder next ++ rest)
    below = past p 1 r [] (preorder kids ++ (preorder next ++ rest)) (e ∙ ap (λ x. r ∷ x) (append_assoc (preorder kids) (preorder next) rest)) refl

    after_it : drop (p + r.span) rs ≡ preorder next ++ rest
    after_it =
        past p r.span r (preorder kids) (preorder next ++ rest) (e ∙ ap (λ x. r ∷ x) (append_assoc (preorder kids) (preorder next) rest))
        (omega (arith, s.0, length-preorder kids))

  -- the trees that stand from p on
  trees_at : (F : Forest) (rest : List Record) (k p e : ℕ) → Spanned F → drop p rs ≡ preorder F ++ rest → records_of F ≤ k → e ≡ p + records_of F
      → trees_from k rs p e ≡ tops F
  trees_at end rest zero p e s d l n = refl
  trees_at end rest (suc k) p e s d l n = rw (le-ltb p e (omega arith))
  trees_at (node r kids next) rest zero p e s d l n = absurd (omega arith)
  trees_at (node r kids next) rest (suc k) p e s d l n =
      let h : rec_at rs p ≡ r = head_at p r _ d in
      let ih = trees_at next rest k (p + r.span) e s.2 (after_it r kids next rest p s d) (omega arith) (omega (arith, s.0)) in
      rw (lt-ltb p e (omega arith), h, ih)

  children_at_lem : (r : Record) (kids next : Forest) (rest : List Record) (p : ℕ) → Spanned (node r kids next)
      → drop p rs ≡ preorder (node r kids next) ++ rest → children_at rs p ≡ tops kids
  children_at_lem r kids next rest p s d =
      let h : rec_at rs p ≡ r = head_at p r _ d in
      rw h (trees_at kids (preorder next ++ rest) r.span (p + 1) (p + r.span) s.1 (below r kids next rest p s d) (omega (arith, s.0)) (omega (arith, s.0)))

  ok_here : (r : Record) (kids next : Forest) (rest : List Record) (p : ℕ) → Spanned (node r kids next) → all_of (record_rules bs r (tops kids)) ≡ true
      → drop p rs ≡ preorder (node r kids next) ++ rest → ruled_at bs rs p ≡ true
  ok_here r kids next rest p s k d =
      ap₂ (λ x ts. all_of (record_rules bs x ts)) (head_at p r _ d) (children_at_lem r kids next rest p s d) ∙ k

  -- every record passes
  each_ok : (F : Forest) (rest : List Record) (p : ℕ) → Spanned F → Kept bs F → drop p rs ≡ preorder F ++ rest
      → (i : ℕ) → p ≤ i → i < p + records_of F → ruled_at bs rs i ≡ true
  each_ok end rest p s k d i a b = absurd (omega arith)
  each_ok (node r kids next) rest p s k d i a b = elim (dec_lt i (p + 1)) [
    | yes l ↦ let z : p ≡ i = omega arith in subst (λ x. ruled_at bs rs x ≡ true) z (ok_here r kids next rest p s k.0 d)
    | no l ↦ elim (dec_lt i (p + r.span)) [
      | yes m ↦ each_ok kids (preorder next ++ rest) (p + 1) s.1 k.1 (below r kids next rest p s d) i (omega arith) (omega (arith, s.0))
      | no m ↦ each_ok next rest (p + r.span) s.2 k.2 (after_it r kids next rest p s d) i (omega arith) (omega (arith, s.0))
    ]
  ]

  -- every record's span ends within the trees
  each_inside : (F : Forest) (rest : List Record) (p : ℕ) → Spanned F → drop p rs ≡ preorder F ++ rest
      → (i : ℕ) → p ≤ i → i < p + records_of F → i + (rec_at rs i).span ≤ p + records_of F
  each_inside end rest p s d i a b = absurd (omega arith)
  each_inside (node r kids next) rest p s d i a b = elim (dec_lt i (p + 1)) [
    | yes l ↦ let z : i ≡ p = omega arith in rw z (rw (head_at p r _ d) (omega (arith, s.0)))
    | no l ↦ elim (dec_lt i (p + r.span)) [
      | yes m ↦ let k = each_inside kids (preorder next ++ rest) (p + 1) s.1 (below r kids next rest p s d) i (omega arith) (omega (arith, s.0)) in omega arith
      | no m ↦ let n = each_inside next rest (p + r.span) s.2 (after_it r kids next rest p s d) i (omega arith) (omega (arith, s.0)) in omega (arith, s.0)
    ]
  ]

  pub tree_well : (q : ℕ) (r : Record) (kids : Forest) (rest : List Record) → q ≤ length rs → Kept bs (node r kids end)
      → drop q rs ≡ preorder (node r kids end) ++ rest → r.root ≡ 1 → r.span ≤ 64 → Rootless (preorder (node r kids end))
      → WellFormed bs rs q
  tree_well q r kids rest inside k d one few roots =
      let F : Forest = node r kids end in
      let s : Spanned F = kept_spanned bs F k in
      let h : rec_at rs q ≡ r = head_at q r _ d in
      let long : q + r.span ≤ length rs =
      omega (arith, s.0, simp (length-append, length-drop) at (ap length d), length-preorder kids) in
      let top : all_of (root_rules bs rs q) ≡ true =
      all_in (root_rules bs rs q) (
        lt-ltb q (length rs) (omega (arith, s.0)),
        (
          rw h (eq-eqb r.root 1 one),
          (
            rw h (le-leb r.span 64 few),
            (
              rw h (le-leb _ _ long),
              (both_true _ _ (le-leb (q + (rec_at rs q).span) (q + (rec_at rs q).span) (omega arith)) (ok_here r kids end rest q s k.0 d), tt),
            ),
          ),
        ),
      ) in
      rw top (no_broken (λ i. inner_ok bs rs (q + (rec_at rs q).span) (q + i)) 1 ((rec_at rs q).span - 1)
      (λ j a b.
      let l : j < r.span = omega (arith, ap (λ x. x.span) h) in
      let same : rec_at rs (q + j) ≡ get_or (preorder F) j nothing =
      sym (get_or-drop q rs j nothing) ∙ ap (λ x. get_or x j nothing) d
      ∙ get_or_append_left (preorder F) rest nothing j (omega (arith, s.0, length-preorder F)) in
      let in-it = each_inside F rest q s d (q + j) (omega arith) (omega (arith, s.0)) in
      both_true (eqb (rec_at rs (q + j)).root 0) (ok_at bs rs (q + (rec_at rs q).span) (q + j))
      (eq-eqb _ 0 (ap (λ x. x.root) same ∙ roots j a (omega (arith, s.0, length-preorder F))))
      (both_true _ _ (le-leb _ _ (omega (arith, s.0, ap (λ x. x.span) h)))
      (each_ok F rest q s k d (q + j) (omega arith) (omega (arith, s.0))))))

-- the roots of a well-formed column
pub rootless_at : (R : List Record) (B : List ℕ) (q : ℕ) → WellFormed B R q → Rootless (records_at R q)
rootless_at R B q w i a b =
    let p = passed (all_of (root_rules B R q)) _ w in
    let s : ℕ = (rec_at R q).span in
    let l : i < s = short s (drop q R) i b in
    let e : get_or (records_at R q) i nothing ≡ rec_at R (q + i) = get_or-take s (drop q R) i nothing l ∙ get_or-drop q R i nothing in
    ap (λ x. x.root) e ∙ eqb-true _ _ (sub_true _ _ (none_not (λ i. inner_ok B R (q + (rec_at R q).span) (q + i)) 1 (s - 1) p.1 i a (omega arith))).0
  where
    short : (s : ℕ) (xs : List Record) (i : ℕ) → i < length (take s xs) → i < s
    short zero xs i h = absurd (omega arith)
    short (suc s) [] i h = absurd (omega arith)
    short (suc s) (x ∷ xs) zero h = omega arith
    short (suc s) (x ∷ xs) (suc i) h = let r = short s xs i (omega arith) in omega arith

pub rootless_like : (rs ss : List Record) → map (λ x. x.root) rs ≡ map (λ x. x.root) ss → Rootless ss → Rootless rs
rootless_like rs ss e h i a b =
    let l : length rs ≡ length ss = sym (length-map rs (λ x. x.root)) ∙ ap length e ∙ length-map ss (λ x. x.root) in
    sym (get_or-map (λ x. x.root) rs i nothing 0 b) ∙ ap (λ x. get_or x i 0) e ∙ get_or-map (λ x. x.root) ss i nothing 0 (omega arith) ∙ h i a (omega arith)

pub is_root : (R : List Record) (B : List ℕ) (q : ℕ) → WellFormed B R q → (rec_at R q).root ≡ 1
is_root R B q w = eqb-true _ _ (all_of_lem (root_rules B R q) (passed (all_of (root_rules B R q)) _ w).0).1.0

pub few_records : (R : List Record) (B : List ℕ) (q : ℕ) → WellFormed B R q → (rec_at R q).span ≤ 64
few_records R B q w = leb-true _ _ (all_of_lem (root_rules B R q) (passed (all_of (root_rules B R q)) _ w).0).1.1.0

-- a well-formed column, as a tree
pub column_is : (R : List Record) (B : List ℕ) (q : ℕ) (w : WellFormed B R q) → column_at R q ≡ node (rec_at R q) (checked R B q w).kids end
column_is R B q w =
    let c = checked R B q w in
    let F : Forest = node (rec_at R q) c.kids end in
    let rest : List Record = drop (rec_at R q).span (drop q R) in
    let e : drop q R ≡ preorder F ++ rest = sym (take-append-drop (rec_at R q).span (drop q R)) ∙ ap (λ x. x ++ rest) (sym c.spelled) in
    ap (λ x. first_tree (parse x)) e ∙ ap first_tree (parse-preorder F rest (kept_spanned B F c.kept))

-- a tree of records that stands at place q is the column there
pub column_tree : (R : List Record) (q : ℕ) (r : Record) (kids : Forest) (rest : List Record) → Spanned (node r kids end)
    → drop q R ≡ preorder (node r kids end) ++ rest → column_at R q ≡ node r kids end
column_tree R q r kids rest s e = ap (λ x. first_tree (parse x)) e ∙ ap first_tree (parse-preorder (node r kids end) rest s)
