-- A column keeps its rules and its rows where its bytes lie elsewhere and where memory grows above it; a slice has a stretch of the
-- rows.
use Rattle.std.proofs.Common.{◌≡◌, ℕ, ◌+◌, ◌-◌, ◌*◌, ◌/◌, ◌%◌, ◌^◌, ◌<◌, ◌≤◌, Bool, true, false, cond, eqb, List, [], ◌∷◌, ◌++◌, map, length, get_or, take, drop, sym, refl, ap, ◌∙◌, subst, ap₂, add-zero, add_assoc, zero-add, arith}
use Rattle.std.specs.List.{between, AllByRecursion, range_with_len}
use Rattle.records.specs.declared.record.Record.{Record}
use Rattle.numbers.specs.Little.{little, number_at}
use Rattle.numbers.specs.Bits.{bit_at, bit_bytes}
use Rattle.format.specs.Rows.{Row, null, raw, bit, listed, struct, rows, first}
use Rattle.format.specs.Trees.{Forest, end, node, preorder, tops, rec_at}
use Rattle.format.specs.Meaning.{Kind, flat, bits, bytes, dictionary, list, structs, runs, other, kind_of, is_null, number, ends_of, run_of, value_at, decode}
use Rattle.format.specs.Rules.{all_of, record_rules, end_of, WellFormed}
use Rattle.std.proofs.lemmas.Bool.{eqb-true, eq-eqb, ne_eqb}
use Rattle.std.proofs.ByRecursion.{All-weaker}
use Rattle.std.proofs.lemmas.List.FromFn.{length-map-range_with_len}
use Rattle.std.proofs.lemmas.List.{append_assoc, append-nil, length-append, length-drop, drop_at, drop-drop, drop-append-le, drop-take, take-append-le, take-append-drop, get_or-take, get_or-drop, map-append}
use Rattle.format.specs.Moves.{window, moved, sliced}
use Rattle.format.specs.Types.{records_at}
use Rattle.format.specs.Promises.{SameRows, Stretch}
use Rattle.format.proofs.Tests.{no_way, map-range_with_len}
use Rattle.format.proofs.Facts.{Is, kind_is, run_below, Says, facts, validity}
use Rattle.format.proofs.Checked.{head_at, Kept, kept_spanned, checked, tree_well, rootless_at, rootless_like, is_root, few_records, column_is, column_tree}
use Rattle.format.proofs.Carry.{in_room, placed, Carries, SameKids, same_kids, carry}

-- N holds M from byte d on
pub record Holds (d : ℕ) (M N : List ℕ) : Type 0 where
  pub long : d + length M ≤ length N
  pub same : (p n : ℕ) → p + n ≤ length M → take n (drop (d + p) N) ≡ take n (drop p M)

abbrev pub moved_trees : ℕ → Forest → Forest
moved_trees d end = end
moved_trees d (node r kids next) = node (moved d r) (moved_trees d kids) (moved_trees d next)

turned : {x y : Row} (v u : Bool) → v ≡ u → (u ≡ false → x ≡ y) → cond v null x ≡ cond u null y
turned {x} {y} v u e h = rw e (go u h)
  where
    go : (u : Bool) → (u ≡ false → x ≡ y) → cond u null x ≡ cond u null y
    go true h = refl
    go false h = h refl

module _ (d : ℕ) (M N : List ℕ) (h : Holds d M N) where
  num_held : (p w j : ℕ) → p + j * w + w ≤ length M → number_at N (d + p) w j ≡ number_at M p w j
  num_held p w j l = ap (λ x. little (take w (drop x N))) (add_assoc d p (j * w)) ∙ ap little (h.same (p + j * w) w l)

  byte_held : (x : ℕ) → x < length M → get_or N (d + x) 0 ≡ get_or M x 0
  byte_held x l =
      let e = ap (λ t. get_or t 0 0) (h.same x 1 (omega arith)) in
      let f = get_or-take 1 (drop (d + x) N) 0 0 (omega arith) ∙ get_or-drop (d + x) N 0 0 ∙ ap (λ k. get_or N k 0) (add-zero (d + x)) in
      let g = get_or-take 1 (drop x M) 0 0 (omega arith) ∙ get_or-drop x M 0 0 ∙ ap (λ k. get_or M k 0) (add-zero x) in
      cc

  bit_held : (p j : ℕ) → p + j / 8 < length M → bit_at N (d + p) j ≡ bit_at M p j
  bit_held p j l = ap (λ x. eqb ((x / 2 ^ (j % 8)) % 2) 1) (ap (λ k. get_or N k 0) (add_assoc d p (j / 8)) ∙ byte_held (p + j / 8) l)

  part_held : (p q : ℕ) → p ≤ q → q ≤ length M → between (d + p) (d + q) N ≡ between p q M
  part_held p q l b =
      let z : d + q - (d + p) ≡ q - p = omega arith in ap (λ n. take n (drop (d + p) N)) z ∙ h.same p (q - p) (omega arith)

  module _ (r : Record) where
    a_moved : (r.kind ≡ 8 → ⊥) → (moved d r).a ≡ d + r.a
    a_moved k = ap (λ x. cond x r.a (d + r.a)) (ne_eqb r.kind 8 k)

    a_kept_lem : r.kind ≡ 8 → (moved d r).a ≡ r.a
    a_kept_lem k = ap (λ x. cond x r.a (d + r.a)) (eq-eqb r.kind 8 k)

    b_moved : r.kind ≡ 3 → (moved d r).b ≡ d + r.b
    b_moved k = ap (λ x. cond x (d + r.b) r.b) (eq-eqb r.kind 3 k)

    b_kept_lem : (r.kind ≡ 3 → ⊥) → (moved d r).b ≡ r.b
    b_kept_lem k = ap (λ x. cond x (d + r.b) r.b) (ne_eqb r.kind 3 k)

    v_moved : r.nulls ≡ 1 → (moved d r).v ≡ d + r.v
    v_moved k = ap (λ x. cond x (d + r.v) r.v) (eq-eqb r.nulls 1 k)

    v_kept_lem : (r.nulls ≡ 1 → ⊥) → (moved d r).v ≡ r.v
    v_kept_lem k = ap (λ x. cond x (d + r.v) r.v) (ne_eqb r.nulls 1 k)

    nulls_held : ((r.nulls ≡ 1) → r.v + bit_bytes (end_of r) ≤ length M) → (j : ℕ) → j < end_of r → is_null N (moved d r) j ≡ is_null M r j
    nulls_held vok j l = go (eqb r.nulls 1) refl
      where
        go : (t : Bool) → eqb r.nulls 1 ≡ t
            → cond t (cond (bit_at N (cond t (d + r.v) r.v) j) false true) false ≡ cond t (cond (bit_at M r.v j) false true) false
        go true e = ap (λ b. cond b false true) (bit_held r.v j (omega (arith, vok (eqb-true r.nulls 1 e))))
        go false e = refl

    numbers_held : (r.kind ≡ 8 → ⊥) → (j : ℕ) → r.a + j * r.width + r.width ≤ length M → number N (moved d r) j ≡ number M r j
    numbers_held k j l = ap (λ x. number_at N x r.width j) (a_moved k) ∙ num_held r.a r.width j l

    carries : Carries M r N r.start r.length (moved d r).v (moved d r).a (moved d r).b
    carries =
        record {
          starts = omega arith;
          ends = omega arith;
          a_room = λ k m l. let e = a_moved k in omega (arith, h.long);
          nums = numbers_held;
          a_kept = a_kept_lem;
          b_room = λ k m l. let e = b_moved k in omega (arith, h.long);
          b_kept = b_kept_lem;
          v_room = λ k m l. let e = v_moved k in omega (arith, h.long);
          v_kept = v_kept_lem;
          nulled = nulls_held;
        }

    other_kind : (n : ℕ) → r.kind ≡ n → eqb n 8 ≡ false → r.kind ≡ 8 → ⊥
    other_kind n e f g = no_way (sym f ∙ eq-eqb n 8 (sym e ∙ g))

    -- the value at a position that is not null
    value_held : (K : Kind) → Is K r.kind → (ks : List Record) → Says K M r ks → (new old : ℕ → List Row)
        → ((j : ℕ) → AllByRecursion (λ k. j < k.length) ks → new j ≡ old j)
        → (j : ℕ) → r.start ≤ j → j < end_of r → is_null M r j ≡ false → value_at N (moved d r) K new j ≡ value_at M r K old j
    value_held flat i ks s new old e j a b v =
        ap raw
        (ap (λ x. take r.width (drop (x + j * r.width) N)) (a_moved (other_kind 1 i refl))
        ∙ ap (λ x. take r.width (drop x N)) (add_assoc d r.a (j * r.width))
        ∙ h.same (r.a + j * r.width) r.width (in_room r.a r.width (end_of r) j (length M) s b))
    value_held bits i ks s new old e j a b v =
        ap bit (ap (λ x. bit_at N x j) (a_moved (other_kind 2 i refl)) ∙ bit_held r.a j (omega arith))
    value_held bytes i ks s new old e j a b v =
        let o : ℕ = number M r j in
        let p : ℕ = number M r (j + 1) in
        let read = λ (x : ℕ). λ (l : x < end_of r + 1). numbers_held (other_kind 3 i refl) x (in_room r.a r.width (end_of r + 1) x (length M) s.0.fits l) in
        ap raw
        (ap₂ (λ x y. between x y N)
        (ap₂ (λ x y. x + y) (b_moved i) (read j (omega arith)) ∙ add_assoc d r.b o)
        (ap₂ (λ x y. x + y) (b_moved i) (read (j + 1) (omega arith)) ∙ add_assoc d r.b p)
        ∙ part_held (r.b + o) (r.b + p) (omega (arith, s.0.steps j a b)) (omega (arith, s.0.below (j + 1) (omega arith) (omega arith), s.1)))
    value_held dictionary i ks s new old e j a b v =
        let c = s.1 in
        ap first
        (ap new (numbers_held (other_kind 4 i refl) j (in_room r.a r.width (end_of r) j (length M) s.0 b))
        ∙ e (number M r j) (subst (AllByRecursion (λ k. number M r j < k.length)) (sym c.alone) (c.holds j a b v, tt)))
    value_held list i ks s new old e j a b v =
        let o = s.holds in
        let read = λ (x : ℕ). λ (l : x < end_of r + 1). numbers_held (other_kind 5 i refl) x (in_room r.a r.width (end_of r + 1) x (length M) o.fits l) in
        ap (λ x. listed (rows x))
        (ap₂ (λ x y. map (λ k. first (new k)) (range_with_len x (y - x))) (read j (omega arith)) (read (j + 1) (omega arith))
        ∙ map-range_with_len (λ k. first (new k)) (λ k. first (old k)) (number M r j) (number M r j) (number M r (j + 1) - number M r j)
        (λ k l. ap first (e (number M r j + k)
        (subst (AllByRecursion (λ x. number M r j + k < x.length)) (sym s.alone) (omega (arith, o.below (j + 1) (omega arith) (omega arith)), tt)))))
    value_held structs i ks s new old e j a b v = ap (λ x. struct (rows x)) (e j (All-weaker _ _ (λ x l. omega arith) ks s))
    value_held runs i ks s new old e j a b v =
        let ends : ends_of N (moved d r) ≡ ends_of M r =
        map-range_with_len _ _ 0 0 r.count (λ k l. numbers_held (other_kind 9 i refl) (0 + k) (in_room r.a r.width r.count (0 + k) (length M) s.0 (omega arith))) in
        let c = s.3 in
        let t = run_below 0 j (ends_of M r) s.1 (omega arith) (omega (arith, s.2)) in
        let n = length-map-range_with_len (number M r) 0 r.count in
        ap first
        (ap (λ es. new (run_of es j)) ends
        ∙ e (run_of (ends_of M r) j) (subst (AllByRecursion (λ k. run_of (ends_of M r) j < k.length)) (sym c.alone) (omega (arith, c.holds), tt)))
    value_held other i ks s new old e j a b v = refl

  same_tops : (F : Forest) → SameKids (tops F) (tops (moved_trees d F))
  same_tops end = tt
  same_tops (node r kids next) = (refl, refl, same_tops next)

  pub kept_held : (F : Forest) → Kept M F → Kept N (moved_trees d F)
  kept_held end k = tt
  kept_held (node r kids next) k = (
    carry M r N r.start r.length (moved d r).v (moved d r).a (moved d r).b (carries r) (tops kids) (tops (moved_trees d kids)) (same_tops kids) k.0,
    kept_held kids k.1,
    kept_held next k.2,
  )

  pub decode_held : (F : Forest) → Kept M F → (i : ℕ) → AllByRecursion (λ k. i < k.length) (tops F) → decode N (moved_trees d F) i ≡ decode M F i
  decode_held end k i l = refl
  decode_held (node r kids next) k i l =
      ap₂ (λ x y. x ∷ y)
      (turned (is_null N (moved d r) (r.start + i)) (is_null M r (r.start + i))
      (nulls_held r (validity M r (tops kids) k.0) (r.start + i) (omega (arith, l.0)))
      (value_held r (kind_of r.kind) (kind_is r.kind) (tops kids) (facts M r (tops kids) k.0) (decode N (moved_trees d kids)) (decode M kids)
      (decode_held kids k.1) (r.start + i) (omega arith) (omega (arith, l.0))))
      (decode_held next k.2 i l.1)

moved-preorder : (d : ℕ) (F : Forest) → map (moved d) (preorder F) ≡ preorder (moved_trees d F)
moved-preorder d end = refl
moved-preorder d (node r kids next) =
    ap (λ t. moved d r ∷ t) (map-append (moved d) (preorder kids) (preorder next) ∙ ap₂ (λ x y. x ++ y) (moved-preorder d kids) (moved-preorder d next))

same_roots : (d : ℕ) (xs : List Record) → map (λ x. x.root) (map (moved d) xs) ≡ map (λ x. x.root) xs
same_roots d [] = refl
same_roots d (x ∷ xs) = ap (λ t. x.root ∷ t) (same_roots d xs)

-- a column of M whose records stand elsewhere, d bytes further on, over a memory N that holds M from byte d on
pub copied : (d : ℕ) (M N : List ℕ) → Holds d M N → (R S : List Record) (q p : ℕ) (rest : List Record) → WellFormed M R q → p ≤ length S
    → drop p S ≡ map (moved d) (records_at R q) ++ rest → SameRows M R q N S p
copied d M N h R S q p rest w inside here =
    let c = checked R M q w in
    let r : Record = rec_at R q in
    let F : Forest = node r c.kids end in
    let G : Forest = moved_trees d F in
    let new : map (moved d) (records_at R q) ≡ preorder G = ap (map (moved d)) (sym c.spelled) ∙ moved-preorder d F in
    let there : drop p S ≡ preorder G ++ rest = here ∙ ap (λ x. x ++ rest) new in
    let kept = kept_held d M N h F c.kept in
    let roots : map (λ x. x.root) (preorder G) ≡ map (λ x. x.root) (records_at R q) = ap (map (λ x. x.root)) (sym new) ∙ same_roots d (records_at R q) in
    let tree = column_tree S p (moved d r) (moved_trees d c.kids) rest (kept_spanned N G kept) there in
    let top : rec_at S p ≡ moved d r = head_at N S p (moved d r) _ there in
    record {
      well = tree_well N S p (moved d r) (moved_trees d c.kids) rest inside kept there (is_root R M q w) (few_records R M q w)
          (rootless_like (preorder G) (records_at R q) roots (rootless_at R M q w));
      count = ap (λ x. x.length) top;
      rows = λ i l.
          ap (λ X. first (decode N X i)) tree ∙ ap first (decode_held d M N h F c.kept i (l, tt))
          ∙ sym (ap (λ X. first (decode M X i)) (column_is R M q w));
    }

-- MEMORY THAT GROWS: a well-formed column keeps its rules and its rows where records and bytes are added above the marks
holds_more : (B X : List ℕ) → Holds 0 B (B ++ X)
holds_more B X =
    record {
      long = rw length-append (omega arith);
      same = λ p n l.
          ap (λ k. take n (drop k (B ++ X))) (zero-add p) ∙ ap (take n) (drop-append-le p B X (omega arith))
          ∙ take-append-le n (drop p B) X (rw length-drop (omega arith));
    }

moved_none : (rs : List Record) → map (moved 0) rs ≡ rs
moved_none [] = refl
moved_none (r ∷ rs) = ap₂ (λ x y. x ∷ y) (stays r) (moved_none rs)
  where
    either_way : (t : Bool) (x : ℕ) → cond t (0 + x) x ≡ x
    either_way true x = zero-add x
    either_way false x = refl

    other_way : (t : Bool) (x : ℕ) → cond t x (0 + x) ≡ x
    other_way true x = refl
    other_way false x = zero-add x

    stays : (r : Record) → moved 0 r ≡ r
    stays r =
        let v = either_way (eqb r.nulls 1) r.v in
        let a = other_way (eqb r.kind 8) r.a in
        let b = either_way (eqb r.kind 3) r.b in
        ap (λ x. placed r r.start r.length x (moved 0 r).a (moved 0 r).b) v
        ∙ ap (λ x. placed r r.start r.length r.v x (moved 0 r).b) a
        ∙ ap (λ x. placed r r.start r.length r.v r.a x) b

pub still : (B X : List ℕ) (R Y : List Record) (q : ℕ) → WellFormed B R q → SameRows B R q (B ++ X) (R ++ Y) q
still B X R Y q w =
    let c = checked R B q w in
    let s : ℕ = (rec_at R q).span in
    copied 0 B (B ++ X) (holds_more B X) R (R ++ Y) q q (drop s (drop q R) ++ Y) w (rw length-append (omega (arith, c.inside)))
    (drop-append-le q R Y (omega (arith, c.inside)) ∙ ap (λ x. x ++ Y) (sym (take-append-drop s (drop q R)))
    ∙ append_assoc (records_at R q) (drop s (drop q R)) Y ∙ ap (λ x. x ++ (drop s (drop q R) ++ Y)) (sym (moved_none (records_at R q))))

-- AN OUTSIDE COLUMN, put behind B and a gap
pub brought_in : (B gap M : List ℕ) (R C : List Record) (d : ℕ) → length B + length gap ≡ d → WellFormed M C 0
    → SameRows M C 0 (B ++ (gap ++ M)) (R ++ map (moved d) (records_at C 0)) (length R)
brought_in B gap M R C d long w =
    let N : List ℕ = B ++ (gap ++ M) in
    let whole : length (B ++ gap) ≡ d = rw length-append long in
    let further : (p : ℕ) → drop (d + p) N ≡ drop p M =
    λ p. sym (drop-drop p d N) ∙ ap (drop p) (ap (drop d) (sym (append_assoc B gap M)) ∙ drop_at (B ++ gap) M d whole) in
    copied d M N (record { long = rw (length-append, length-append) (omega arith); same = λ p n l. ap (take n) (further p) })
    C (R ++ map (moved d) (records_at C 0)) 0 (length R) [] w (rw length-append (omega arith))
    (drop_at R (map (moved d) (records_at C 0)) (length R) refl ∙ sym (append-nil (map (moved d) (records_at C 0))))

-- a record keeps its rules over a stretch of its rows
pub window_ruled : (B : List ℕ) (r : Record) (ks : List Record) (f n : ℕ) → f + n ≤ r.length → all_of (record_rules B r ks) ≡ true
    → all_of (record_rules B (window r f n) ks) ≡ true
window_ruled B r ks f n l h =
    carry B r B (r.start + f) n r.v r.a r.b
    (record {
      starts = omega arith;
      ends = omega arith;
      a_room = λ k m h. h;
      nums = λ k j h. refl;
      a_kept = λ k. refl;
      b_room = λ k m h. h;
      b_kept = λ k. refl;
      v_room = λ k m h. h;
      v_kept = λ k. refl;
      nulled = λ h j l. refl;
    })
    ks ks (same_kids ks) h

-- A SLICE: a stretch of the rows of the column at q
module _ (B : List ℕ) (r : Record) (kids : Forest) (f n : ℕ) where
  kept_cut : f + n ≤ r.length → Kept B (node r kids end) → Kept B (node (window r f n) kids end)
  kept_cut l k = (window_ruled B r (tops kids) f n l k.0, k.1, tt)

  same_value_lem : (K : Kind) (kid : ℕ → List Row) (j : ℕ) → value_at B (window r f n) K kid j ≡ value_at B r K kid j
  same_value_lem flat kid j = refl
  same_value_lem bits kid j = refl
  same_value_lem bytes kid j = refl
  same_value_lem dictionary kid j = refl
  same_value_lem list kid j = refl
  same_value_lem structs kid j = refl
  same_value_lem runs kid j = refl
  same_value_lem other kid j = refl

  cut_row : (i : ℕ) → first (decode B (node (window r f n) kids end) i) ≡ first (decode B (node r kids end) (f + i))
  cut_row i =
      let z : r.start + f + i ≡ r.start + (f + i) = omega arith in
      ap₂ (λ x y. cond (is_null B r x) null y) z
      (same_value_lem (kind_of r.kind) (decode B kids) (r.start + f + i) ∙ ap (value_at B r (kind_of r.kind) (decode B kids)) z)

pub cut_out : (B : List ℕ) (R : List Record) (q f n : ℕ) → WellFormed B R q → f + n ≤ (rec_at R q).length
    → Stretch B R q f n B (R ++ sliced R q f n) (length R)
cut_out B R q f n w l =
    let c = checked R B q w in
    let r : Record = rec_at R q in
    let s : ℕ = (rec_at R q).span in
    let F : Forest = node r c.kids end in
    let G : Forest = node (window r f n) c.kids end in
    let one : 1 + (s - 1) ≡ s = omega (arith, (kept_spanned B F c.kept).0) in
    let rest : drop 1 (records_at R q) ≡ take (s - 1) (drop (q + 1) R) =
    ap (λ k. drop 1 (take k (drop q R))) (sym one) ∙ drop-take 1 (s - 1) (drop q R) ∙ ap (take (s - 1)) (drop-drop 1 q R) in
    let tail : take (s - 1) (drop (q + 1) R) ≡ preorder c.kids ++ [] = sym rest ∙ ap (drop 1) (sym c.spelled) in
    let new : sliced R q f n ≡ preorder G = ap (λ t. window r f n ∷ t) tail in
    let there : drop (length R) (R ++ sliced R q f n) ≡ preorder G ++ [] = drop_at R (sliced R q f n) (length R) refl ∙ new ∙ sym (append-nil (preorder G)) in
    let kept = kept_cut B r c.kids f n l c.kept in
    let tree = column_tree (R ++ sliced R q f n) (length R) (window r f n) c.kids [] (kept_spanned B G kept) there in
    let roots : map (λ x. x.root) (preorder G) ≡ map (λ x. x.root) (records_at R q) = ap (map (λ x. x.root)) c.spelled in
    record {
      well = tree_well B (R ++ sliced R q f n) (length R) (window r f n) c.kids [] (rw length-append (omega arith)) kept there (is_root R B q w) (few_records R B q w)
          (rootless_like (preorder G) (records_at R q) roots (rootless_at R B q w));
      count = ap (λ x. x.length) (head_at B (R ++ sliced R q f n) (length R) (window r f n) _ there);
      rows = λ i m.
          ap (λ X. first (decode B X i)) tree ∙ cut_row B r c.kids f n i ∙ sym (ap (λ X. first (decode B X (f + i))) (column_is R B q w));
    }

-- a column is itself
pub same_here : (B : List ℕ) (R : List Record) (q : ℕ) → WellFormed B R q → SameRows B R q B R q
same_here B R q w = record { well = w; count = refl; rows = λ i l. refl }
