-- The way to a cell, record by record.
use Rattle.std.proofs.Common.{◌≡◌, ℕ, zero, suc, ◌+◌, ◌-◌, ◌<◌, ◌≤◌, Bool, true, false, cond, not, eqb, ltb, leb, Some, List, [], ◌∷◌, map, length, take, drop, get_or, sym, refl, ap, ◌∙◌, subst, arith}
use Rattle.std.specs.List.{range_with_len, find, AllByRecursion}
use Rattle.std.specs.Option.{option_map_or, unwrap_or}
use Rattle.std.proofs.lemmas.Bool.{leb-true, eqb-true, ltb-true}
use Rattle.std.proofs.lemmas.List.{drop_more, take_all, length-drop, get_or-drop}
use Rattle.std.proofs.lemmas.List.FromFn.{length-map-range_with_len}
use Rattle.records.specs.declared.record.Record.{Record}
use Rattle.format.specs.Trees.{nothing, rec_at}
use Rattle.format.specs.Meaning.{Kind, flat, bits, bytes, dictionary, list, structs, runs, other, kind_of, is_null, number, ends_of, run_of}
use Rattle.format.specs.Rules.{both, all_of, one_of, end_of, kind_rules, record_rules, trees_from, children_at, ruled_at, WellFormed}
use Rattle.format.specs.Cells.{absent, leads_on, leads, found_at, found}
use Rattle.format.proofs.Tests.{no_way, all_of_lem}
use Rattle.format.proofs.Facts.{Says, facts, run_below}
use Rattle.format.proofs.Carry.{in_room}
use Rattle.format.proofs.Known.{right}
use Rattle.columns.specs.Held as held
use Rattle.columns.specs.Held.{Held, shown, here, child, step, step_at}
use Rattle.columns.specs.Readable.{Readable}

-- the first record that leads no further has values, or has none
abbrev pub holds : Record → Bool
holds r = leads_on (kind_of r.kind) false

abbrev pub stays : Record → Bool
stays r = not (both (leads_on (kind_of r.kind) true) (not (leads_on (kind_of r.kind) false)))

pub leads_first : (rs : List Record) → option_map_or holds (find stays rs) false ≡ leads rs
leads_first [] = refl
leads_first (r ∷ rs) = at (kind_of r.kind) refl (leads_first rs)
  where
    at : (K : Kind) → holds r ≡ leads_on K false → option_map_or holds (find stays rs) false ≡ leads rs
        → option_map_or holds (cond (not (both (leads_on K true) (not (leads_on K false)))) (Some r) (find stays rs)) false ≡ leads_on K (leads rs)
    at flat h e = h
    at bits h e = h
    at bytes h e = h
    at dictionary h e = e
    at list h e = h
    at structs h e = h
    at runs h e = e
    at other h e = h

-- the first run that ends above j
run_found : (f : ℕ → ℕ) (j s n : ℕ) → unwrap_or (find (λ k. not (leb (f k) j)) (range_with_len s n)) (s + n) ≡ s + run_of (map f (range_with_len s n)) j
run_found f j s zero = refl
run_found f j s (suc n) = at (leb (f s) j) (run_found f j (s + 1) n)
  where
    at : (t : Bool) → unwrap_or (find (λ k. not (leb (f k) j)) (range_with_len (s + 1) n)) (s + 1 + n) ≡ s + 1 + run_of (map f (range_with_len (s + 1) n)) j
        → unwrap_or (cond (not t) (Some s) (find (λ k. not (leb (f k) j)) (range_with_len (s + 1) n))) (s + suc n) ≡ s + cond t (1 + run_of (map f (range_with_len (s + 1) n)) j) 0
    at true e =
        let z : s + suc n ≡ s + 1 + n = omega arith in
        let m : s + 1 + run_of (map f (range_with_len (s + 1) n)) j ≡ s + (1 + run_of (map f (range_with_len (s + 1) n)) j) = omega arith in
        ap (unwrap_or (find (λ k. not (leb (f k) j)) (range_with_len (s + 1) n))) z ∙ e ∙ m
    at false e = omega arith

pub run_first : (f : ℕ → ℕ) (j n : ℕ) → unwrap_or (find (λ k. not (leb (f k) j)) (range_with_len 0 n)) n ≡ run_of (map f (range_with_len 0 n)) j
run_first f j n =
    let z : n ≡ 0 + n = omega arith in
    let m : 0 + run_of (map f (range_with_len 0 n)) j ≡ run_of (map f (range_with_len 0 n)) j = omega arith in
    ap (unwrap_or (find (λ k. not (leb (f k) j)) (range_with_len 0 n))) z ∙ run_found f j 0 n ∙ m

-- a read at a row of a record that keeps its rules
width_low : (w : ℕ) (ws : List ℕ) → AllByRecursion (λ x. x ≤ 8) ws → one_of w ws ≡ true → w ≤ 8
width_low w [] a h = no_way h
width_low w (x ∷ ws) a h = go (eqb w x) refl h (width_low w ws a.1)
  where
    go : (t : Bool) → eqb w x ≡ t → cond t true (one_of w ws) ≡ true → (one_of w ws ≡ true → w ≤ 8) → w ≤ 8
    go true e h f = let z = eqb-true w x e in omega (arith, a.0)
    go false e h f = f h

of_kind : (n : ℕ) (K : Kind) (r : Record) → r.kind ≡ n → kind_of n ≡ K → kind_of r.kind ≡ K
of_kind n K r e f = ap kind_of e ∙ f

pub readable : (bs : List ℕ) (r : Record) (ks : List Record) → all_of (record_rules bs r ks) ≡ true → (i : ℕ) → i < r.length → Readable bs r (r.start + i)
readable bs r ks h i l =
    let t = all_of_lem (record_rules bs r ks) h in
    let b : r.start + i < end_of r = omega arith in
    record {
      low = b;
      small = leb-true (end_of r) 4294967295 t.1.0;
      valid = t.1.1.0;
      flat = λ e. in_room r.a r.width (end_of r) (r.start + i) (length bs) (says 1 flat e refl) b;
      bits = λ e. let s = says 2 bits e refl in omega arith;
      narrow = λ e. width_low r.width (4 ∷ 8 ∷ []) (omega arith, (omega arith, tt)) (all_of_lem (kind_rules bs r ks bytes) (ruled 3 bytes e refl)).0;
      first = λ e. let s = says 3 bytes e refl in in_room r.a r.width (end_of r + 1) (r.start + i) (length bs) s.0.fits (omega arith);
      second = λ e. let s = says 3 bytes e refl in in_room r.a r.width (end_of r + 1) (r.start + i + 1) (length bs) s.0.fits (omega arith);
      up = λ e. let s = says 3 bytes e refl in s.0.steps (r.start + i) (omega arith) b;
      text = λ e. let s = says 3 bytes e refl in let u = s.0.below (r.start + i + 1) (omega arith) (omega arith) in omega (arith, s.1);
      thin = λ e. width_low r.width (1 ∷ 2 ∷ 4 ∷ 8 ∷ []) (omega arith, (omega arith, (omega arith, (omega arith, tt)))) (all_of_lem (kind_rules bs r ks dictionary) (ruled 4 dictionary e refl)).0;
      key = λ e. let s = says 4 dictionary e refl in in_room r.a r.width (end_of r) (r.start + i) (length bs) s.0 b;
      slim = λ e. width_low r.width (2 ∷ 4 ∷ 8 ∷ []) (omega arith, (omega arith, (omega arith, tt))) (all_of_lem (kind_rules bs r ks runs) (ruled 9 runs e refl)).0;
      ends = λ e. let s = says 9 runs e refl in s.0;
    }
  where
    says : (n : ℕ) (K : Kind) → r.kind ≡ n → kind_of n ≡ K → Says K bs r ks
    says n K e f = subst (λ k. Says k bs r ks) (of_kind n K r e f) (facts bs r ks h)

    ruled : (n : ℕ) (K : Kind) → r.kind ≡ n → kind_of n ≡ K → all_of (kind_rules bs r ks K) ≡ true
    ruled n K e f = subst (λ k. all_of (kind_rules bs r ks k) ≡ true) (of_kind n K r e f) (all_of_lem (record_rules bs r ks) h).1.1.1.0

-- the one child is the record after its parent
pub lone_next : (rs : List Record) (p : ℕ) (k : Record) → children_at rs p ≡ k ∷ [] → (k ≡ rec_at rs (p + 1)) × (p + 1 < p + (rec_at rs p).span)
lone_next rs p k = go (rec_at rs p).span
  where
    go : (s : ℕ) → trees_from s rs (p + 1) (p + s) ≡ k ∷ [] → (k ≡ rec_at rs (p + 1)) × (p + 1 < p + s)
    go zero e = cc
    go (suc m) e = at (ltb (p + 1) (p + suc m)) refl e
      where
        at : (t : Bool) → ltb (p + 1) (p + suc m) ≡ t → cond t (rec_at rs (p + 1) ∷ trees_from m rs (p + 1 + (rec_at rs (p + 1)).span) (p + suc m)) [] ≡ k ∷ []
            → (k ≡ rec_at rs (p + 1)) × (p + 1 < p + suc m)
        at true t e = (cc, ltb-true (p + 1) (p + suc m) t)
        at false t e = cc

-- the next step of the way: the row of the child
pub record Onward (bs : List ℕ) (rs : List Record) (p i k : ℕ) : Type 0 where
  pub next : p + 1 < p + (rec_at rs p).span
  pub low : k < (rec_at rs (p + 1)).length
  pub same : found bs (drop p rs) i ≡ found bs (drop (p + 1) rs) k

here_child : (h : Held) (k : ℕ) → here h ≡ child k → ⊥
here_child h k e = cc

module _ (bs : List ℕ) (rs : List Record) (p : ℕ) (in' : p < length rs) (ok : ruled_at bs rs p ≡ true) (i : ℕ) (l : i < (rec_at rs p).length) where
  abbrev r : Record
  r = rec_at rs p

  abbrev j : ℕ
  j = (rec_at rs p).start + i

  found_turn : found bs (drop p rs) i ≡ cond (is_null bs r j) absent (found_at bs r (kind_of r.kind) (found bs (drop (p + 1) rs)) j)
  found_turn = ap (λ x. found bs x i) (drop_more rs p nothing in')

  by_kind : (K : Kind) → Says K bs r (children_at rs p) → is_null bs r j ≡ false → (k : ℕ) → step_at bs r K j ≡ child k
      → (p + 1 < p + r.span) × (k < (rec_at rs (p + 1)).length) × (found_at bs r K (found bs (drop (p + 1) rs)) j ≡ found bs (drop (p + 1) rs) k)
  by_kind flat s v k e = cc
  by_kind bits s v k e = cc
  by_kind bytes s v k e = cc
  by_kind dictionary s v k e =
      let c = s.1 in
      let n = lone_next rs p c.child c.alone in
      let z : number bs r j ≡ k = cc in
      let q = c.holds j (omega arith) (omega arith) v in
      (n.1, rw (← z) (subst (λ x. number bs r j < x.length) n.0 q), ap (found bs (drop (p + 1) rs)) z)
  by_kind list s v k e = cc
  by_kind structs s v k e = cc
  by_kind runs s v k e =
      let c = s.3 in
      let n = lone_next rs p c.child c.alone in
      let z : run_of (ends_of bs r) j ≡ k = cc in
      let t = run_below 0 j (ends_of bs r) s.1 (omega arith) (omega (arith, s.2)) in
      let m = length-map-range_with_len (number bs r) 0 r.count in
      let q : run_of (ends_of bs r) j < c.child.length = omega (arith, c.holds) in
      (n.1, rw (← z) (subst (λ x. run_of (ends_of bs r) j < x.length) n.0 q), ap (found bs (drop (p + 1) rs)) z)
  by_kind other s v k e = cc

  pub onward : (k : ℕ) → step bs r j ≡ child k → Onward bs rs p i k
  onward k e = go (is_null bs r j) refl e
    where
      go : (t : Bool) → is_null bs r j ≡ t → cond t (here held.no_value) (step_at bs r (kind_of r.kind) j) ≡ child k → Onward bs rs p i k
      go true t e = absurd (here_child _ k e)
      go false t e =
          let b = by_kind (kind_of r.kind) (facts bs r (children_at rs p) ok) t k e in
          record { next = b.0; low = b.1; same = found_turn ∙ ap (λ u. cond u absent (found_at bs r (kind_of r.kind) (found bs (drop (p + 1) rs)) j)) t ∙ b.2 }

  at_here : (K : Kind) (h : Held) → step_at bs r K j ≡ here h → shown bs (found_at bs r K (found bs (drop (p + 1) rs)) j) ≡ h
  at_here flat h e = cc
  at_here bits h e = cc
  at_here bytes h e = cc
  at_here dictionary h e = cc
  at_here list h e = cc
  at_here structs h e = cc
  at_here runs h e = cc
  at_here other h e = cc

  pub arrived : (h : Held) → step bs r j ≡ here h → shown bs (found bs (drop p rs) i) ≡ h
  arrived h e = ap (shown bs) found_turn ∙ go (is_null bs r j) e
    where
      go : (t : Bool) → cond t (here held.no_value) (step_at bs r (kind_of r.kind) j) ≡ here h
          → shown bs (cond t absent (found_at bs r (kind_of r.kind) (found bs (drop (p + 1) rs)) j)) ≡ h
      go true e = cc
      go false e = at_here (kind_of r.kind) h e

-- a record of a well-formed column
pub ruled_in : (bs : List ℕ) (rs : List Record) (q p : ℕ) → WellFormed bs rs q → q ≤ p → p < q + (rec_at rs q).span
    → (ruled_at bs rs p ≡ true) × (p + (rec_at rs p).span ≤ q + (rec_at rs q).span)
ruled_in bs rs q p w a b =
    let k = right bs rs q w in
    let z : q + (p - q) ≡ p = omega arith in (
      subst (λ x. ruled_at bs rs x ≡ true) z (k.each (p - q) (omega arith)),
      subst (λ x. x + (rec_at rs x).span ≤ q + (rec_at rs q).span) z (k.ends (p - q) (omega arith)),
    )

-- the records of a slice from q on
pub item : (rs : List Record) (q k : ℕ) → get_or (take (length rs - q) (drop q rs)) k nothing ≡ rec_at rs (q + k)
item rs q k = ap (λ l. get_or l k nothing) (take_all (length rs - q) (drop q rs) (omega (arith, length-drop q rs))) ∙ get_or-drop q rs k nothing

-- the way from a row of a well-formed column has come to row i of the record k after its first
pub record Way (bs : List ℕ) (rs : List Record) (q row k i : ℕ) : Type 0 where
  pub same : found bs (drop (q + k) rs) i ≡ found bs (drop q rs) row
  pub low : i < (rec_at rs (q + k)).length
  pub inside : k < (rec_at rs q).span

module _ (bs : List ℕ) (rs : List Record) (q : ℕ) (w : WellFormed bs rs q) (row : ℕ) where
  pub way_starts : row < (rec_at rs q).length → Way bs rs q row 0 row
  way_starts l =
      let z : q + 0 ≡ q = omega arith in
      record { same = ap (λ p. found bs (drop p rs) row) z; low = rw z l; inside = omega (arith, (right bs rs q w).head.some) }

  module _ (k i : ℕ) (a : Way bs rs q row k i) where
    ruled : (ruled_at bs rs (q + k) ≡ true) × (q + k + (rec_at rs (q + k)).span ≤ q + (rec_at rs q).span)
    ruled = ruled_in bs rs q (q + k) w (omega arith) (omega (arith, a.inside))

    there : q + k < length rs
    there = omega (arith, (right bs rs q w).inside, a.inside)

    pub way_reads : Readable bs (rec_at rs (q + k)) ((rec_at rs (q + k)).start + i)
    way_reads = readable bs (rec_at rs (q + k)) (children_at rs (q + k)) ruled.0 i a.low

    pub way_ends : (h : Held) → step bs (rec_at rs (q + k)) ((rec_at rs (q + k)).start + i) ≡ here h → shown bs (found bs (drop q rs) row) ≡ h
    way_ends h e = ap (shown bs) (sym a.same) ∙ arrived bs rs (q + k) there ruled.0 i a.low h e

    pub way_goes : (n : ℕ) → step bs (rec_at rs (q + k)) ((rec_at rs (q + k)).start + i) ≡ child n → Way bs rs q row (k + 1) n
    way_goes n e =
        let o = onward bs rs (q + k) there ruled.0 i a.low n e in
        let z : q + k + 1 ≡ q + (k + 1) = omega arith in
        record {
          same = ap (λ p. found bs (drop p rs) n) (sym z) ∙ sym o.same ∙ a.same;
          low = rw (← z) o.low;
          inside = omega (arith, o.next, ruled.1);
        }
