-- Loops that test one thing after another.
use Rattle.std.proofs.Common.{◌≡◌, ℕ, zero, suc, ◌+◌, ◌-◌, ◌<◌, ◌≤◌, Bool, true, false, cond, ◌&&◌, leb, List, [], ◌∷◌, not, Some, sym, refl, ap, ◌∙◌, arith}
use Rattle.std.specs.List.{range_with_len, find, list_all}
use Rattle.std.proofs.lemmas.Bool.{lt-ltb, le-ltb, leb-true}
use Rattle.records.specs.declared.record.Record.{Record}
use Rattle.format.specs.Trees.{rec_at}
use Rattle.format.specs.Rules.{both, every, first_not}
use Rattle.format.proofs.Tests.{sub_true}
use Rattle.column_check.specs.Tests.{walk}

counted : (j n : ℕ) → 0 < n → range_with_len j n ≡ j ∷ range_with_len (j + 1) (n - 1)
counted j zero h = absurd (omega arith)
counted j (suc n) h = let e : suc n - 1 ≡ n = omega arith in ap (λ m. j ∷ range_with_len (j + 1) m) (sym e)

pub turn_at : (k n : ℕ) → k < n → range_with_len k (n - k) ≡ k ∷ range_with_len (k + 1) (n - (k + 1))
turn_at k n h = let e : n - k - 1 ≡ n - (k + 1) = omega arith in counted k (n - k) (omega arith) ∙ ap (λ m. k ∷ range_with_len (k + 1) m) e

-- trees from k up to e are walked in n turns at most
pub record Walks (f : Record → Bool) (rs : List Record) (k e : ℕ) (want : Bool) : Type 0 where
  pub turns : ℕ
  pub low : k ≤ e
  pub enough : e - k ≤ turns
  pub leads : walk turns f rs k e ≡ want

abbrev test : (Record → Bool) → List Record → ℕ → ℕ → Bool
test f rs k e = both (leb 1 (rec_at rs k).span) (both (leb (k + (rec_at rs k).span) e) (f (rec_at rs k)))

walk_turn : (n : ℕ) (f : Record → Bool) (rs : List Record) (k e : ℕ) → k < e
    → walk (suc n) f rs k e ≡ both (test f rs k e) (walk n f rs (k + (rec_at rs k).span) e)
walk_turn n f rs k e lt =
    let rest = walk n f rs (k + (rec_at rs k).span) e in
    ap (λ b. cond b (both (leb 1 (rec_at rs k).span) (both (leb (k + (rec_at rs k).span) e) (both (f (rec_at rs k)) rest))) true) (lt-ltb k e lt)
    ∙ group (leb 1 (rec_at rs k).span) (leb (k + (rec_at rs k).span) e) (f (rec_at rs k)) rest
  where
    group : (a b c d : Bool) → both a (both b (both c d)) ≡ both (both a (both b c)) d
    group true true c d = refl
    group true false c d = refl
    group false b c d = refl

pub walk_more : (f : Record → Bool) (rs : List Record) (k e : ℕ) (want : Bool) → Walks f rs k e want → k < e
    → test f rs k e ≡ true → Walks f rs (k + (rec_at rs k).span) e want
walk_more f rs k e want w lt t = go w.turns w.enough w.leads
  where
    parts : (leb 1 (rec_at rs k).span ≡ true) × (leb (k + (rec_at rs k).span) e ≡ true) × (f (rec_at rs k) ≡ true)
    parts =
        let a = sub_true (leb 1 (rec_at rs k).span) (both (leb (k + (rec_at rs k).span) e) (f (rec_at rs k))) t in
        let b = sub_true (leb (k + (rec_at rs k).span) e) (f (rec_at rs k)) a.1 in
        (a.0, b.0, b.1)

    go : (n : ℕ) → e - k ≤ n → walk n f rs k e ≡ want → Walks f rs (k + (rec_at rs k).span) e want
    go zero h q = absurd (omega arith)
    go (suc n) h q =
        record {
          turns = n;
          low = leb-true (k + (rec_at rs k).span) e parts.1;
          enough = omega (arith, leb-true 1 (rec_at rs k).span parts.0);
          leads = sym (walk_turn n f rs k e lt ∙ ap (λ b. both b (walk n f rs (k + (rec_at rs k).span) e)) t) ∙ q;
        }

pub walk_stop : (f : Record → Bool) (rs : List Record) (k e : ℕ) (want : Bool) → Walks f rs k e want → k < e
    → test f rs k e ≡ false → false ≡ want
walk_stop f rs k e want w lt t = go w.turns w.enough w.leads
  where
    go : (n : ℕ) → e - k ≤ n → walk n f rs k e ≡ want → false ≡ want
    go zero h q = absurd (omega arith)
    go (suc n) h q = sym (walk_turn n f rs k e lt ∙ ap (λ b. both b (walk n f rs (k + (rec_at rs k).span) e)) t) ∙ q

pub walk_done : (f : Record → Bool) (rs : List Record) (k e : ℕ) (want : Bool) → Walks f rs k e want → e ≤ k → true ≡ want
walk_done f rs k e want w le = go w.turns w.leads
  where
    go : (n : ℕ) → walk n f rs k e ≡ want → true ≡ want
    go zero q = q
    go (suc n) q = sym (ap (λ b. cond b (both (leb 1 (rec_at rs k).span) (both (leb (k + (rec_at rs k).span) e) (both (f (rec_at rs k)) (walk n f rs (k + (rec_at rs k).span) e)))) true) (le-ltb k e le)) ∙ q

-- the first that fails is the first of which the opposite holds
pub first_found : (f : ℕ → Bool) (xs : List ℕ) → find (λ x. not (f x)) xs ≡ first_not f xs
first_found f [] = refl
first_found f (x ∷ xs) = go (f x) (first_found f xs)
  where
    go : (t : Bool) → find (λ x. not (f x)) xs ≡ first_not f xs → cond (not t) (Some x) (find (λ x. not (f x)) xs) ≡ cond t (first_not f xs) (Some x)
    go true e = e
    go false e = refl

pub list_all-every : {X : Type 0} (f : X → Bool) (xs : List X) → list_all f xs ≡ every f xs
list_all-every f [] = refl
list_all-every f (x ∷ xs) = go (f x) (list_all-every f xs)
  where
    go : (t : Bool) → list_all f xs ≡ every f xs → (t && list_all f xs) ≡ both t (every f xs)
    go true e = e
    go false e = refl
