-- Interning any values, by any sameness and any bucket.
use Rattle.std.proofs.Common.{◌≡◌, ℕ, zero, suc, ◌+◌, ◌-◌, ◌<◌, ◌≤◌, Bool, true, false, cond, eqb, List, [], ◌∷◌, reverse, length, get_or, take, Some, None, Option, sym, refl, ap, ◌∙◌, subst, inl, inr, arith}
use mathlib.Core.List.{reverse_aux}
use Rattle.std.specs.List.{ContainsAt as Has, AllByRecursion}
use Rattle.std.proofs.lemmas.Bool.{eqb-true, eqb-false, both_ways, cases_lt, cond_both}
use Rattle.std.proofs.ByRecursion.{All-get_or, all_has_itself}
use Rattle.std.proofs.lemmas.List.{length-reverse, get_or-reverse}
use Rattle.std.proofs.lemmas.Bool.Decides.{same_from_decides}
use Rattle.interning.specs.Values.{Sameness}
use Rattle.interning.specs.Interning.{last_in, number_in, differs, is_new, number_of, entries_with, numbers_of, entries_after}
use Rattle.interning.specs.Promises.{Separates, Interned}

-- entry number n, where the newest entry stands first; by `get_or-reverse`, the element at n of their reverse
abbrev pub entry : {V : Type 0} → List V → ℕ → V → V
entry es n d = get_or es (length es - 1 - n) d

-- one more entry leaves the others their numbers
entry_kept : {V : Type 0} (v : V) (es : List V) (n : ℕ) (d : V) → n < length es → entry (v ∷ es) n d ≡ entry es n d
entry_kept v es n d l = let e : suc (length es) - 1 - n ≡ suc (length es - 1 - n) = omega arith in ap (λ k. get_or (v ∷ es) k d) e

-- and has the next number
entry_new : {V : Type 0} (v : V) (es : List V) (d : V) → entry (v ∷ es) (length es) d ≡ v
entry_new v es d = let e : suc (length es) - 1 - length es ≡ 0 = omega arith in ap (λ k. get_or (v ∷ es) k d) e

module _ {V : Type 0} (same : V → V → Bool) (bucket : V → ℕ) where
  -- every value has a number
  pub length-numbers : (vs es : List V) → length (numbers_of same bucket vs es) ≡ length vs
  length-numbers [] es = refl
  length-numbers (v ∷ vs) es = ap suc (length-numbers vs (entries_with same bucket v es))

  -- a value makes one entry at most
  step_few : (v : V) (es : List V) → length (entries_with same bucket v es) ≤ suc (length es)
  step_few v es = cond_both (is_new same bucket v es) (v ∷ es) es (λ x. length x ≤ suc (length es)) (λ _. omega arith) (λ _. omega arith)

  -- so values make no more entries than they are
  pub run_few : (vs es : List V) → length (entries_after same bucket vs es) ≤ length es + length vs
  run_few [] es = omega arith
  run_few (v ∷ vs) es = let r = run_few vs (entries_with same bucket v es) in omega (arith, step_few v es)

  -- a value leaves the entries there are their numbers
  step_kept : (v : V) (es : List V) (n : ℕ) (d : V) → n < length es
      → (n < length (entries_with same bucket v es)) × (entry (entries_with same bucket v es) n d ≡ entry es n d)
  step_kept v es n d l =
      cond_both (is_new same bucket v es) (v ∷ es) es (λ x. (n < length x) × (entry x n d ≡ entry es n d))
      (λ _. (omega arith, entry_kept v es n d l)) (λ _. (l, refl))

  -- and so do values one after another
  pub run_kept : (vs es : List V) (n : ℕ) (d : V) → n < length es
      → (n < length (entries_after same bucket vs es)) × (entry (entries_after same bucket vs es) n d ≡ entry es n d)
  run_kept [] es n d l = (l, refl)
  run_kept (v ∷ vs) es n d l =
      let s = step_kept v es n d l in
      let r = run_kept vs (entries_with same bucket v es) n d s.0 in
      (r.0, r.1 ∙ s.1)

  -- the last entry of a bucket is the one at its number
  last_right : (b : ℕ) (es : List V) (e d : V) → last_in bucket b es ≡ Some e
      → (number_in bucket b es < length es) × (entry es (number_in bucket b es) d ≡ e)
  last_right b [] e d h = absurd cc
  last_right b (x ∷ es) e d h = go (eqb (bucket x) b) h (last_right b es e d)
    where
      go : (t : Bool) → cond t (Some x) (last_in bucket b es) ≡ Some e
          → (last_in bucket b es ≡ Some e → (number_in bucket b es < length es) × (entry es (number_in bucket b es) d ≡ e))
          → (cond t (length es) (number_in bucket b es) < suc (length es)) × (entry (x ∷ es) (cond t (length es) (number_in bucket b es)) d ≡ e)
      go true h ih = (omega arith, entry_new x es d ∙ cc)
      go false h ih = let r = ih h in (omega arith, entry_kept x es (number_in bucket b es) d r.0 ∙ r.1)

  module _ (laws : Sameness same) where
    -- a value's number is an entry's, and that entry is the same value
    pub number_right : (v : V) (es : List V) (d : V)
        → (number_of same bucket v es < length (entries_with same bucket v es))
        × (same (entry (entries_with same bucket v es) (number_of same bucket v es) d) v ≡ true)
    number_right v es d = go (last_in bucket (bucket v) es) refl
      where
        Right : Bool → Type 0
        Right t =
            (cond t (length es) (number_in bucket (bucket v) es) < length (cond t (v ∷ es) es))
            × (same (entry (cond t (v ∷ es) es) (cond t (length es) (number_in bucket (bucket v) es)) d) v ≡ true)

        new : Right true
        new = (omega arith, ap (λ x. same x v) (entry_new v es d) ∙ laws.reflexive v)

        go : (o : Option V) → last_in bucket (bucket v) es ≡ o → Right (differs same v o)
        go None h = new
        go (Some e) h = on (same e v) refl
          where
            on : (t : Bool) → same e v ≡ t → Right (cond t false true)
            on true t = let r = last_right (bucket v) es e d h in (r.0, ap (λ x. same x v) r.1 ∙ t)
            on false t = new

    -- the same for values one after another
    pub numbers_right : (vs es : List V) (i : ℕ) (d : V) → i < length vs
        → (get_or (numbers_of same bucket vs es) i 0 < length (entries_after same bucket vs es))
        × (same (entry (entries_after same bucket vs es) (get_or (numbers_of same bucket vs es) i 0) d) (get_or vs i d) ≡ true)
    numbers_right [] es i d l = absurd (omega arith)
    numbers_right (v ∷ vs) es zero d l =
        let s = number_right v es d in
        let r = run_kept vs (entries_with same bucket v es) (number_of same bucket v es) d s.0 in
        (r.0, ap (λ x. same x v) r.1 ∙ s.1)
    numbers_right (v ∷ vs) es (suc i) d l = numbers_right vs (entries_with same bucket v es) i d (omega arith)

    -- an entry that a value made has its number, and is that value
    step_first : (v : V) (es : List V) (n : ℕ) (d : V) → length es ≤ n → n < length (entries_with same bucket v es)
        → (number_of same bucket v es ≡ n) × (entry (entries_with same bucket v es) n d ≡ v)
    step_first v es n d l b = go (is_new same bucket v es) b
      where
        go : (t : Bool) → n < length (cond t (v ∷ es) es)
            → (cond t (length es) (number_in bucket (bucket v) es) ≡ n) × (entry (cond t (v ∷ es) es) n d ≡ v)
        go true b = let e : length es ≡ n = omega arith in (e, ap (λ k. entry (v ∷ es) k d) (sym e) ∙ entry_new v es d)
        go false b = absurd (omega arith)

    -- value i is the first with number n, and entry n is that value
    abbrev First : List V → List V → ℕ → V → ℕ → Type 0
    First vs es n d i =
        (i < length vs) × (get_or (numbers_of same bucket vs es) i 0 ≡ n) × (entry (entries_after same bucket vs es) n d ≡ get_or vs i d)
        × ((k : ℕ) → k < i → get_or (numbers_of same bucket vs es) k 0 < n)

    -- every entry that some values made has such a first value
    pub run_first : (vs es : List V) (n : ℕ) (d : V) → length es ≤ n → n < length (entries_after same bucket vs es) → (i : ℕ) × First vs es n d i
    run_first [] es n d l b = absurd (omega arith)
    run_first (v ∷ vs) es n d l b =
        let fs : List V = entries_with same bucket v es in
        elim (cases_lt n (length fs)) [ inl x ↦ here x | inr x ↦ later x (run_first vs fs n d x b) ]
      where
        here : n < length (entries_with same bucket v es) → (i : ℕ) × First (v ∷ vs) es n d i
        here x =
            let s = step_first v es n d l x in
            (0, (omega arith, s.0, (run_kept vs (entries_with same bucket v es) n d x).1 ∙ s.1, λ k z. absurd (omega arith)))

        later : length (entries_with same bucket v es) ≤ n → (i : ℕ) × First vs (entries_with same bucket v es) n d i → (i : ℕ) × First (v ∷ vs) es n d i
        later x r = (suc r.0, (omega (arith, r.1.0), r.1.1, r.1.2, before))
          where
            before : (k : ℕ) → k < suc r.0 → get_or (numbers_of same bucket (v ∷ vs) es) k 0 < n
            before zero z = omega (arith, (number_right v es d).0)
            before (suc k) z = r.1.3 k (omega arith)

    -- both buckets are empty, or they hold values that are the same
    abbrev Alike : Option V → Option V → Type 0
    Alike None None = Unit {0}
    Alike None (Some y) = ⊥
    Alike (Some x) None = ⊥
    Alike (Some x) (Some y) = same x y ≡ true

    -- values that are the same are the same as, or differ from, a third
    same_both : (x y v : V) → same x y ≡ true → same x v ≡ same y v
    same_both x y v e =
        same_from_decides {P = same x v ≡ true} (same x v) (same y v) (λ h. h, λ h. h)
        (λ h. laws.transitive x y v e h, λ h. laws.transitive y x v (laws.symmetric x y e) h)

    -- where buckets are alike, a value differs from both or from neither
    differs_alike : (v : V) (o p : Option V) → Alike o p → differs same v o ≡ differs same v p
    differs_alike v None None h = refl
    differs_alike v None (Some y) h = absurd h
    differs_alike v (Some x) None h = absurd h
    differs_alike v (Some x) (Some y) h = ap (λ t. cond t false true) (same_both x y v h)

    -- buckets stay alike where the same value is added to both or to neither
    alike_new : (t : Bool) (v : V) (o p : Option V) → Alike o p → Alike (cond t (Some v) o) (cond t (Some v) p)
    alike_new true v o p h = laws.reflexive v
    alike_new false v o p h = h

    -- the entries es hold in each bucket what the values us, newest first, hold there
    abbrev Follow : List V → List V → Type 0
    Follow us es = (b : ℕ) → Alike (last_in bucket b us) (last_in bucket b es)

    -- they still do after one more value
    step_follow : (v : V) (us es : List V) → Follow us es → Follow (v ∷ us) (entries_with same bucket v es)
    step_follow v us es h b = go (last_in bucket (bucket v) es) refl
      where
        Left : Bool → Type 0
        Left t = Alike (last_in bucket b (v ∷ us)) (last_in bucket b (cond t (v ∷ es) es))

        new : Left true
        new = alike_new (eqb (bucket v) b) v (last_in bucket b us) (last_in bucket b es) (h b)

        old : (e : V) → last_in bucket (bucket v) es ≡ Some e → same e v ≡ true → (t : Bool) → eqb (bucket v) b ≡ t
            → Alike (cond t (Some v) (last_in bucket b us)) (last_in bucket b es)
        old e k s true t =
            let l : last_in bucket b es ≡ Some e = ap (λ n. last_in bucket n es) (sym (eqb-true (bucket v) b t)) ∙ k in
            subst (λ o. Alike (Some v) o) (sym l) (laws.symmetric e v s)
        old e k s false t = h b

        go : (o : Option V) → last_in bucket (bucket v) es ≡ o → Left (differs same v o)
        go None k = new
        go (Some e) k = on (same e v) refl
          where
            on : (t : Bool) → same e v ≡ t → Left (cond t false true)
            on true s = old e k s (eqb (bucket v) b) refl
            on false s = new

    -- and after values one after another
    run_follow : (vs us es : List V) → Follow us es → Follow (reverse_aux vs us) (entries_after same bucket vs es)
    run_follow [] us es h = h
    run_follow (v ∷ vs) us es h = run_follow vs (v ∷ us) (entries_with same bucket v es) (step_follow v us es h)

    -- whether a value is new is read off the values before it
    pub new_follow : (v : V) (vs : List V) → is_new same bucket v (entries_after same bucket vs []) ≡ is_new same bucket v (reverse vs)
    new_follow v vs =
        let b : ℕ = bucket v in
        sym (differs_alike v (last_in bucket b (reverse vs)) (last_in bucket b (entries_after same bucket vs [])) (run_follow vs [] [] (λ b. tt) b))

    -- no two of some entries are the same
    abbrev Apart : List V → Type 0
    Apart [] = Unit {0}
    Apart (e ∷ es) = AllByRecursion (λ x. same x e ≡ false) es × Apart es

    -- so entries at two places are not
    apart_at : (es : List V) (i j : ℕ) (d : V) → Apart es → i < j → j < length es → same (get_or es j d) (get_or es i d) ≡ false
    apart_at [] i j d a l b = absurd (omega arith)
    apart_at (e ∷ es) i zero d a l b = absurd (omega arith)
    apart_at (e ∷ es) zero (suc j) d a l b = All-get_or (λ x. same x e ≡ false) es j d (omega arith) a.0
    apart_at (e ∷ es) (suc i) (suc j) d a l b = apart_at es i j d a.1 (omega arith) (omega arith)

    module _ (U : V → Type 0) (shares : (a b : V) → U a → U b → same a b ≡ true → bucket a ≡ bucket b)
        (parts : (a b : V) → U a → U b → bucket a ≡ bucket b → same a b ≡ true) where
      -- where different values have different buckets, a new value is the same as no entry
      step_apart : (v : V) (es : List V) → U v → AllByRecursion U es → is_new same bucket v es ≡ true → AllByRecursion (λ x. same x v ≡ false) es
      step_apart v [] u us h = tt
      step_apart v (x ∷ es) u us h = go (eqb (bucket x) (bucket v)) refl h (step_apart v es u us.1)
        where
          no : (t : Bool) → eqb (bucket x) (bucket v) ≡ false → same x v ≡ t → t ≡ false
          no true e s = absurd (eqb-false (bucket x) (bucket v) e (shares x v us.0 u s))
          no false e s = refl

          go : (t : Bool) → eqb (bucket x) (bucket v) ≡ t → differs same v (cond t (Some x) (last_in bucket (bucket v) es)) ≡ true
              → (is_new same bucket v es ≡ true → AllByRecursion (λ x. same x v ≡ false) es) → (same x v ≡ false) × AllByRecursion (λ x. same x v ≡ false) es
          go true t h ih =
              let s = parts x v us.0 u (eqb-true (bucket x) (bucket v) t) in
              absurd (both_ways (cond (same x v) false true) (ap (λ c. cond c false true) s) h)
          go false t h ih = (no (same x v) t refl, ih h)

      -- so entries stay apart
      run_apart : (vs es : List V) → AllByRecursion U vs → AllByRecursion U es → Apart es → Apart (entries_after same bucket vs es)
      run_apart [] es us ue a = a
      run_apart (v ∷ vs) es us ue a = go (is_new same bucket v es) refl (run_apart vs)
        where
          go : (t : Bool) → is_new same bucket v es ≡ t → ((fs : List V) → AllByRecursion U vs → AllByRecursion U fs → Apart fs → Apart (entries_after same bucket vs fs))
              → Apart (entries_after same bucket vs (cond t (v ∷ es) es))
          go true t ih = ih (v ∷ es) us.1 (us.0, ue) (step_apart v es us.0 ue t, a)
          go false t ih = ih es us.1 ue a

    -- entries are apart where the values are separated by their buckets
    separated : (vs : List V) → Separates same bucket vs → Apart (entries_after same bucket vs [])
    separated vs s = run_apart (Has vs) shares parts vs [] (all_has_itself vs) tt tt
      where
        shares : (a b : V) → Has vs a → Has vs b → same a b ≡ true → bucket a ≡ bucket b
        shares a b x y h =
            let p = x.2 a in
            let q = y.2 a in
            let k : same (get_or vs x.0 a) (get_or vs y.0 a) ≡ true = cc in
            let r = s.shares x.0 y.0 a x.1 y.1 k in
            cc

        parts : (a b : V) → Has vs a → Has vs b → bucket a ≡ bucket b → same a b ≡ true
        parts a b x y h =
            let p = x.2 a in
            let q = y.2 a in
            let k : bucket (get_or vs x.0 a) ≡ bucket (get_or vs y.0 a) = cc in
            let r = s.parts x.0 y.0 a x.1 y.1 k in
            cc

    -- all that Interned says
    pub interned : (vs : List V) → Interned same bucket vs
    interned vs =
        record {
          numbered = length-numbers vs [];
          below = λ i l. rw length-reverse (numbers_right vs [] i (head vs l) l).0;
          right = λ i d l. let r = numbers_right vs [] i d l in ap (λ x. same x (get_or vs i d)) (get_or-reverse es _ d r.0) ∙ r.1;
          first = λ n d l. first n d (rw length-reverse at l);
          few = rw length-reverse (omega (arith, run_few vs []));
          fresh = λ i d l. new_follow (get_or vs i d) (take i vs);
          apart = λ s m n d l b. apart (separated vs s) m n d l (rw length-reverse at b);
        }
      where
        es : List V
        es = entries_after same bucket vs []

        head : (vs : List V) {i : ℕ} → i < length vs → V
        head [] l = absurd (omega arith)
        head (v ∷ vs) l = v

        first : (n : ℕ) (d : V) → n < length es
            → (i : ℕ) × (i < length vs) × (get_or (numbers_of same bucket vs []) i 0 ≡ n) × (get_or (reverse es) n d ≡ get_or vs i d)
            × ((k : ℕ) → k < i → get_or (numbers_of same bucket vs []) k 0 < n)
        first n d l = let r = run_first vs [] n d (omega arith) l in (r.0, r.1.0, r.1.1, get_or-reverse es n d l ∙ r.1.2, r.1.3)

        apart : Apart es → (m n : ℕ) (d : V) → m < n → n < length es → same (get_or (reverse es) m d) (get_or (reverse es) n d) ≡ false
        apart a m n d l b =
            let p = get_or-reverse es m d (omega arith) in
            let q = get_or-reverse es n d b in
            let r = apart_at es (length es - 1 - n) (length es - 1 - m) d a (omega arith) (omega arith) in
            cc
