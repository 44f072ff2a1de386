-- Tests over lists and over ranges of numbers.
use Rattle.std.proofs.Common.{◌≡◌, ℕ, zero, suc, ◌+◌, ◌-◌, ◌<◌, ◌≤◌, Bool, true, false, cond, List, [], ◌∷◌, map, Some, None, Option, sym, refl, ap, add-zero, arith}
use Rattle.std.specs.List.{AllByRecursion, range_with_len}
use Rattle.format.specs.Rules.{both, all_of, every, first_not}

pub no_way : {A : Type 0} → false ≡ true → A
no_way e = absurd (cc)

pub sub_true : (x y : Bool) → both x y ≡ true → (x ≡ true) × (y ≡ true)
sub_true true y h = (refl, h)
sub_true false y h = no_way h

pub both_true : (a b : Bool) → a ≡ true → b ≡ true → both a b ≡ true
both_true a b e f = rw (e, f)

-- two tests that imply each other are equal
pub same_test : (a b : Bool) → (a ≡ true → b ≡ true) → (b ≡ true → a ≡ true) → a ≡ b
same_test true b f g = sym (f refl)
same_test false true f g = g refl
same_test false false f g = refl

pub all_of_lem : (ts : List Bool) → all_of ts ≡ true → AllByRecursion (λ t. t ≡ true) ts
all_of_lem [] h = tt
all_of_lem (t ∷ ts) h = let s = sub_true _ _ h in (s.0, all_of_lem ts s.1)

pub all_in : (ts : List Bool) → AllByRecursion (λ t. t ≡ true) ts → all_of ts ≡ true
all_in [] h = refl
all_in (t ∷ ts) h = both_true t (all_of ts) h.0 (all_in ts h.1)

pub each : {X : Type 0} (f : X → Bool) (xs : List X) → every f xs ≡ true → AllByRecursion (λ x. f x ≡ true) xs
each f [] h = tt
each f (x ∷ xs) h = let s = sub_true _ _ h in (s.0, each f xs s.1)

pub each_from : (f : ℕ → Bool) (a n : ℕ) → every f (range_with_len a n) ≡ true → (j : ℕ) → a ≤ j → j < a + n → f j ≡ true
each_from f a zero h j l b = absurd (omega arith)
each_from f a (suc n) h j l b = let s = sub_true _ _ h in at (j - a) (omega arith) s.0 (each_from f (a + 1) n s.1 j)
  where
    at : (d : ℕ) → a + d ≡ j → f a ≡ true → (a + 1 ≤ j → j < a + 1 + n → f j ≡ true) → f j ≡ true
    at zero e x ih = let z : a ≡ j = omega arith in rw z at x
    at (suc d) e x ih = ih (omega arith) (omega arith)

pub every_from : (f : ℕ → Bool) (a n : ℕ) → ((j : ℕ) → a ≤ j → j < a + n → f j ≡ true) → every f (range_with_len a n) ≡ true
every_from f a zero h = refl
every_from f a (suc n) h =
    both_true (f a) (every f (range_with_len (a + 1) n)) (h a (omega arith) (omega arith)) (every_from f (a + 1) n (λ j l b. h j (omega arith) (omega arith)))

pub no_broken : (f : ℕ → Bool) (a n : ℕ) → ((j : ℕ) → a ≤ j → j < a + n → f j ≡ true) → first_not f (range_with_len a n) ≡ None
no_broken f a zero h = refl
no_broken f a (suc n) h = rw (h a (omega arith) (omega arith)) (no_broken f (a + 1) n (λ j l b. h j (omega arith) (omega arith)))

pub none_not : (f : ℕ → Bool) (a n : ℕ) → first_not f (range_with_len a n) ≡ None → (j : ℕ) → a ≤ j → j < a + n → f j ≡ true
none_not f a zero h j l b = absurd (omega arith)
none_not f a (suc n) h j l b = go (f a) refl h (none_not f (a + 1) n)
  where
    at : (d : ℕ) → a + d ≡ j → f a ≡ true → (a + 1 ≤ j → j < a + 1 + n → f j ≡ true) → f j ≡ true
    at zero e x ih = let z : a ≡ j = omega arith in rw z at x
    at (suc d) e x ih = ih (omega arith) (omega arith)

    go : (t : Bool) → f a ≡ t → cond t (first_not f (range_with_len (a + 1) n)) (Some a) ≡ None
        → (first_not f (range_with_len (a + 1) n) ≡ None → (j : ℕ) → a + 1 ≤ j → j < a + 1 + n → f j ≡ true) → f j ≡ true
    go true t h ih = at (j - a) (omega arith) t (ih h j)
    go false t h ih = absurd (cc)

pub passed : (b : Bool) (x : Option ℕ) → cond b x (Some 0) ≡ None → (b ≡ true) × (x ≡ None)
passed true x h = (refl, h)
passed false x h = absurd (cc)

pub map-range_with_len : {A : Type 0} (f g : ℕ → A) (a b n : ℕ) → ((k : ℕ) → k < n → f (a + k) ≡ g (b + k))
    → map f (range_with_len a n) ≡ map g (range_with_len b n)
map-range_with_len f g a b zero h = refl
map-range_with_len f g a b (suc n) h =
    let e : f a ≡ g b = rw (add-zero, add-zero) at (h 0 (omega arith)) in
    let t = map-range_with_len f g (a + 1) (b + 1) n (λ k l. shift k (h (k + 1) (omega arith))) in
    cc
  where
    shift : (k : ℕ) → f (a + (k + 1)) ≡ g (b + (k + 1)) → f (a + 1 + k) ≡ g (b + 1 + k)
    shift k e =
        let x : a + 1 + k ≡ a + (k + 1) = omega arith in
        let y : b + 1 + k ≡ b + (k + 1) = omega arith in
        cc

-- numbers that never fall from one to the next never fall over a stretch
pub climb : (O : ℕ → ℕ) (a e : ℕ) → ((j : ℕ) → a ≤ j → j < e → O j ≤ O (j + 1)) → (x d : ℕ) → a ≤ x → x + d ≤ e → O x ≤ O (x + d)
climb O a e h x zero l b = rw add-zero (omega arith)
climb O a e h x (suc d) l b =
    let ih = climb O a e h x d l (omega arith) in
    let m = h (x + d) (omega arith) (omega arith) in
    let z : x + d + 1 ≡ x + suc d = omega arith in
    let y : O (x + d + 1) ≡ O (x + suc d) = ap O z in
    omega arith
