-- Folds of numbers that stop at the first that does not follow from the one before it.
use Rattle.std.proofs.Common.{◌≡◌, ℕ, Bool, true, false, cond, List, [], ◌∷◌, map, Option, Some, None, MatchOption, ControlFlow, sym, refl, ap, ◌∙◌, subst}
use Rattle.std.specs.List.{FoldsTo}
use Rattle.std.specs.Option.{option_and_then, option_map_or}
use Rattle.std.specs.Fn.{Called}
use Rattle.std.specs.Iterator.{AlwaysYields, Yields, TryFoldsItems, TryFoldTurn}
use Rattle.std.specs.ControlFlow.{continue_value}
use Rattle.std.proofs.lemmas.Iterator.{YieldsList}
use Rattle.format.specs.Rules.{both}
use denote.Param.Members.{Mut}

-- the last of the numbers that follow one from another, from a on; none where one does not follow
abbrev pub chained : (ℕ → ℕ → Option ℕ) → ℕ → List ℕ → Option ℕ
chained next a [] = Some a
chained next a (x ∷ xs) = option_and_then (λ b. chained next b xs) (next a x)

abbrev branches : {E : Type 0} → Option ℕ → ControlFlow E ℕ → Type 0
branches v c = v ≡ continue_value c

module _ (S F E : Type 0) (steps : S → Option ℕ → S → Type 0) (g : Mut F (ℕ × (ℕ × Unit {0})) (Option ℕ)) (next : ℕ → ℕ → Option ℕ) (u : S) (f : F)
    (acts : (a x : ℕ) (v : Option ℕ) (q : F) → Called g f (a, (x, tt)) v q → (q ≡ f) × (v ≡ next a x)) where
  abbrev Goes : F × ℕ → List ℕ → F × ℕ → Type 0
  Goes = FoldsTo {P = F × ℕ} (TryFoldTurn g (branches {E = E}))

  go : (xs all : List ℕ) (s t : S) (o : Option ℕ) (a b : ℕ) (f' : F) (r : Option ℕ) → AlwaysYields steps (λ x. x) s all → Yields steps s xs t → steps t o u
      → Goes (f, a) xs (f', b)
      → MatchOption o (r ≡ Some b) (λ x. (v : Option ℕ) × (h : F) × (e : E) × Called g f' (b, (x, tt)) v h × (v ≡ None) × (r ≡ None))
      → r ≡ chained next a all
  go [] [] s t None a b f' r y e n d m = m ∙ ap Some (sym (ap (λ p. p.1) d))
  go [] [] s t (Some x) a b f' r y e n d m = absurd (y x u (subst (λ k. steps k (Some x) u) (sym e) n))
  go [] (z ∷ zs) s t None a b f' r y e n d m = absurd (y.0 u (subst (λ k. steps k None u) (sym e) n))
  go [] (z ∷ zs) s t (Some x) a b f' r y e n d m =
      let k = y.1 x u (subst (λ k. steps k (Some x) u) (sym e) n) in
      let w = acts a x m.0 m.1 (subst (λ (p : F × ℕ). Called g p.0 (p.1, (x, tt)) m.0 m.1) (sym d) m.3) in
      m.5 ∙ sym (ap (option_and_then (λ b. chained next b zs)) (ap (next a) (sym k.0) ∙ sym w.1 ∙ m.4))
  go (x ∷ xs) [] s t o a b f' r y e n d m = absurd (y x e.0 e.1)
  go (x ∷ xs) (z ∷ zs) s t o a b f' r y e n d m =
      let k = y.1 x e.0 e.1 in
      let w = acts a x d.1.0 d.0.0 d.1.1 in
      go xs zs e.0 t o d.0.1 b f' r k.1 e.2 n (subst (λ h. Goes (h, d.0.1) xs (f', b)) w.0 d.2) m
      ∙ sym (ap (option_and_then (λ b. chained next b zs)) (ap (next a) (sym k.0) ∙ sym w.1 ∙ d.1.2))

-- a test of each number by the one before it, and of the last
module _ (test : ℕ → ℕ → Bool) (end : ℕ → Bool) (all : ℕ → List ℕ → Bool) (none : (a : ℕ) → all a [] ≡ end a)
    (step : (a x : ℕ) (xs : List ℕ) → all a (x ∷ xs) ≡ both (test a x) (all x xs)) where
  abbrev follows : (ℕ → ℕ) → ℕ → ℕ → Option ℕ
  follows f a j = cond (test a (f j)) (Some (f j)) None

  all_from_chained : (f : ℕ → ℕ) (a : ℕ) (xs : List ℕ) → option_map_or end (chained (follows f) a xs) false ≡ all a (map f xs)
  all_from_chained f a [] = sym (none a)
  all_from_chained f a (x ∷ xs) = at (test a (f x)) (all_from_chained f (f x) xs) ∙ sym (step a (f x) (map f xs))
    where
      at : (t : Bool) → option_map_or end (chained (follows f) (f x) xs) false ≡ all (f x) (map f xs)
          → option_map_or end (option_and_then (λ b. chained (follows f) b xs) (cond t (Some (f x)) None)) false ≡ both t (all (f x) (map f xs))
      at true e = e
      at false e = refl

  -- `try_fold` over the numbers, and then the test of the last
  pub all_from_try_fold : {S F E : Type 0} {steps : S → Option ℕ → S → Type 0} {g : Mut F (ℕ × (ℕ × Unit {0})) (Option ℕ)} {s : S} {xs : List ℕ}
      (f : ℕ → ℕ) (u : S) (q : F) (a : ℕ) (r : Option ℕ)
      → TryFoldsItems steps g (λ v (c : ControlFlow E ℕ). v ≡ continue_value c) (λ _ r. r ≡ None) s q a r u → YieldsList steps (λ x. x) s xs
      → ((a x : ℕ) (v : Option ℕ) (h : F) → Called g q (a, (x, tt)) v h → (h ≡ q) × (v ≡ follows f a x))
      → option_map_or end r false ≡ all a (map f xs)
  all_from_try_fold {S} {F} {E} {steps} {g} {s} {xs} f u q a r d y acts =
      ap (λ o. option_map_or end o false) (go S F E steps g (follows f) u q acts d.0 xs s d.4.0 d.1 a d.3 d.2 r y.runs d.4.1 d.4.2 d.5 d.6)
      ∙ all_from_chained f a xs
