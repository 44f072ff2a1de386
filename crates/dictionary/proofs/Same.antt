-- Equal records.
use Rattle.std.proofs.Common.{◌≡◌, ℕ, Bool, true, eqb, List, [], ◌∷◌, length, arith, sym, refl, ap, subst, ap₂, eq-eqb}
use Rattle.std.specs.Bool.{Decides}
use Rattle.std.proofs.lemmas.Bool.{eqb-true}
use Rattle.records.specs.declared.record.Record.{Record}
use Rattle.records.specs.Fields.{fields, of_fields}
use Rattle.format.specs.Rules.{all_of}
use Rattle.format.proofs.Tests.{sub_true, both_true}
use Rattle.dictionary.specs.Merges.{same_record}

-- the fields of two records, compared in order
abbrev tests : List ℕ → List ℕ → List Bool
tests [] ys = []
tests (x ∷ xs) [] = []
tests (x ∷ xs) (y ∷ ys) = eqb x y ∷ tests xs ys

tests_same : (xs : List ℕ) → all_of (tests xs xs) ≡ true
tests_same [] = refl
tests_same (x ∷ xs) = both_true _ _ (eq-eqb x x refl) (tests_same xs)

-- lists of as many fields that are equal in each
tests_true : (xs ys : List ℕ) → length xs ≡ length ys → all_of (tests xs ys) ≡ true → xs ≡ ys
tests_true [] [] l h = refl
tests_true [] (y ∷ ys) l h = absurd (omega arith)
tests_true (x ∷ xs) [] l h = absurd (omega arith)
tests_true (x ∷ xs) (y ∷ ys) l h = let t = sub_true _ _ h in ap₂ (λ z zs. z ∷ zs) (eqb-true x y t.0) (tests_true xs ys (omega arith) t.1)

same_true : (r s : Record) → same_record r s ≡ true → r ≡ s
same_true r s h = ap of_fields (tests_true (fields r) (fields s) refl h)

pub same_record_lem : (r s : Record) → Decides (same_record r s) (s ≡ r)
same_record_lem r s = (λ h. sym (same_true r s h), λ e. subst (λ x. same_record r x ≡ true) (sym e) (tests_same (fields r)))
