-- Equality of bytes, on values.
use Rattle.std.proofs.Common.{◌≡◌, true, Some, None, sym, refl, ap, ◌∙◌}
use Rattle.std.proofs.lemmas.Slice.Eq.{bytes_eq-Decides}
use Rattle.interning.specs.Values.{Value, same_value}
use Rattle.interning.specs.Promises.{Equality}

-- values that are found the same are equal
pub value_told : (a b : Value) → same_value a b ≡ true → a ≡ b
value_told None None h = refl
value_told None (Some y) h = absurd cc
value_told (Some x) None h = absurd cc
value_told (Some x) (Some y) h = ap Some ((bytes_eq-Decides x y).0 h)

-- a value is found the same as itself
pub value_itself : (a : Value) → same_value a a ≡ true
value_itself None = refl
value_itself (Some x) = (bytes_eq-Decides x x).1 refl

-- and as what equals it
value_equal : (a b : Value) → a ≡ b → same_value a b ≡ true
value_equal a b e = rw e (value_itself b)

-- equality of bytes is a sameness that decides
pub equality : Equality
equality = record {
  lawful = record {
    reflexive = value_itself;
    symmetric = λ a b h. value_equal b a (sym (value_told a b h));
    transitive = λ a b c h k. value_equal a c (value_told a b h ∙ value_told b c k);
  };
  told = value_told;
}
