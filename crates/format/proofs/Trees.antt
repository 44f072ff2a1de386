-- Records that spell a forest, read back, give the forest.
use Rattle.std.proofs.Common.{◌≡◌, ℕ, zero, suc, ◌+◌, ◌-◌, List, ◌∷◌, ◌++◌, length, refl, ap, ◌∙◌, ap₂, arith}
use Rattle.std.proofs.lemmas.List.{append_assoc, length-append}
use Rattle.records.specs.declared.record.Record.{Record}
use Rattle.format.specs.Trees.{Forest, end, node, records_of, preorder, among, after, parse}

abbrev pub glue : Forest → Forest → Forest
glue end g = g
glue (node r kids next) g = node r kids (glue next g)

abbrev pub Spanned : Forest → Type 0
Spanned end = Unit {0}
Spanned (node r kids next) = (r.span ≡ 1 + records_of kids) × Spanned kids × Spanned next

none_among : (g : Forest) → among g 0 ≡ end
none_among end = refl
none_among (node r kids next) = refl

none_after : (g : Forest) → after g 0 ≡ g
none_after end = refl
none_after (node r kids next) = refl

among_glue : (f g : Forest) (n : ℕ) → n ≡ records_of f → among (glue f g) n ≡ f
among_glue end g n e = rw e (none_among g)
among_glue (node r kids next) g zero e = absurd (omega arith)
among_glue (node r kids next) g (suc n) e = ap (node r kids) (among_glue next g (n - records_of kids) (omega arith))

after_glue : (f g : Forest) (n : ℕ) → n ≡ records_of f → after (glue f g) n ≡ g
after_glue end g n e = rw e (none_after g)
after_glue (node r kids next) g zero e = absurd (omega arith)
after_glue (node r kids next) g (suc n) e = after_glue next g (n - records_of kids) (omega arith)

-- reading the records of a forest back gives the forest, whatever records follow
pub parse-preorder : (f : Forest) (rs : List Record) → Spanned f → parse (preorder f ++ rs) ≡ glue f (parse rs)
parse-preorder end rs s = refl
parse-preorder (node r kids next) rs s =
    let g : Forest = glue next (parse rs) in
    let n : ℕ = r.span - 1 in
    let e : n ≡ records_of kids = omega (arith, s.0) in
    ap (λ x. parse (r ∷ x)) (append_assoc (preorder kids) (preorder next) rs)
    ∙ ap (λ x. node r (among x n) (after x n)) (parse-preorder kids (preorder next ++ rs) s.1 ∙ ap (glue kids) (parse-preorder next rs s.2))
    ∙ ap₂ (node r) (among_glue kids g n e) (after_glue kids g n e)

pub length-preorder : (f : Forest) → length (preorder f) ≡ records_of f
length-preorder end = refl
length-preorder (node r kids next) = rw (length-append, length-preorder kids, length-preorder next) (omega arith)

pub glue_end : (f : Forest) → glue f end ≡ f
glue_end end = refl
glue_end (node r kids next) = ap (node r kids) (glue_end next)
