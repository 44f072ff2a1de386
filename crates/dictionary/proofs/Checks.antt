-- A piece of a checked column keeps its rules.
use Rattle.std.proofs.Common.{◌≡◌, ℕ, ◌+◌, ◌≤◌, true, false, eqb, ltb, Ok, sym, ap₂, ◌⊎◌, List, [], ◌∷◌, refl, ap, ◌∙◌, subst, inl, inr, arith}
use Rattle.std.proofs.lemmas.Bool.{eqb-true, ltb-false}
use Rattle.records.specs.declared.record.Record.{Record}
use Rattle.format.specs.Trees.{rec_at}
use Rattle.format.specs.Meaning.{Kind, flat, bytes, dictionary, kind_of}
use Rattle.format.specs.Moves.{window}
use Rattle.format.specs.Rules.{both, all_of, one_of, no_child, kind_rules, record_rules, children_at, WellFormed}
use Rattle.format.proofs.Tests.{no_way, sub_true, all_of_lem}
use Rattle.format.proofs.Facts.{Says, facts}
use Rattle.format.proofs.Known.{right}
use Rattle.format.proofs.Moves.{window_ruled}
use Rattle.columns.proofs.Ways.{lone_next, ruled_in}
use Rattle.dictionary.specs.Pieces.{PieceOk, PieceContract}
use Rattle.dictionary.proofs.Slots.{one_or_three}

-- records without children
childless : (ks : List Record) → no_child ks ≡ true → ks ≡ []
childless [] h = refl
childless (k ∷ ks) h = no_way h

kind_rules_lem : (bs : List ℕ) (r : Record) (ks : List Record) (n : ℕ) (K : Kind) → r.kind ≡ n → kind_of n ≡ K → all_of (record_rules bs r ks) ≡ true → all_of (kind_rules bs r ks K) ≡ true
kind_rules_lem bs r ks n K e f h = subst (λ k. all_of (kind_rules bs r ks k) ≡ true) (ap kind_of e ∙ f) (all_of_lem (record_rules bs r ks) h).1.1.1.0

leafed : (bs : List ℕ) (r : Record) (ks : List Record) → (r.kind ≡ 1) ⊎ (r.kind ≡ 3) → all_of (record_rules bs r ks) ≡ true → ks ≡ []
leafed bs r ks (inl e) h = childless ks (all_of_lem (kind_rules bs r ks flat) (kind_rules_lem bs r ks 1 flat e refl h)).1.1.0
leafed bs r ks (inr e) h = childless ks (all_of_lem (kind_rules bs r ks bytes) (kind_rules_lem bs r ks 3 bytes e refl h)).1.1.1.0

piece_ok : (bs : List ℕ) (rs : List Record) (q f n : ℕ) → WellFormed bs rs q → f + n ≤ (rec_at rs q).length
    → both (eqb (rec_at rs q).kind 4) (one_of (rec_at rs (q + 1)).kind (1 ∷ 3 ∷ [])) ≡ true
    → PieceOk bs (record { keys = window (rec_at rs q) f n; entries = rec_at rs (q + 1) })
piece_ok bs rs q f n w l t =
    let k = right bs rs q w in
    let r : Record = rec_at rs q in
    let e : Record = rec_at rs (q + 1) in
    let s = sub_true _ _ t in
    let four : r.kind ≡ 4 = eqb-true r.kind 4 s.0 in
    let here = (ruled_in bs rs q q w (omega arith) (omega (arith, k.head.some))).0 in
    let says : Says dictionary bs r (children_at rs q) = subst (λ x. Says x bs r (children_at rs q)) (ap kind_of four) (facts bs r (children_at rs q) here) in
    let child = lone_next rs q says.1.child says.1.alone in
    let kids : children_at rs q ≡ e ∷ [] = says.1.alone ∙ ap (λ x. x ∷ []) child.0 in
    let below = (ruled_in bs rs q (q + 1) w (omega arith) child.1).0 in
    record {
      kind = four;
      keys = window_ruled bs r (e ∷ []) f n l (subst (λ x. all_of (record_rules bs r x) ≡ true) kids here);
      leaf = s.1;
      entries = subst (λ x. all_of (record_rules bs e x) ≡ true) (leafed bs e (children_at rs (q + 1)) (one_or_three e.kind s.1) below) below;
    }

-- rows f to f + n - 1 of a checked column, after the tests
pub taken_piece : (bs : List ℕ) (rs : List Record) (q f n : ℕ) (r e p : Record) → WellFormed bs rs q → r ≡ rec_at rs q → e ≡ rec_at rs (q + 1) → p ≡ window r f n
    → false ≡ ltb r.length (f + n) → true ≡ both (eqb r.kind 4) (one_of e.kind (1 ∷ 3 ∷ [])) → PieceContract (Ok (record { keys = p; entries = e })) bs rs q f n
taken_piece bs rs q f n r e p w er ee ep o k =
    let low : ltb (rec_at rs q).length (f + n) ≡ false = sym (o ∙ ap (λ x. ltb x.length (f + n)) er) in
    let leaf : both (eqb (rec_at rs q).kind 4) (one_of (rec_at rs (q + 1)).kind (1 ∷ 3 ∷ [])) ≡ true = sym (k ∙ ap₂ (λ x y. both (eqb x.kind 4) (one_of y.kind (1 ∷ 3 ∷ []))) er ee) in
    rw (ep, er, ee) (record { answer = rw (w, low, leaf); ok = piece_ok bs rs q f n w (ltb-false (rec_at rs q).length (f + n) low) leaf })
