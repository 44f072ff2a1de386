-- What a call promises in the words of the format follows from its answer and from the memory that it leaves.
use Rattle.std.proofs.Common.{◌≡◌, ℕ, ◌+◌, ◌-◌, ◌≤◌, Bool, true, false, cond, ltb, List, [], ◌++◌, length, take, drop, replicate, Some, None, Ok, Err, Option, Result, sym, refl, ap, ◌∙◌, subst, arith}
use Rattle.std.proofs.lemmas.List.{append_assoc, append-nil, length-append, length-replicate, length-take-le, take_at}
use Rattle.std.proofs.lemmas.Bool.{ltb-false}
use Rattle.records.specs.declared.record.Record.{Record}
use Rattle.numbers.specs.Puts.{put, next_place}
use Rattle.format.specs.Trees.{rec_at}
use Rattle.format.specs.Moves.{sliced}
use Rattle.format.specs.Rules.{first_broken}
use Rattle.format.specs.Promises.{SameRows, Stretch}
use Rattle.format.proofs.Moves.{still, brought_in, cut_out, same_here}
use Rattle.store.specs.declared.fault.Fault.{Fault}
use Rattle.store.specs.Stores.{Store, standing, written, torn, grown}
use Rattle.store.specs.Calls.{Told, made, refuse, told, or_broken, Leaves, slice_told, admit_told, admitted, admitted_bytes, SliceSettles, AdmitSettles}
use Rattle.store.specs.Promises.{Stays, SliceHasRows, AdmitHasRows, SliceContract, AdmitContract}

-- what lies below a mark that moved behind what was written
pub take-put_all : {X : Type 0} (at : ℕ) (s d : List X) → at ≤ length d → take (at + length s) (put at s d) ≡ take at d ++ s
take-put_all at s d l =
    let long : length (take at d ++ s) ≡ at + length s = rw (length-append, length-take-le at d l) refl in
    ap (take (at + length s)) (sym (append_assoc (take at d) s (drop (at + length s) d))) ∙ take_at (take at d ++ s) (drop (at + length s) d) (at + length s) long

module _ (s : Store) (whole : torn s ≡ false) where
  pub marks_in : (s.marks.records ≤ length s.records) × (s.marks.bytes ≤ length s.bytes)
  marks_in =
      let h = whole in
      go (ltb (length s.records) s.marks.records) refl (ltb (length s.bytes) s.marks.bytes) refl h
    where
      go : (a : Bool) → ltb (length s.records) s.marks.records ≡ a → (b : Bool) → ltb (length s.bytes) s.marks.bytes ≡ b
          → cond a true (cond b true (cond (ltb 4294967295 (length s.records)) true (ltb 4294967295 (length s.bytes)))) ≡ false
          → (s.marks.records ≤ length s.records) × (s.marks.bytes ≤ length s.bytes)
      go true e b f h = absurd (cc)
      go false e true f h = absurd (cc)
      go false e false f h = (ltb-false _ _ e, ltb-false _ _ f)

  pub standing_grown : (rs : List Record) (bs : List ℕ) → standing (grown s rs bs) ≡ standing s ++ rs
  standing_grown rs bs = take-put_all s.marks.records rs s.records marks_in.0

  pub written_grown : (rs : List Record) (bs : List ℕ) → written (grown s rs bs) ≡ written s ++ bs
  written_grown rs bs = take-put_all s.marks.bytes bs s.bytes marks_in.1

  pub long_standing : length (standing s) ≡ s.marks.records
  long_standing = length-take-le s.marks.records s.records marks_in.0

  pub long_written : length (written s) ≡ s.marks.bytes
  long_written = length-take-le s.marks.bytes s.bytes marks_in.1

  -- columns that stood before
  pub grown_stays : (rs : List Record) (bs : List ℕ) → Stays s (grown s rs bs)
  grown_stays rs bs q w =
      let e = standing_grown rs bs in
      let f = written_grown rs bs in
      subst (λ R. SameRows (written s) (standing s) q (written (grown s rs bs)) R q) (sym e)
      (subst (λ B. SameRows (written s) (standing s) q B (standing s ++ rs) q) (sym f) (still (written s) bs (standing s) rs q w))

pub same_stays : (s : Store) → Stays s s
same_stays s q w = same_here (written s) (standing s) q w

-- the tests of a call that answered a place
pub not_torn : {A : Type 0} (t : Bool) (n i r : ℕ) (x : Told A) (p : A) → cond t (refuse n i r) x ≡ made p → (t ≡ false) × (x ≡ made p)
not_torn true n i r x p e = absurd (cc)
not_torn false n i r x p e = (refl, e)

pub not_broken : {A : Type 0} (o : Option ℕ) (x : Told A) (p : A) → or_broken o x ≡ made p → (o ≡ None) × (x ≡ made p)
not_broken None x p e = (refl, e)
not_broken (Some at) x p e = absurd (cc)

made_place : (p q : ℕ) → made p ≡ made q → q ≡ p
made_place p q e = cc

slice_rows : (s t : Store) (r : Result ℕ Fault) (q f n : ℕ) → told r ≡ slice_told s q f n → Leaves r s t (sliced (standing s) q f n) [] → SliceHasRows r s t q f n × Stays s t
slice_rows s t (Err fault) q f n e l = (tt, subst (Stays s) (sym l) (same_stays s))
slice_rows s t (Ok p) q f n e l =
    let rs : List Record = sliced (standing s) q f n in
    let a = not_torn (torn s) 1 0 0 _ p (sym e) in
    let b = not_broken (first_broken (written s) (standing s) q) _ p a.1 in
    let c = not_torn (ltb (rec_at (standing s) q).length (f + n)) 8 0 0 _ p b.1 in
    let d = not_torn (ltb (length s.records) (s.marks.records + (rec_at (standing s) q).span)) 15 0 0 _ p c.1 in
    let place : p ≡ length (standing s) = made_place s.marks.records p d.1 ∙ sym (long_standing s a.0) in
    let cut = cut_out (written s) (standing s) q f n b.0 (ltb-false _ _ c.0) in
    let here : Stretch (written s) (standing s) q f n (written (grown s rs [])) (standing (grown s rs [])) p =
    subst (λ x. Stretch (written s) (standing s) q f n (written (grown s rs [])) (standing (grown s rs [])) x) (sym place)
    (subst (λ R. Stretch (written s) (standing s) q f n (written (grown s rs [])) R (length (standing s))) (sym (standing_grown s a.0 rs []))
    (subst (λ B. Stretch (written s) (standing s) q f n B (standing s ++ rs) (length (standing s))) (sym (written_grown s a.0 rs [] ∙ append-nil (written s))) cut)) in (
      subst (λ x. Stretch (written s) (standing s) q f n (written x) (standing x) p) (sym l) here,
      subst (Stays s) (sym l) (grown_stays s a.0 rs []),
    )

admit_rows : (s t : Store) (r : Result ℕ Fault) (C : List Record) (D : List ℕ) → told r ≡ admit_told s C D
    → Leaves r s t (admitted s.marks.bytes C) (admitted_bytes s.marks.bytes D) → AdmitHasRows r s t C D × Stays s t
admit_rows s t (Err fault) C D e l = (tt, subst (Stays s) (sym l) (same_stays s))
admit_rows s t (Ok p) C D e l =
    let m : ℕ = s.marks.bytes in
    let gap : List ℕ = replicate (next_place s.marks.bytes - s.marks.bytes) 0 in
    let rs : List Record = admitted s.marks.bytes C in
    let bs : List ℕ = admitted_bytes s.marks.bytes D in
    let a = not_torn (torn s) 1 0 0 _ p (sym e) in
    let b = not_broken (first_broken D C 0) _ p a.1 in
    let c = not_torn (ltb (length s.records) (s.marks.records + (rec_at C 0).span)) 15 0 0 _ p b.1 in
    let d = not_torn (ltb (length s.bytes) (next_place s.marks.bytes + length D)) 15 0 0 _ p c.1 in
    let place : p ≡ length (standing s) = made_place s.marks.records p d.1 ∙ sym (long_standing s a.0) in
    let zeros = length-replicate {A = ℕ} (next_place s.marks.bytes - s.marks.bytes) 0 in
    let reach : length (written s) + length gap ≡ next_place s.marks.bytes = omega (arith, long_written s a.0) in
    let in' = brought_in (written s) gap D (standing s) C (next_place s.marks.bytes) reach b.0 in
    let here : SameRows D C 0 (written (grown s rs bs)) (standing (grown s rs bs)) p =
    subst (λ x. SameRows D C 0 (written (grown s rs bs)) (standing (grown s rs bs)) x) (sym place)
    (subst (λ R. SameRows D C 0 (written (grown s rs bs)) R (length (standing s))) (sym (standing_grown s a.0 rs bs))
    (subst (λ B. SameRows D C 0 B (standing s ++ rs) (length (standing s))) (sym (written_grown s a.0 rs bs)) in')) in (
      subst (λ x. SameRows D C 0 (written x) (standing x) p) (sym l) here,
      subst (Stays s) (sym l) (grown_stays s a.0 rs bs),
    )

pub slice_promise : (s t : Store) (r : Result ℕ Fault) (q f n : ℕ) → SliceSettles r s t q f n → SliceContract r s t q f n
slice_promise s t r q f n h = let p = slice_rows s t r q f n h.answer h.leaves in record { settles = h; rows = p.0; stays = p.1 }

pub admit_promise : (s t : Store) (r : Result ℕ Fault) (C : List Record) (D : List ℕ) → AdmitSettles r s t C D → AdmitContract r s t C D
admit_promise s t r C D h = let p = admit_rows s t r C D h.answer h.leaves in record { settles = h; rows = p.0; stays = p.1 }
