use Rattle.std.proofs.Common.{◌≡◌, ℕ, ◌+◌, ◌-◌, ◌^◌, ◌<◌, ◌≤◌, List, ◌++◌, map, length, get_or, take, replicate, ap, ◌∙◌, arith}
use Rattle.std.specs.List.{AllByRecursion}
use Rattle.std.proofs.lemmas.List.{length-replicate, length-append, length-map, length-take-le, get_or-take}
use Rattle.std.proofs.ByRecursion.{All-from_get_or}
use Rattle.numbers.specs.Puts.{put}
use Rattle.numbers.proofs.Places.{put_more}
use Rattle.records.specs.declared.record.Record.{Record}
use Rattle.format.specs.Trees.{rec_at, nothing}
use Rattle.format.specs.Moves.{moved}
use Rattle.format.specs.Rules.{children_at}
use Rattle.format.proofs.Known.{Right, Known, known}
use Rattle.numbers.specs.Puts.{next_place}
use Rattle.store.specs.Stores.{Store, store, grown}
use Rattle.store.specs.Calls.{admitted, admitted_bytes}
use Rattle.store.specs.Movable.{Movable}

pub zeros_and_data : (d s : List ℕ) (at base : ℕ) → at ≤ base → at ≤ length d
    → put base s (put at (replicate (base - at) 0) d) ≡ put at (replicate (base - at) 0 ++ s) d
zeros_and_data d s at base le fit =
    let l = length-replicate {A = ℕ} (base - at) 0 in
    let e : base ≡ at + length (replicate {A = ℕ} (base - at) 0) = omega arith in
    ap (λ b. put b s (put at (replicate (base - at) 0) d)) e ∙ put_more at (replicate (base - at) 0) s d fit

-- the places of a column that breaks no rule can be moved
pub all_movable : (bs : List ℕ) (rs : List Record) (d : ℕ) → Right bs rs 0 → d + length bs < 2 ^ 64 → AllByRecursion (Movable d) (take (rec_at rs 0).span rs)
all_movable bs rs d ok h =
    let l = length-take-le (rec_at rs 0).span rs (omega (arith, ok.inside)) in
    All-from_get_or (Movable d) (take (rec_at rs 0).span rs) nothing (λ i lt. one i (omega arith))
  where
    one : (i : ℕ) → i < (rec_at rs 0).span → Movable d (get_or (take (rec_at rs 0).span rs) i nothing)
    one i lt =
        let e : 0 + i ≡ i = omega arith in
        let k = known bs (rec_at rs (0 + i)) (children_at rs (0 + i)) (ok.each i lt) in
        let f : Known (length bs) (get_or rs i nothing) = rw e at k in
        let t = get_or-take (rec_at rs 0).span rs i nothing lt in
        rw t (omega (arith, f.v), omega (arith, f.a), omega (arith, f.b))

pub admit_grown : (s : Store) (rs : List Record) (bs : List ℕ) (base : ℕ) (r : Record) (R : List Record) (B : List ℕ)
    → Right bs rs 0 → r ≡ rec_at rs 0 → base ≡ next_place s.marks.bytes
    → R ≡ put s.marks.records (map (moved base) (take r.span rs)) s.records
    → s.marks.bytes ≤ length s.bytes → B ≡ put base bs (put s.marks.bytes (replicate (base - s.marks.bytes) 0) s.bytes)
    → store R B (record { records = s.marks.records + r.span; bytes = base + length bs }) ≡ grown s (admitted s.marks.bytes rs) (admitted_bytes s.marks.bytes bs)
admit_grown s rs bs base r R B ok root e moves fit both =
    let up : s.marks.bytes ≤ base = omega arith in
    let b : B ≡ put s.marks.bytes (replicate (base - s.marks.bytes) 0 ++ bs) s.bytes = both ∙ zeros_and_data s.bytes bs s.marks.bytes base up fit in
    let m : ℕ = s.marks.bytes in
    let l = length-map (take (rec_at rs 0).span rs) (moved (next_place s.marks.bytes)) in
    let t = length-take-le (rec_at rs 0).span rs (omega (arith, ok.inside)) in
    let x : s.marks.records + (rec_at rs 0).span ≡ s.marks.records + length (admitted s.marks.bytes rs) = omega arith in
    let z = length-replicate {A = ℕ} (next_place s.marks.bytes - s.marks.bytes) 0 in
    let a = length-append (replicate {A = ℕ} (next_place s.marks.bytes - s.marks.bytes) 0) bs in
    let y : base + length bs ≡ s.marks.bytes + length (admitted_bytes s.marks.bytes bs) = omega arith in
    cc
