use Rattle.std.proofs.Common.{◌≡◌, ℕ, ◌+◌, ◌-◌, List, [], length, add-zero, arith}
use Rattle.numbers.specs.Puts.{put}
use Rattle.numbers.proofs.Places.{length_part, put_none}
use Rattle.records.specs.declared.record.Record.{Record}
use Rattle.format.specs.Trees.{rec_at}
use Rattle.format.specs.Moves.{sliced}
use Rattle.format.proofs.Known.{Right}
use Rattle.store.specs.Stores.{Store, store, standing, written, grown}

-- what a slice wrote is the store with the slice above the marks
pub slice_grown : (s : Store) (q f n : ℕ) (r : Record) (R : List Record)
    → Right (written s) (standing s) q → r ≡ rec_at (standing s) q → R ≡ put s.marks.records (sliced (standing s) q f n) s.records
    → store R s.bytes (record { records = s.marks.records + r.span; bytes = s.marks.bytes }) ≡ grown s (sliced (standing s) q f n) []
slice_grown s q f n r R ok e w =
    let k = ok.inside in
    let o = ok.head.some in
    let l = length_part (standing s) (q + 1) ((rec_at (standing s) q).span - 1) (omega arith) in
    let m : s.marks.records + (rec_at (standing s) q).span ≡ s.marks.records + length (sliced (standing s) q f n) = omega arith in
    let b = put_none s.marks.bytes s.bytes in
    let z = add-zero s.marks.bytes in
    let a : store R s.bytes (record { records = s.marks.records + r.span; bytes = s.marks.bytes })
    ≡ store (put s.marks.records (sliced (standing s) q f n) s.records) (put s.marks.bytes [] s.bytes)
    (record { records = s.marks.records + length (sliced (standing s) q f n); bytes = s.marks.bytes + 0 }) = cc in
    a
