use Rattle.std.proofs.Common.{le_refl, lt_of_lt_of_le, rules}
use Rattle.dictionary.specs.Pieces.{seen}
use Rattle.dictionary.proofs.Interns.{bucket_here, held_slot, as_known, as_added, answer_low}
use Rattle.dictionary.proofs.interner.Interner.intern.Goals as goal

pub known-requires : goal.known-requires
known-requires g c =
    let here = bucket_here c.requires.stands c.args.slot _ _ c.value-value.ensures c.bucket-b.ensures.low c.bucket-b.ensures.value in
    record { bucket = lt_of_lt_of_le here.0 c.requires.stands.wide; entry = held_slot c.requires.stands c.bucket-b.result here.0 }

pub returns-in-Some : goal.returns-in-Some
returns-in-Some g c =
    let v = seen c.value-value.result in
    let here = bucket_here c.requires.stands c.args.slot v _ c.value-value.ensures c.bucket-b.ensures.low c.bucket-b.ensures.value in
    let known = as_known c.requires.stands c.args.slot v c.bucket-b.result c.in-Some.n c.value-value.ensures here.1 here.0 c.in-Some.ensures in
    record {
      answer = known;
      low = answer_low c.requires.stands c.args.slot c.in-Some.n _ _ known;
      kept = record { stands = c.requires.stands; lent = search rules; same = c.bucket-b.ensures.same };
    }

pub returns-in-None : goal.returns-in-None
returns-in-None g c =
    let v = seen c.value-value.result in
    let here = bucket_here c.requires.stands c.args.slot v _ c.value-value.ensures c.bucket-b.ensures.low c.bucket-b.ensures.value in
    let added = as_added c.requires.stands c.args.slot v c.bucket-b.result c.requires.slot c.value-value.ensures here.1 here.0 c.in-None.ensures
    c.requires.room _ _ _ _ c.add.ensures.buckets c.add.ensures.chosen c.add.ensures.entries c.add.ensures.shift in
    record {
      answer = added.0;
      low = le_refl _;
      kept = record { stands = added.1; lent = c.add.ensures.lent; same = c.bucket-b.ensures.same };
    }
