use Rattle.std.proofs.Common.{refl}
use Rattle.interning.specs.Buckets.{buckets_for}
use Rattle.dictionary.proofs.cases.merge_cases.Goals as goal

pub returns : goal.returns
unfolding buckets_for
returns c =
    record {
      buckets_none = refl;
      buckets_low = refl;
      buckets_more = refl;
      lead_entries = refl;
      lead_keys = refl;
      six_rows = refl;
      three_rows = refl;
      same_entries = refl;
      keys_pass = refl;
      keys_over = refl;
      few_keys = refl;
      few_buckets = refl;
      few_chosen = refl;
    }
