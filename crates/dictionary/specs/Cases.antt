-- The worked cases of a merge, computed by the checker from the definitions that the merge's contracts use.
use Rattle.std.specs.Prelude.{◌≡◌, ℕ, true, false, List, [], ◌∷◌, map, Some, Ok, Err}
use Rattle.std.specs.List.{range_with_len}
use Rattle.hashes.specs.Hashes.{lead}
use Rattle.interning.specs.Values.{same_value}
use Rattle.interning.specs.Buckets.{buckets_for}
use Rattle.interning.specs.Merging.{Taken, merged_entries, slot_keys}
use Rattle.dictionary.specs.declared.piece.Piece.{Piece}
use Rattle.dictionary.specs.declared.merge.MergeFault.TheVariants.{Scratch, Keys}
use Rattle.dictionary.specs.Merges.{merge_answer, should_merge}

-- what a merge takes of a dictionary all of whose rows are valid
abbrev pub all_valid : List ℕ → List (List ℕ) → Taken
all_valid keys entries = record { keys = map Some keys; entries = map Some entries }

abbrev pub ab : List ℕ
ab = 97 ∷ 98 ∷ []

abbrev pub ac : List ℕ
ac = 97 ∷ 99 ∷ []

-- the first input has the entries ab and ac, the second ab; every entry is used
abbrev pub abc : List Taken
abc = all_valid (0 ∷ 1 ∷ []) (ab ∷ ac ∷ []) ∷ all_valid (0 ∷ []) (ab ∷ []) ∷ []

-- n entries of one byte each, from byte a on, each used once
abbrev pub singles : ℕ → ℕ → Taken
singles a n = all_valid (range_with_len 0 n) (map (λ x. x ∷ []) (range_with_len a n))

-- a dictionary piece of some rows, with signed 8-bit keys, over byte entries whose offsets lie at a
abbrev pub piece : ℕ → ℕ → ℕ → Piece
piece rows entries a =
    record {
      keys = record { root = 1; kind = 4; width = 1; logic = 0; size = 1; span = 2; start = 0; length = rows; nulls = 0; v = 0; a = 0; b = 0; count = 0 };
      entries = record { root = 0; kind = 3; width = 4; logic = 0; size = 0; span = 1; start = 0; length = entries; nulls = 0; v = 0; a = a; b = 0; count = 0 };
    }

pub record MergeCases : Type 0 where
  -- no used slot and 127 give 256 buckets; 128 give 512
  pub buckets_none : buckets_for 0 ≡ 256
  pub buckets_low : buckets_for 127 ≡ 256
  pub buckets_more : buckets_for 128 ≡ 512
  -- under lead, ab returns after ac took its bucket: entries ab, ac, ab; keys 0, 1 and 2
  pub lead_entries : merged_entries same_value lead abc ≡ Some ab ∷ Some ac ∷ Some ab ∷ []
  pub lead_keys : slot_keys same_value lead abc ≡ Some 0 ∷ Some 1 ∷ Some 2 ∷ []
  -- 2 + 1 entries that are not the same: 6 rows do not merge, 3 rows do; the same entries never do
  pub six_rows : should_merge (piece 4 2 0 ∷ piece 2 1 64 ∷ []) ≡ false
  pub three_rows : should_merge (piece 2 2 0 ∷ piece 1 1 64 ∷ []) ≡ true
  pub same_entries : should_merge (piece 1 2 0 ∷ piece 1 2 0 ∷ []) ≡ false
  -- signed 8-bit keys number 128 merged entries, and not 129
  pub keys_pass : merge_answer lead 127 (singles 0 127 ∷ singles 127 1 ∷ []) 128 512 128 ≡ Ok 128
  pub keys_over : merge_answer lead 127 (singles 0 128 ∷ singles 128 1 ∷ []) 129 512 129 ≡ Err Keys
  -- one place too few in each table
  pub few_keys : merge_answer lead 127 (singles 0 127 ∷ singles 127 1 ∷ []) 127 512 128 ≡ Err Scratch
  pub few_buckets : merge_answer lead 127 (singles 0 127 ∷ singles 127 1 ∷ []) 128 511 128 ≡ Err Scratch
  pub few_chosen : merge_answer lead 127 (singles 0 127 ∷ singles 127 1 ∷ []) 128 512 127 ≡ Err Scratch
