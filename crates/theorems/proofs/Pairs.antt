-- Order 10's promises, from the crates' laws.
use Prim.Native.Nat.{ℕ}
use mathlib.Core.Path.{◌≡◌}
use mathlib.Core.List.{List, ◌++◌}
use lib.ListN.{length}
use Rattle.sharding.specs.declared.Sharding.{Sharding}
use Rattle.shard.specs.File.{index_length_of}
use Rattle.split_shard.proofs.seam.Pairs.{seamed_front, seamed_back}
use Rattle.split_shard.proofs.seam.Ranges.{range_in_index, range_in_data, range_joined}
use Rattle.split_shard.proofs.Laws.{sound_seamed, check_as_joined, lookup_as_joined, fragment_as_joined}
use Rattle.split_shard.proofs.form.Laws.{count_as_joined, listing_as_joined, unlisted_as_joined, length_as_joined, settle_as_joined}
use Rattle.holdings.specs.declared.one_shard.Sheet.{Sheet}
use Rattle.holdings.specs.Answers.{sheet_of, add_answer, pair_sheet, pair_add_answer}
use Rattle.holdings.proofs.measures.Answered.{measure_as_joined}
use Rattle.theorems.specs.Pairs.{Order10}

add_as_joined : (sheet : Sheet) (spec : Sharding) (shard : ℕ) (index d : List ℕ) → length index ≡ index_length_of spec → pair_add_answer sheet spec shard index d ≡ add_answer sheet spec shard (index ++ d)
unfolding add_answer pair_add_answer sheet_of pair_sheet
add_as_joined sheet spec shard index d e = rw (check_as_joined spec shard index d e, seamed_front spec index d e, seamed_back spec index d e)

pub order_10 : Order10
order_10 = record {
  check = check_as_joined;
  lookup = lookup_as_joined;
  fragment = fragment_as_joined;
  count = count_as_joined;
  listing = listing_as_joined;
  unlisted = unlisted_as_joined;
  form_length = length_as_joined;
  settle = settle_as_joined;
  measure = measure_as_joined;
  sheet = add_as_joined;
  unsound = λ spec shard index d e. (sound_seamed spec shard index d e).0;
  range = range_joined;
  in_index = range_in_index;
  in_data = range_in_data;
}
