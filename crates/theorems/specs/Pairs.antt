-- What order 10 promises (RULES P2): a pair of files is answered as the file that they make joined.
use Rattle.std.specs.Prelude.{ℕ, ◌-◌, ◌<◌, ◌≤◌, ◌≡◌, Bool, List, ◌++◌, length, take, drop}
use Rattle.refusal.specs.Checks.{first_number}
use Rattle.sharding.specs.declared.Sharding.{Sharding}
use Rattle.shard.specs.declared.CheckAnswer.TheVariants.{Sound}
use Rattle.shard.specs.File.{index_length_of, check_answer}
use Rattle.lookup.specs.Find.{lookup_answer}
use Rattle.lookup.specs.fragments.Fragment.{fragment_answer}
use Rattle.lookup.specs.listings.Listing.{count_answer, listing_answer, listing_left}
use Rattle.unlisted.specs.Answers.{unlisted_answer}
use Rattle.settle.specs.answers.Answers.{length_answer, settle_answer, settle_left}
use Rattle.split_shard.specs.declared.held_range.RangeAnswer.TheVariants.{InIndex, InData}
use Rattle.split_shard.specs.held_range.Held.{range_bytes}
use Rattle.split_shard.specs.seam.Range.{range_checks, range_answer}
use Rattle.split_shard.specs.Answers.{pair_check, pair_lookup, pair_fragment}
use Rattle.split_shard.specs.form.Answers.{pair_count, pair_listing, pair_listing_left, pair_unlisted, pair_length, pair_settle, pair_settle_left}
use Rattle.holdings.specs.measures.Answers.{measure_answer, pair_measure}
use Rattle.holdings.specs.declared.one_shard.Sheet.{Sheet}
use Rattle.holdings.specs.Answers.{add_answer, pair_add_answer}

-- Order 10: "Treat the pair as their concatenation, without joining them." (RULES P2)
pub record Order10 : Type 0 where
  -- "But for 23, which makes a pair unsound, check, lookup and settling answer as for the joined file", and the other calls too, and they leave what is
  -- lent as that does:
  pub check : (spec : Sharding) (shard : ℕ) (index d : List ℕ) → length index ≡ index_length_of spec → pair_check spec shard index d ≡ check_answer spec shard (index ++ d)
  pub lookup : (spec : Sharding) (shard : ℕ) (index d : List ℕ) (id : ℕ) → length index ≡ index_length_of spec → pair_lookup spec shard index d id ≡ lookup_answer spec shard (index ++ d) id
  pub fragment : (spec : Sharding) (shard : ℕ) (index d : List ℕ) (id level node : ℕ) → length index ≡ index_length_of spec
      → pair_fragment spec shard index d id level node ≡ fragment_answer spec shard (index ++ d) id level node
  pub count : (spec : Sharding) (shard : ℕ) (index d : List ℕ) (m : ℕ) → length index ≡ index_length_of spec → pair_count spec shard index d m ≡ count_answer spec shard (index ++ d) m
  pub listing : (spec : Sharding) (shard : ℕ) (index d : List ℕ) (m : ℕ) (out : List ℕ) → length index ≡ index_length_of spec
      → (pair_listing spec shard index d m out ≡ listing_answer spec shard (index ++ d) m out) × (pair_listing_left spec shard index d m out ≡ listing_left spec shard (index ++ d) m out)
  pub unlisted : (spec : Sharding) (shard : ℕ) (index d : List ℕ) → length index ≡ index_length_of spec → pair_unlisted spec shard index d ≡ unlisted_answer spec shard (index ++ d)
  pub form_length : (spec : Sharding) (shard : ℕ) (index d : List ℕ) (dropping : Bool) → length index ≡ index_length_of spec
      → pair_length spec shard index d dropping ≡ length_answer spec shard (index ++ d) dropping
  pub settle : (spec : Sharding) (shard : ℕ) (index d : List ℕ) (dropping : Bool) (out : List ℕ) → length index ≡ index_length_of spec
      → (pair_settle spec shard index d dropping out ≡ settle_answer spec shard (index ++ d) dropping out) × (pair_settle_left spec shard index d dropping out ≡ settle_left spec shard (index ++ d) dropping out)
  pub measure : (spec : Sharding) (shard : ℕ) (index d : List ℕ) → length index ≡ index_length_of spec → pair_measure spec shard index d ≡ measure_answer spec shard (index ++ d)
  pub sheet : (sheet : Sheet) (spec : Sharding) (shard : ℕ) (index d : List ℕ) → length index ≡ index_length_of spec → pair_add_answer sheet spec shard index d ≡ add_answer sheet spec shard (index ++ d)
  pub unsound : (spec : Sharding) (shard : ℕ) (index d : List ℕ) → pair_check spec shard index d ≡ Sound → length index ≡ index_length_of spec
  -- A range that is not refused has the bytes of the joined file from its start to its end, "that part of the index file or of the data file,
  -- whichever holds it. An empty range at the seam belongs to the data file."
  pub range : (spec : Sharding) (index d : List ℕ) (start end : ℕ) → first_number (range_checks spec index d start end) ≡ 0
      → range_bytes (range_answer spec index d start end) index d ≡ take (end - start) (drop start (index ++ d))
  pub in_index : (spec : Sharding) (index d : List ℕ) (start end : ℕ) → first_number (range_checks spec index d start end) ≡ 0 → start < length index
      → range_answer spec index d start end ≡ InIndex start (end - start)
  pub in_data : (spec : Sharding) (index d : List ℕ) (start end : ℕ) → first_number (range_checks spec index d start end) ≡ 0 → length index ≤ start
      → range_answer spec index d start end ≡ InData (start - length index) (end - start)
