-- The calls on a pair are decided by 1, 5, 23, and then by the checks of the joined file.
use Prim.Native.Nat.{ℕ, ◌-◌}
use mathlib.Core.Path.{◌≡◌, refl}
use mathlib.Core.Bool.{Bool, true, false}
use mathlib.Core.List.{List, ◌++◌}
use lib.ListN.{length}
use lib.Dec.{ltb}
use Rattle.refusal.specs.Choice.{pick}
use Rattle.refusal.specs.Checks.{Check, answered}
use Rattle.refusal.specs.Result.{success, count_result, DecidedBy}
use Rattle.refusal.specs.declared.CountAnswer.{CountAnswer}
use Rattle.refusal.specs.declared.CountAnswer.TheVariants as N
use Rattle.refusal.proofs.Picks.{all_in_lem}
use Rattle.refusal.proofs.Results.{decided, decided_after}
use Rattle.sharding.specs.declared.Sharding.{Sharding}
use Rattle.sharding.specs.Specification.{no_such_shard}
use Rattle.shard.specs.File.{shard_checks}
use Rattle.lookup.specs.declared.id_search.LookupAnswer.TheVariants as L
use Rattle.lookup.specs.Find.{lookup_checks, lookup_result}
use Rattle.lookup.proofs.Refused.{lookup_decided}
use Rattle.lookup.specs.fragments.Fragment.{fragment_checks}
use Rattle.lookup.proofs.fragments.Refused.{fragment_decided}
use Rattle.lookup.specs.listings.Listing.{asked_checks, count_checks, count_answer, listing_checks, listing_answer}
use Rattle.lookup.proofs.listings.Refused.{count_decided, listing_decided}
use Rattle.unlisted.proofs.Counted.{unlisted_decided}
use Rattle.settle.specs.answers.Answers.{settled_length_checks, settle_checks}
use Rattle.settle.proofs.Refused.{length_decided, settle_decided}
use Rattle.split_shard.specs.seam.Pair.{pair_checks}
use Rattle.split_shard.specs.Answers.{other_shard, pair_lookup, pair_fragment}
use Rattle.split_shard.specs.form.Answers.{pair_asked_checks, pair_count, pair_listing, pair_unlisted, pair_length, pair_settle}
use Rattle.split_shard.specs.declared.held_range.RangeAnswer.TheVariants as R
use Rattle.split_shard.specs.held_range.Held.{held_range}
use Rattle.split_shard.specs.seam.Range.{range_checks, range_answer, range_result}
use Rattle.theorems.proofs.Measures.{pair_decided}

module _ (spec : Sharding) (shard : ℕ) (index d : List ℕ) where
  module _ (id : ℕ) where
    pub lookup_decided_pair : DecidedBy (pair_checks spec (other_shard spec shard id) index ++ lookup_checks spec shard (index ++ d) id) (lookup_result (pair_lookup spec shard index d id))
    unfolding pair_lookup
    lookup_decided_pair = pair_decided lookup_result L.Refused (λ k t. refl) spec (other_shard spec shard id) index (lookup_decided spec shard (index ++ d) id)

    pub fragment_decided_pair : (level node : ℕ) → DecidedBy (pair_checks spec (other_shard spec shard id) index ++ fragment_checks spec shard (index ++ d) id level node) (lookup_result (pair_fragment spec shard index d id level node))
    unfolding pair_fragment
    fragment_decided_pair level node = pair_decided lookup_result L.Refused (λ k t. refl) spec (other_shard spec shard id) index (fragment_decided spec shard (index ++ d) id level node)

  module _ (m : ℕ) where
    asked_decided : {cs : List Check} (x : CountAnswer) → DecidedBy cs (count_result x) → DecidedBy (pair_asked_checks spec shard m index ++ cs) (count_result (answered N.Refused (pair_asked_checks spec shard m index) x))
    unfolding pair_asked_checks asked_checks
    asked_decided {cs} x h = decided_after count_result N.Refused (λ k t. refl) (pair_asked_checks spec shard m index) cs x (all_in_lem (pair_asked_checks spec shard m index) refl) (refl, (refl, (refl, (refl, tt)))) h

    pub count_decided_pair : DecidedBy (pair_asked_checks spec shard m index ++ count_checks spec shard (index ++ d) m) (count_result (pair_count spec shard index d m))
    unfolding pair_count
    count_decided_pair = asked_decided (count_answer spec shard (index ++ d) m) (count_decided spec shard (index ++ d) m)

    pub listing_decided_pair : (out : List ℕ) → DecidedBy (pair_asked_checks spec shard m index ++ listing_checks spec shard (index ++ d) m out) (count_result (pair_listing spec shard index d m out))
    unfolding pair_listing
    listing_decided_pair out = asked_decided (listing_answer spec shard (index ++ d) m out) (listing_decided spec shard (index ++ d) m out)

  pub unlisted_decided_pair : DecidedBy (pair_checks spec (no_such_shard spec shard) index ++ shard_checks spec shard (index ++ d)) (count_result (pair_unlisted spec shard index d))
  unfolding pair_unlisted
  unlisted_decided_pair = pair_decided count_result N.Refused (λ k t. refl) spec (no_such_shard spec shard) index (unlisted_decided spec shard (index ++ d))

  module _ (dropping : Bool) where
    pub length_decided_pair : DecidedBy (pair_checks spec (no_such_shard spec shard) index ++ settled_length_checks spec shard (index ++ d) dropping) (count_result (pair_length spec shard index d dropping))
    unfolding pair_length
    length_decided_pair = pair_decided count_result N.Refused (λ k t. refl) spec (no_such_shard spec shard) index (length_decided spec shard (index ++ d) dropping)

    pub settle_decided_pair : (out : List ℕ) → DecidedBy (pair_checks spec (no_such_shard spec shard) index ++ settle_checks spec shard (index ++ d) dropping out) (count_result (pair_settle spec shard index d dropping out))
    unfolding pair_settle
    settle_decided_pair out = pair_decided count_result N.Refused (λ k t. refl) spec (no_such_shard spec shard) index (settle_decided spec shard (index ++ d) dropping out)

-- a range request, by its own checks
held : (seam start end : ℕ) → range_result (held_range seam start end) ≡ success (pick (ltb start seam) (0, start, end - start) (1, start - seam, end - start))
unfolding held_range
held seam start end = go (ltb start seam)
  where
    go : (b : Bool) → range_result (pick b (R.InIndex start (end - start)) (R.InData (start - seam) (end - start))) ≡ success (pick b (0, start, end - start) (1, start - seam, end - start))
    go true = refl
    go false = refl

pub range_decided : (spec : Sharding) (index d : List ℕ) (start end : ℕ) → DecidedBy (range_checks spec index d start end) (range_result (range_answer spec index d start end))
unfolding range_answer range_checks
range_decided spec index d start end =
    decided range_result R.Refused (λ k t. refl) (range_checks spec index d start end) (held_range (length index) start end) (held (length index) start end) refl refl
