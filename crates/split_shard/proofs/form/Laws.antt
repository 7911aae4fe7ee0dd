-- The calls on a pair, refused, leave what is lent as it was, and but for 23 answer and leave as for the joined file.
use Prim.Native.Nat.{ℕ}
use mathlib.Core.Path.{◌≡◌, refl, ◌∙◌}
use mathlib.Core.Bool.{Bool}
use mathlib.Core.List.{List, [], ◌∷◌, ◌++◌}
use mathlib.Core.Option.{Option}
use lib.ListN.{length}
use Rattle.refusal.specs.Buffer.{room, over}
use Rattle.refusal.specs.Checks.{Check, check, refusal}
use Rattle.refusal.proofs.Refusing.{answered-both}
use Rattle.refusal.proofs.Positions.{Plain, at_both, at_plain}
use Rattle.sharding.specs.declared.Sharding.{Sharding}
use Rattle.sharding.specs.Specification.{no_such_shard}
use Rattle.shard.specs.Checks.{minishard_checks}
use Rattle.shard.specs.File.{index_length_of, index_part, data_part, bad_file_length, file_checks, shard_checks}
use Rattle.split_shard.specs.seam.Pair.{pair_checks}
use Rattle.split_shard.proofs.seam.Refusals.{joined_by, as_joined_at, left_as_joined, pair-kept}
use Rattle.refusal.specs.declared.CountAnswer.TheVariants as N
use Rattle.lookup.specs.listings.Listing.{listing_of, asked_checks, count_checks, count_answer, listing_checks, listing_answer, listing_left}
use Rattle.lookup.proofs.listings.Refused.{asked_in, listing-kept}
use Rattle.unlisted.specs.Answers.{unlisted_answer}
use Rattle.unlisted.proofs.Counted.{unlisted-refuses}
use Rattle.settle.specs.answers.Answers.{settled_length_checks, length_answer, settle_checks, settle_answer, settle_left}
use Rattle.settle.proofs.Refused.{length-refuses, settle-refuses, settle-kept}
use Rattle.split_shard.specs.form.Answers.{pair_asked_checks, pair_count, pair_listing, pair_listing_left, pair_unlisted, pair_length, pair_settle, pair_settle_left}

module _ (spec : Sharding) (shard : ℕ) (index d : List ℕ) where
  module _ (m : ℕ) where
    -- the checks of a listing behind 33
    abbrev later : List Check
    later = check 6 (bad_file_length spec (length (index ++ d))) ∷ minishard_checks spec shard (index_part spec (index ++ d)) (data_part spec (index ++ d)) m

    asked-plain : Plain (asked_checks spec shard m)
    unfolding asked_checks
    asked-plain = (refl, (refl, (refl, tt)))

    pub count_as_joined : length index ≡ index_length_of spec → pair_count spec shard index d m ≡ count_answer spec shard (index ++ d) m
    unfolding pair_count pair_asked_checks count_answer count_checks
    count_as_joined e =
        joined_by N.Refused (asked_checks spec shard m) (asked_in spec shard m) spec index e _
        (at_both N.Refused N.Faulty (asked_checks spec shard m) later _ (asked_in spec shard m) ∙ at_plain N.Refused N.Faulty (asked_checks spec shard m) _ asked-plain)

    module _ (out : List ℕ) where
      pub listing-kept-pair : (k : ℕ) (p : Option ℕ) → pair_listing spec shard index d m out ≡ refusal N.Refused N.Faulty k p → pair_listing_left spec shard index d m out ≡ out
      unfolding pair_listing pair_listing_left
      listing-kept-pair k p e = pair-kept N.Refused (pair_asked_checks spec shard m index) out (listing-kept spec shard (index ++ d) m out k p) e

      pub listing_as_joined : length index ≡ index_length_of spec
          → (pair_listing spec shard index d m out ≡ listing_answer spec shard (index ++ d) m out) × (pair_listing_left spec shard index d m out ≡ listing_left spec shard (index ++ d) m out)
      unfolding pair_listing pair_listing_left pair_asked_checks listing_answer listing_left listing_checks count_checks asked_checks
      listing_as_joined e =
          let asked = asked_checks spec shard m in
          let all = later ++ (room (listing_of spec (index ++ d) m) out ∷ []) in (
            joined_by N.Refused asked (asked_in spec shard m) spec index e _
                (at_both N.Refused N.Faulty asked all _ (asked_in spec shard m) ∙ at_plain N.Refused N.Faulty asked _ asked-plain),
            joined_by (λ k. out) asked (asked_in spec shard m) spec index e _
                (answered-both (λ k. out) asked all (over (listing_of spec (index ++ d) m) out) (asked_in spec shard m)),
          )

  pub unlisted_as_joined : length index ≡ index_length_of spec → pair_unlisted spec shard index d ≡ unlisted_answer spec shard (index ++ d)
  unfolding pair_unlisted shard_checks file_checks
  unlisted_as_joined e = as_joined_at N.Refused N.Faulty spec (no_such_shard spec shard) index e (unlisted-refuses spec shard (index ++ d))

  module _ (dropping : Bool) where
    pub length_as_joined : length index ≡ index_length_of spec → pair_length spec shard index d dropping ≡ length_answer spec shard (index ++ d) dropping
    unfolding pair_length settled_length_checks shard_checks file_checks
    length_as_joined e = as_joined_at N.Refused N.Faulty spec (no_such_shard spec shard) index e (length-refuses spec shard (index ++ d) dropping)

    module _ (out : List ℕ) where
      pub settle-kept-pair : (k : ℕ) (p : Option ℕ) → pair_settle spec shard index d dropping out ≡ refusal N.Refused N.Faulty k p → pair_settle_left spec shard index d dropping out ≡ out
      unfolding pair_settle pair_settle_left
      settle-kept-pair k p e = pair-kept N.Refused (pair_checks spec (no_such_shard spec shard) index) out (settle-kept spec shard (index ++ d) dropping out k p) e

      pub settle_as_joined : length index ≡ index_length_of spec
          → (pair_settle spec shard index d dropping out ≡ settle_answer spec shard (index ++ d) dropping out) × (pair_settle_left spec shard index d dropping out ≡ settle_left spec shard (index ++ d) dropping out)
      unfolding pair_settle pair_settle_left settle_checks shard_checks file_checks
      settle_as_joined e = (
        as_joined_at N.Refused N.Faulty spec (no_such_shard spec shard) index e (settle-refuses spec shard (index ++ d) dropping out),
        left_as_joined N.Refused N.Faulty spec (no_such_shard spec shard) index out _ e (settle-refuses spec shard (index ++ d) dropping out) (settle-kept spec shard (index ++ d) dropping out),
      )
