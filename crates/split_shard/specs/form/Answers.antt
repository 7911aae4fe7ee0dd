-- What calls on a pair answer and leave: 1, 5, of a listing 33, then 23, and then as for the joined file (RULES P2).
use Rattle.std.specs.Prelude.{ℕ, Bool, List, ◌++◌}
use Rattle.refusal.specs.Checks.{Check, answered, left}
use Rattle.sharding.specs.declared.Sharding.{Sharding}
use Rattle.sharding.specs.Specification.{no_such_shard}
use Rattle.split_shard.specs.seam.Pair.{then_seam, pair_answer}
use Rattle.refusal.specs.declared.CountAnswer.{CountAnswer}
use Rattle.refusal.specs.declared.CountAnswer.TheVariants as N
use Rattle.lookup.specs.listings.Listing.{asked_checks, count_answer, listing_answer, listing_left}
use Rattle.unlisted.specs.Answers.{unlisted_answer}
use Rattle.settle.specs.answers.Answers.{length_answer, settle_answer, settle_left}

-- ---- the listing of a minishard

-- 1, 5, 33 and 23 (RULES P1, L6)
unfoldable pub pair_asked_checks : Sharding → ℕ → ℕ → List ℕ → List Check
pair_asked_checks spec shard m index = then_seam (asked_checks spec shard m) spec index

-- RULES P2
unfoldable pub pair_count : Sharding → ℕ → List ℕ → List ℕ → ℕ → CountAnswer
pair_count spec shard index d m = answered N.Refused (pair_asked_checks spec shard m index) (count_answer spec shard (index ++ d) m)

-- the places listed are those in the joined file (RULES P2)
unfoldable pub pair_listing : Sharding → ℕ → List ℕ → List ℕ → ℕ → List ℕ → CountAnswer
pair_listing spec shard index d m out = answered N.Refused (pair_asked_checks spec shard m index) (listing_answer spec shard (index ++ d) m out)

unfoldable pub pair_listing_left : Sharding → ℕ → List ℕ → List ℕ → ℕ → List ℕ → List ℕ
pair_listing_left spec shard index d m out = left (pair_asked_checks spec shard m index) (listing_left spec shard (index ++ d) m out) out

-- ---- unlisted bytes, and the settled form, which is one file

-- RULES P2
unfoldable pub pair_unlisted : Sharding → ℕ → List ℕ → List ℕ → CountAnswer
pair_unlisted spec shard index d = pair_answer N.Refused spec (no_such_shard spec shard) index (unlisted_answer spec shard (index ++ d))

-- RULES P2
unfoldable pub pair_length : Sharding → ℕ → List ℕ → List ℕ → Bool → CountAnswer
pair_length spec shard index d dropping = pair_answer N.Refused spec (no_such_shard spec shard) index (length_answer spec shard (index ++ d) dropping)

-- RULES P2
unfoldable pub pair_settle : Sharding → ℕ → List ℕ → List ℕ → Bool → List ℕ → CountAnswer
pair_settle spec shard index d dropping out = pair_answer N.Refused spec (no_such_shard spec shard) index (settle_answer spec shard (index ++ d) dropping out)

unfoldable pub pair_settle_left : Sharding → ℕ → List ℕ → List ℕ → Bool → List ℕ → List ℕ
pair_settle_left spec shard index d dropping out = pair_answer (λ k. out) spec (no_such_shard spec shard) index (settle_left spec shard (index ++ d) dropping out)
