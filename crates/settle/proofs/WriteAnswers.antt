-- What settling a shard answers and leaves, by what the check said.
use Rattle.std.proofs.Common.{◌≡◌, ℕ, Bool, List, take, ap, ◌∙◌, rules}
use Rattle.refusal.specs.Answers.{Answer}
use Rattle.sharding.specs.declared.Sharding.{Sharding}
use Rattle.shard.specs.declared.CheckAnswer.{CheckAnswer}
use Rattle.shard.specs.declared.CheckAnswer.TheVariants.{Sound, Refused as CheckRefused, Faulty as CheckFaulty}
use Rattle.shard.specs.File.{index_length_of, check_answer}
use Rattle.shard.proofs.Split.{rest_of, rest-whole}
use Rattle.shard.proofs.AfterCheck.{passed_sound, passed_allowed, passed_held, passed_front}
use Rattle.unlisted.specs.stretches.Reading.{RangedShard}
use Rattle.unlisted.proofs.Counted.{sound_ranged}
use Rattle.settle.specs.length.Settleable.{SettleableShard}
use Rattle.refusal.specs.declared.CountAnswer.{CountAnswer}
use Rattle.refusal.specs.declared.CountAnswer.TheVariants.{Refused, Faulty}
use Rattle.settle.specs.answers.Answers.{answer_of, length_in, settle_in, left_in, length_answer, settle_answer, settle_left}
use Rattle.settle.proofs.answers.Answered.{length_by_check, settle_by_check, left_by_check}
use Rattle.settle.proofs.two_parts.WriteAnswers.{sound_settleable}

module _ (spec : Sharding) (shard : ℕ) (file : List ℕ) (dropping : Bool) {a : CheckAnswer} (e : a ≡ check_answer spec shard file) where
  -- the check refused
  module _ {k : ℕ} (q : a ≡ CheckRefused k) where
    pub length_stopped : Refused k ≡ length_answer spec shard file dropping
    length_stopped = rw (length_by_check spec shard file dropping, ← e, q)

    pub settle_stopped : (out : List ℕ) → Refused k ≡ settle_answer spec shard file dropping out
    settle_stopped out = rw (settle_by_check spec shard file dropping out, ← e, q)

    pub left_stopped : (out : List ℕ) → out ≡ settle_left spec shard file dropping out
    left_stopped out = rw (left_by_check spec shard file dropping out, ← e, q)

  -- it named a fault
  module _ {k m p : ℕ} (q : a ≡ CheckFaulty k m p) where
    pub length-faulty : Faulty k p ≡ length_answer spec shard file dropping
    length-faulty = rw (length_by_check spec shard file dropping, ← e, q)

    pub settle-faulty : (out : List ℕ) → Faulty k p ≡ settle_answer spec shard file dropping out
    settle-faulty out = rw (settle_by_check spec shard file dropping out, ← e, q)

    pub left-faulty : (out : List ℕ) → out ≡ settle_left spec shard file dropping out
    left-faulty out = rw (left_by_check spec shard file dropping out, ← e, q)

  -- it passed: the file by its two parts, as the code takes them
  module _ (q : a ≡ Sound) where
    module _ {n : ℕ} (c : n ≡ index_length_of spec) where
      pub passed_parts : SettleableShard spec (take n file) (rest_of n file)
      passed_parts = rw (rest-whole n file, c) (sound_settleable (passed_sound spec shard file e q))

      pub passed_ranges : RangedShard spec (take n file) (rest_of n file)
      passed_ranges = rw (rest-whole n file, c) (sound_ranged (passed_sound spec shard file e q))

      pub length_passed : {w : Answer ℕ} {r : CountAnswer} → w ≡ length_in spec (take n file) (rest_of n file) dropping → r ≡ answer_of w → r ≡ length_answer spec shard file dropping
      length_passed h g = rw (length_by_check spec shard file dropping, ← e, q) (g ∙ ap (λ (w : Answer ℕ). answer_of w) (rw (rest-whole n file, c) at h))

      pub settle_passed : (out : List ℕ) {w : Answer ℕ} {r : CountAnswer} → w ≡ settle_in spec (take n file) (rest_of n file) dropping out → r ≡ answer_of w → r ≡ settle_answer spec shard file dropping out
      settle_passed out h g = rw (settle_by_check spec shard file dropping out, ← e, q) (g ∙ ap (λ (w : Answer ℕ). answer_of w) (rw (rest-whole n file, c) at h))

      pub left_passed : (out : List ℕ) {o : List ℕ} → o ≡ left_in spec (take n file) (rest_of n file) dropping out → o ≡ settle_left spec shard file dropping out
      left_passed out h = rw (left_by_check spec shard file dropping out, ← e, q) (rw (rest-whole n file, c) at h)

pub ruleset checked = (length_stopped, settle_stopped, left_stopped, length-faulty, settle-faulty, left-faulty, passed_allowed, passed_held, passed_front, passed_parts, passed_ranges, length_passed, settle_passed, left_passed, rules)
