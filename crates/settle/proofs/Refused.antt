-- Settling refuses by its checks, and then leaves the output as it was.
use Rattle.std.proofs.Common.{◌≡◌, ℕ, Bool, List, refl, arith}
use mathlib.Core.Option.{Option}
use Rattle.refusal.specs.Checks.{refusal}
use Rattle.refusal.specs.Result.{count_result, DecidedBy}
use Rattle.refusal.proofs.Results.{decided_at}
use Rattle.refusal.proofs.Picks.{AllIn, all_in_both}
use Rattle.refusal.proofs.Positions.{RefusesAt, refusing_at, keeping_at}
use Rattle.sharding.specs.declared.Sharding.{Sharding}
use Rattle.shard.specs.File.{shard_checks}
use Rattle.shard.proofs.Numbers.{shard_in}
use Rattle.refusal.specs.declared.CountAnswer.TheVariants.{Refused, Faulty}
use Rattle.settle.specs.answers.Answers.{unlisted_check, length_check, settle_check, settled_length_checks, length_answer, settle_checks, settle_answer, settle_left}

module _ (spec : Sharding) (shard : ℕ) (file : List ℕ) (dropping : Bool) where
  lengths_in : AllIn (settled_length_checks spec shard file dropping)
  unfolding settled_length_checks unlisted_check length_check
  lengths_in = all_in_both (shard_checks spec shard file) _ (shard_in spec shard file) ((omega arith, omega arith), ((omega arith, omega arith), tt))

  pub length-refuses : RefusesAt (length_answer spec shard file dropping) Refused Faulty (settled_length_checks spec shard file dropping)
  unfolding length_answer
  length-refuses = refusing_at Refused Faulty (λ j k e. cc) (λ j k p q e. (cc, cc)) (λ j k p e. cc) (settled_length_checks spec shard file dropping) _ (λ k e. cc) (λ k p e. cc) lengths_in

  pub length_decided : DecidedBy (settled_length_checks spec shard file dropping) (count_result (length_answer spec shard file dropping))
  unfolding length_answer
  length_decided = decided_at count_result Refused (λ k t. refl) Faulty (λ k p. (refl, refl, refl)) (settled_length_checks spec shard file dropping) _ refl lengths_in

  module _ (out : List ℕ) where
    settles_in : AllIn (settle_checks spec shard file dropping out)
    unfolding settle_checks unlisted_check settle_check
    settles_in = all_in_both (shard_checks spec shard file) _ (shard_in spec shard file) ((omega arith, omega arith), ((omega arith, omega arith), tt))

    pub settle-refuses : RefusesAt (settle_answer spec shard file dropping out) Refused Faulty (settle_checks spec shard file dropping out)
    unfolding settle_answer
    settle-refuses = refusing_at Refused Faulty (λ j k e. cc) (λ j k p q e. (cc, cc)) (λ j k p e. cc) (settle_checks spec shard file dropping out) _ (λ k e. cc) (λ k p e. cc) settles_in

    pub settle_decided : DecidedBy (settle_checks spec shard file dropping out) (count_result (settle_answer spec shard file dropping out))
    unfolding settle_answer
    settle_decided = decided_at count_result Refused (λ k t. refl) Faulty (λ k p. (refl, refl, refl)) (settle_checks spec shard file dropping out) _ refl settles_in

    pub settle-kept : (k : ℕ) (p : Option ℕ) → settle_answer spec shard file dropping out ≡ refusal Refused Faulty k p → settle_left spec shard file dropping out ≡ out
    unfolding settle_answer settle_left
    settle-kept k p e = keeping_at Refused Faulty (λ j k e. cc) (λ j k p q e. (cc, cc)) (λ j k p e. cc) (settle_checks spec shard file dropping out) _ (λ k e. cc) (λ k p e. cc) _ out k p e
