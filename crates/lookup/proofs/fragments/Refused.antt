-- The call refuses by its checks.
use Rattle.std.proofs.Common.{ℕ, List, refl, arith}
use Rattle.refusal.specs.Result.{DecidedBy}
use Rattle.refusal.proofs.Results.{decided_at}
use Rattle.refusal.proofs.Picks.{AllIn, all_in_both}
use Rattle.refusal.proofs.Positions.{RefusesAt, refusing_at}
use Rattle.sharding.specs.declared.Sharding.{Sharding}
use Rattle.lookup.specs.declared.id_search.LookupAnswer.TheVariants.{Refused, Faulty}
use Rattle.lookup.specs.Find.{lookup_checks, lookup_result}
use Rattle.lookup.proofs.Refused.{all_in_lookup}
use Rattle.lookup.specs.fragments.Fragment.{fragment_before, fragment_checks, fragment_answer}

module _ (spec : Sharding) (shard : ℕ) (file : List ℕ) (id level node : ℕ) where
  all_in_fragment : AllIn (fragment_checks spec shard file id level node)
  unfolding fragment_checks
  all_in_fragment = all_in_both (lookup_checks spec shard file id) _ (all_in_lookup spec shard file id) ((omega arith, omega arith), tt)

  pub fragment-refuses : RefusesAt (fragment_answer spec shard file id level node) Refused Faulty (fragment_checks spec shard file id level node)
  unfolding fragment_answer fragment_before
  fragment-refuses =
      refusing_at Refused Faulty (λ j k e. cc) (λ j k p q e. (cc, cc)) (λ j k p e. cc) (fragment_checks spec shard file id level node) _ (λ k e. cc) (λ k p e. cc) all_in_fragment

  pub fragment_decided : DecidedBy (fragment_checks spec shard file id level node) (lookup_result (fragment_answer spec shard file id level node))
  unfolding fragment_answer fragment_before
  fragment_decided = decided_at lookup_result Refused (λ k t. refl) Faulty (λ k p. (refl, refl, refl)) (fragment_checks spec shard file id level node) _ refl all_in_fragment
