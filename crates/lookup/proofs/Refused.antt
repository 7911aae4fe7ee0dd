-- A lookup refuses by its checks.
use Rattle.std.proofs.Common.{ℕ, not, ◌||◌, eqb, List, refl, arith}
use Rattle.refusal.specs.Result.{DecidedBy}
use Rattle.refusal.proofs.Results.{decided_at}
use Rattle.refusal.proofs.Picks.{AllIn, all_in_both}
use Rattle.refusal.proofs.Positions.{RefusesAt, refusing_at}
use Rattle.sharding.specs.declared.Sharding.{Sharding}
use Rattle.sharding.specs.Specification.{no_such_shard}
use Rattle.sharding.specs.placement.Place.{shard_of, minishard_of}
use Rattle.shard.specs.Checks.{minishard_checks}
use Rattle.shard.specs.File.{index_part, data_part, file_checks}
use Rattle.shard.proofs.Numbers.{minishard_in, file_in}
use Rattle.lookup.specs.declared.id_search.LookupAnswer.TheVariants.{Refused, Faulty}
use Rattle.lookup.specs.id_search.Search.{chunk_of}
use Rattle.lookup.specs.chosen_minishard.Chosen.{chosen_checks, chosen_chunk}
use Rattle.lookup.specs.Find.{lookup_checks, lookup_answer, lookup_result}

chosen_in : (spec : Sharding) (shard : ℕ) (x d : List ℕ) (id : ℕ) → AllIn (chosen_checks spec shard x d id)
unfolding chosen_checks
chosen_in spec shard x d id =
    all_in_both (minishard_checks spec shard x d (minishard_of spec id)) _ (minishard_in spec shard x d (minishard_of spec id)) ((omega arith, omega arith), tt)

module _ (spec : Sharding) (shard : ℕ) (file : List ℕ) (id : ℕ) where
  pub all_in_lookup : AllIn (lookup_checks spec shard file id)
  unfolding lookup_checks
  all_in_lookup =
      all_in_both (file_checks spec (no_such_shard spec shard || not (eqb (shard_of spec id) shard)) file) _
      (file_in spec (no_such_shard spec shard || not (eqb (shard_of spec id) shard)) file) (chosen_in spec shard (index_part spec file) (data_part spec file) id)

  pub lookup-refuses : RefusesAt (lookup_answer spec shard file id) Refused Faulty (lookup_checks spec shard file id)
  unfolding lookup_answer chosen_chunk chunk_of
  lookup-refuses = refusing_at Refused Faulty (λ j k e. cc) (λ j k p q e. (cc, cc)) (λ j k p e. cc) (lookup_checks spec shard file id) _ (λ k e. cc) (λ k p e. cc) all_in_lookup

  pub lookup_decided : DecidedBy (lookup_checks spec shard file id) (lookup_result (lookup_answer spec shard file id))
  unfolding lookup_answer chosen_chunk chunk_of
  lookup_decided = decided_at lookup_result Refused (λ k t. refl) Faulty (λ k p. (refl, refl, refl)) (lookup_checks spec shard file id) _ refl all_in_lookup
