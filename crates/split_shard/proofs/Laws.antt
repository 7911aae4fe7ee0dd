-- But for 23 the calls on a pair answer as for the joined file.
use Prim.Native.Nat.{ℕ, zero, suc}
use mathlib.Core.Path.{◌≡◌, refl}
use mathlib.Core.List.{List, ◌++◌}
use native.Mathlib.Omega.{arith}
use lib.ListN.{length}
use Rattle.refusal.specs.Checks.{first_number, unless}
use Rattle.sharding.specs.declared.Sharding.{Sharding}
use Rattle.sharding.specs.Specification.{no_such_shard}
use Rattle.shard.specs.declared.CheckAnswer.TheVariants as C
use Rattle.shard.specs.File.{index_length_of, file_checks, check_answer}
use Rattle.shard.proofs.Whole.{check-refuses}
use Rattle.split_shard.specs.seam.Pair.{pair_checks}
use Rattle.split_shard.proofs.seam.Pairs.{checks_seamed}
use Rattle.split_shard.proofs.seam.Refusals.{as_joined, as_joined_at}
use Rattle.lookup.specs.declared.id_search.LookupAnswer.TheVariants.{Refused, Faulty}
use Rattle.lookup.specs.Find.{lookup_checks, lookup_answer}
use Rattle.lookup.proofs.Refused.{lookup-refuses}
use Rattle.lookup.specs.fragments.Fragment.{fragment_checks, fragment_answer}
use Rattle.lookup.proofs.fragments.Refused.{fragment-refuses}
use Rattle.split_shard.specs.Answers.{pair_check, other_shard, pair_lookup, pair_fragment}

module _ (spec : Sharding) (shard : ℕ) (index d : List ℕ) where
  pub check_as_joined : length index ≡ index_length_of spec → pair_check spec shard index d ≡ check_answer spec shard (index ++ d)
  unfolding pair_check file_checks
  check_as_joined e = as_joined C.Refused spec (no_such_shard spec shard) index e (check-refuses spec shard (index ++ d))

  -- a pair of which 23 holds is not sound
  pub sound_seamed : pair_check spec shard index d ≡ C.Sound → (length index ≡ index_length_of spec) × (check_answer spec shard (index ++ d) ≡ C.Sound)
  unfolding pair_check
  sound_seamed e = go (first_number (pair_checks spec (no_such_shard spec shard) index)) refl e
    where
      go : (n : ℕ) → first_number (pair_checks spec (no_such_shard spec shard) index) ≡ n → unless C.Refused n (check_answer spec shard (index ++ d)) ≡ C.Sound
          → (length index ≡ index_length_of spec) × (check_answer spec shard (index ++ d) ≡ C.Sound)
      go zero z e = unfold unless in (checks_seamed spec (no_such_shard spec shard) index z, e)
      go (suc n) z e = unfold unless in (let y : ◌≡◌ {A = ℕ} 0 1 = cc in absurd (omega arith))

  module _ (id : ℕ) where
    pub lookup_as_joined : length index ≡ index_length_of spec → pair_lookup spec shard index d id ≡ lookup_answer spec shard (index ++ d) id
    unfolding pair_lookup lookup_checks file_checks
    lookup_as_joined e = as_joined_at Refused Faulty spec (other_shard spec shard id) index e (lookup-refuses spec shard (index ++ d) id)

    module _ (level node : ℕ) where
      pub fragment_as_joined : length index ≡ index_length_of spec → pair_fragment spec shard index d id level node ≡ fragment_answer spec shard (index ++ d) id level node
      unfolding pair_fragment fragment_checks lookup_checks file_checks
      fragment_as_joined e = as_joined_at Refused Faulty spec (other_shard spec shard id) index e (fragment-refuses spec shard (index ++ d) id level node)
