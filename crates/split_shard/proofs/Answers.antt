-- Check and lookup of a pair, a law for each way out.
use Prim.Native.Nat.{ℕ, ◌-◌, ◌≤◌, ◌<◌}
use mathlib.Core.Path.{◌≡◌, refl, sym, ◌∙◌}
use mathlib.Core.Bool.{Bool, true, false, not}
use mathlib.Core.List.{List, ◌++◌}
use native.Mathlib.Omega.{arith}
use borrow.Author.Rules.{rules}
use borrow.Author.Tests.{le-leb, lt-leb, eq-eqb, ne_eqb}
use Rattle.refusal.specs.Checks.{answered}
use Rattle.refusal.proofs.Tests.{told-yes}
use Rattle.sharding.specs.declared.Sharding.{Sharding}
use Rattle.sharding.specs.Specification.{allowed, minishard_count_of, shard_count_of, no_such_shard}
use Rattle.sharding.specs.placement.Place.{shard_of}
use Rattle.shard.specs.declared.ShardFault.{ShardFault}
use Rattle.shard.specs.declared.CheckAnswer.TheVariants as C
use Rattle.shard.specs.Faults.{fault_of, first_fault, shard_fault}
use Rattle.shard.specs.File.{index_part, data_part, file_checks, check_verdict, check_answer}
use Rattle.shard.proofs.Numbers.{unless-some, unless-none}
use Rattle.split_shard.specs.seam.Pair.{length_number}
use Rattle.split_shard.proofs.seam.Pairs.{number_seamed, seamed_index, seamed_data, seam_measured, seam_short, pair_1, pair_5, pair-length, pair_inside}
use Rattle.lookup.specs.declared.id_search.LookupAnswer.{LookupAnswer}
use Rattle.lookup.specs.declared.id_search.LookupAnswer.TheVariants.{Refused}
use Rattle.lookup.specs.chosen_minishard.Chosen.{lookup_in}
use Rattle.lookup.proofs.Answers.{answer-files}
use Rattle.split_shard.specs.Answers.{pair_check, other_shard, pair_lookup}

-- ---- the check

module _ (spec : Sharding) (shard : ℕ) (index d : List ℕ) where
  pub check-files : check_answer spec shard (index ++ d)
      ≡ answered C.Refused (file_checks spec (no_such_shard spec shard) (index ++ d)) (check_verdict (shard_fault spec shard (index_part spec (index ++ d)) (data_part spec (index ++ d))))
  unfolding check_answer
  check-files = refl

  module _ {b : Bool} (p : b ≡ allowed spec) where
    pub check_spec : not b ≡ true → C.Refused 1 ≡ pair_check spec shard index d
    unfolding pair_check
    check_spec q = pair_1 C.Refused spec (no_such_shard spec shard) index d _ check-files p q

    module _ (q : not b ≡ false) {c : ℕ} (u : c ≡ shard_count_of spec) where
      pub check-shard : c ≤ shard → C.Refused 5 ≡ pair_check spec shard index d
      unfolding pair_check
      check-shard l = pair_5 C.Refused spec (no_such_shard spec shard) index d _ check-files p q (rw (← u) (le-leb c shard l))

      module _ (l : shard < c) {n : ℕ} (e : n ≡ length_number spec index d) where
        numbered : no_such_shard spec shard ≡ false
        numbered = rw (← u) (lt-leb c shard l)

        pub check-length : (n ≡ 0 → ⊥) → C.Refused n ≡ pair_check spec shard index d
        unfolding pair_check
        check-length z = pair-length C.Refused spec (no_such_shard spec shard) index d _ check-files p q numbered e z

        module _ (z : n ≡ 0) {k : ℕ} (m : k ≡ minishard_count_of spec) {f : ShardFault} (g : f ≡ first_fault (fault_of spec shard index d) 0 (k - 0)) where
          own : f ≡ shard_fault spec shard (index_part spec (index ++ d)) (data_part spec (index ++ d))
          unfolding shard_fault
          own =
              let s = number_seamed spec index d (sym e ∙ z) in
              let all : k - 0 ≡ minishard_count_of spec = omega arith in
              rw (seamed_index s, seamed_data s) (rw all at g)

          pub check_sound : f.number ≡ 0 → C.Sound ≡ pair_check spec shard index d
          unfolding pair_check
          check_sound w =
              pair_inside C.Refused spec (no_such_shard spec shard) index d _ check-files p q numbered e z
              (rw (← own) (unless-none (λ j. C.Faulty j f.minishard f.position) _ _ w))

          pub check-fault : (f.number ≡ 0 → ⊥) → C.Faulty f.number f.minishard f.position ≡ pair_check spec shard index d
          unfolding pair_check
          check-fault w =
              pair_inside C.Refused spec (no_such_shard spec shard) index d _ check-files p q numbered e z
              (rw (← own) (unless-some (λ j. C.Faulty j f.minishard f.position) _ _ w))

pub ruleset checking = (check_spec, check-shard, check-length, check_sound, check-fault, seam_measured, seam_short, told-yes, rules)

-- ---- the lookup

module _ (spec : Sharding) (shard : ℕ) (index d : List ℕ) (id : ℕ) {b : Bool} (p : b ≡ allowed spec) where
  pub lookup_spec : not b ≡ true → Refused 1 ≡ pair_lookup spec shard index d id
  unfolding pair_lookup
  lookup_spec q = pair_1 Refused spec (other_shard spec shard id) index d _ (answer-files spec shard (index ++ d) id) p q

  module _ (q : not b ≡ false) {c : ℕ} (u : c ≡ shard_count_of spec) where
    five : other_shard spec shard id ≡ true → Refused 5 ≡ pair_lookup spec shard index d id
    unfolding pair_lookup
    five f = pair_5 Refused spec (other_shard spec shard id) index d _ (answer-files spec shard (index ++ d) id) p q f

    pub lookup-shard : c ≤ shard → Refused 5 ≡ pair_lookup spec shard index d id
    lookup-shard l = five (rw (← u, le-leb c shard l))

    module _ (l : shard < c) {t : ℕ} (v : t ≡ shard_of spec id) where
      pub lookup-other : (t ≡ shard → ⊥) → Refused 5 ≡ pair_lookup spec shard index d id
      lookup-other n = five (rw (← u, lt-leb c shard l, ← v, ne_eqb t shard n))

      module _ (o : t ≡ shard) {n : ℕ} (e : n ≡ length_number spec index d) where
        owned : other_shard spec shard id ≡ false
        owned = rw (← u, lt-leb c shard l, ← v, eq-eqb t shard o)

        pub lookup-length : (n ≡ 0 → ⊥) → Refused n ≡ pair_lookup spec shard index d id
        unfolding pair_lookup
        lookup-length z = pair-length Refused spec (other_shard spec shard id) index d _ (answer-files spec shard (index ++ d) id) p q owned e z

        pub lookup-inside : n ≡ 0 → {a : LookupAnswer} → a ≡ lookup_in spec shard index d id → a ≡ pair_lookup spec shard index d id
        unfolding pair_lookup
        lookup-inside z g =
            let s = number_seamed spec index d (sym e ∙ z) in
            pair_inside Refused spec (other_shard spec shard id) index d _ (answer-files spec shard (index ++ d) id) p q owned e z (rw (seamed_index s, seamed_data s) g)

pub ruleset looking = (lookup_spec, lookup-shard, lookup-other, lookup-length, lookup-inside, seam_measured, seam_short, told-yes, rules)
