-- The answer of the whole-shard check, by the way that it is reached.
use Rattle.std.proofs.Common.{◌≡◌, ℕ, ◌-◌, ◌<◌, ◌≤◌, Bool, true, false, not, List, length, take, arith, le-leb}
use borrow.Author.Tests.{lt-leb}
use Rattle.refusal.specs.Choice.{pick}
use Rattle.refusal.proofs.Tests.{told-no, told-yes}
use Rattle.sharding.specs.declared.Sharding.{Sharding}
use Rattle.sharding.specs.Specification.{allowed, minishard_count_of, shard_count_of, no_such_shard}
use Rattle.shard.specs.declared.ShardFault.{ShardFault}
use Rattle.shard.specs.declared.CheckAnswer.TheVariants.{Sound, Refused, Faulty}
use Rattle.shard.specs.Faults.{fault_of, first_fault, shard_fault}
use Rattle.shard.specs.index.Index.{most_shard_bytes}
use Rattle.shard.specs.File.{index_length_of, index_part, data_part, bad_file_length, check_verdict, check_answer}
use Rattle.shard.proofs.Numbers.{unless-some, unless-none, file_picks}
use Rattle.shard.proofs.Split.{rest_of, rest-whole, length-short, length-long, length_good}

-- a file by its two parts, as the code takes them
pub parts-fault : (spec : Sharding) (file : List ℕ) (shard : ℕ) {n : ℕ} {r : ShardFault} → n ≡ index_length_of spec → {k : ℕ} → k ≡ minishard_count_of spec
    → r ≡ first_fault (fault_of spec shard (take n file) (rest_of n file)) 0 (k - 0) → r ≡ shard_fault spec shard (index_part spec file) (data_part spec file)
unfolding shard_fault
parts-fault spec file shard {n} e {k} c r = let all : k - 0 ≡ minishard_count_of spec = omega arith in rw (rest-whole n file, e, all) at r

-- its answer as a choice for each refusal
check_picks : (spec : Sharding) (shard : ℕ) (file : List ℕ) → check_answer spec shard file
    ≡ pick (not (allowed spec)) (Refused 1)
    (pick (no_such_shard spec shard) (Refused 5)
    (pick (bad_file_length spec (length file)) (Refused 6) (check_verdict (shard_fault spec shard (index_part spec file) (data_part spec file)))))
unfolding check_answer
check_picks spec shard file = file_picks spec (no_such_shard spec shard) file Refused _

module _ (spec : Sharding) (shard : ℕ) (file : List ℕ) {b : Bool} (p : b ≡ allowed spec) where
  pub check_disallowed : not b ≡ true → Refused 1 ≡ check_answer spec shard file
  check_disallowed q = rw (check_picks spec shard file, told-no p q)

  module _ (q : not b ≡ false) {c : ℕ} (u : c ≡ shard_count_of spec) where
    pub check-shard : c ≤ shard → Refused 5 ≡ check_answer spec shard file
    check-shard l = rw (check_picks spec shard file, told-yes p q, ← u, le-leb c shard l)

    module _ (l : shard < c) {n : ℕ} (w : n ≡ index_length_of spec) where
      pub check-short : length file < n → Refused 6 ≡ check_answer spec shard file
      check-short k = rw (check_picks spec shard file, told-yes p q, ← u, lt-leb c shard l, length-short spec w k)

      pub check-long : most_shard_bytes < length file → Refused 6 ≡ check_answer spec shard file
      check-long k = rw (check_picks spec shard file, told-yes p q, ← u, lt-leb c shard l, length-long spec (length file) k)

      module _ (k : n ≤ length file) (h : length file ≤ most_shard_bytes) {f : ShardFault}
          (e : f ≡ shard_fault spec shard (index_part spec file) (data_part spec file)) where
        pub check_sound : f.number ≡ 0 → Sound ≡ check_answer spec shard file
        check_sound z =
            rw (check_picks spec shard file, told-yes p q, ← u, lt-leb c shard l, length_good spec w k h, ← e) (unless-none (λ j. Faulty j f.minishard f.position) _ _ z)

        pub check-fault : (f.number ≡ 0 → ⊥) → Faulty f.number f.minishard f.position ≡ check_answer spec shard file
        check-fault z =
            rw (check_picks spec shard file, told-yes p q, ← u, lt-leb c shard l, length_good spec w k h, ← e) (unless-some (λ j. Faulty j f.minishard f.position) _ _ z)
