-- Each number that the check gives has a row.
use Prim.Native.Nat.{ℕ, zero, suc, ◌+◌}
use mathlib.Core.Path.{◌≡◌, refl}
use mathlib.Core.Bool.{Bool, true, false}
use mathlib.Core.Logic.{◌⊎◌, inl, inr}
use mathlib.Core.List.{List, [], ◌∷◌, ◌++◌}
use native.Mathlib.Omega.{arith}
use lib.ListN.{length}
use Rattle.refusal.specs.Choice.{pick}
use Rattle.refusal.specs.Checks.{Check, first_number, unless}
use Rattle.sharding.specs.declared.Sharding.{Sharding}
use Rattle.sharding.specs.Specification.{is_mesh, minishard_count_of, no_such_shard}
use Rattle.shard.specs.index.Index.{entry_start_of, entry_end_of, entry_count}
use Rattle.shard.specs.index.Tests.{EntryTest}
use Rattle.shard.specs.manifests.Mesh.{manifest_tests}
use Rattle.shard.specs.declared.CheckAnswer.{CheckAnswer}
use Rattle.shard.specs.declared.CheckAnswer.TheVariants.{Sound, Refused, Faulty}
use Rattle.shard.specs.Faults.{entry_tests, shard_fault}
use Rattle.shard.specs.Checks.{entry_checks, minishard_checks, minishards_checks}
use Rattle.shard.specs.File.{index_part, data_part, file_checks, check_answer}
use Rattle.shard.proofs.Numbers.{minishards-number}
use Rattle.split_shard.specs.seam.Pair.{pair_checks}
use Rattle.split_shard.specs.Answers.{pair_check}
use Rattle.holdings.specs.one_shard.Sheet.{has_row}

-- ---- checks

abbrev Rowed : List Check → Type 0
Rowed [] = Unit {0}
Rowed (c ∷ cs) = (has_row c.number ≡ true) × Rowed cs

rowed_both : (xs ys : List Check) → Rowed xs → Rowed ys → Rowed (xs ++ ys)
rowed_both [] ys h k = k
rowed_both (c ∷ cs) ys h k = (h.0, rowed_both cs ys h.1 k)

-- 0, or a number with a row
abbrev HasRow : ℕ → Type 0
HasRow k = (k ≡ 0) ⊎ (has_row k ≡ true)

rowed_pick : (b : Bool) (k n : ℕ) → has_row k ≡ true → HasRow n → HasRow (pick b k n)
rowed_pick true k n e h = inr e
rowed_pick false k n e h = h

first_rowed : (cs : List Check) → Rowed cs → HasRow (first_number cs)
unfolding first_number
first_rowed [] h = inl refl
first_rowed (c ∷ cs) h = rowed_pick c.holds c.number (first_number cs) h.0 (first_rowed cs h.1)

-- of a minishard
abbrev RowedTests : List EntryTest → Type 0
RowedTests [] = Unit {0}
RowedTests (t ∷ ts) = (has_row t.number ≡ true) × RowedTests ts

entries_rowed : (p n : ℕ) (ts : List EntryTest) → RowedTests ts → Rowed (entry_checks p n ts)
unfolding entry_checks
entries_rowed p n [] h = tt
entries_rowed p n (t ∷ ts) h = (h.0, entries_rowed p n ts h.1)

module _ (spec : Sharding) (shard : ℕ) (index d : List ℕ) where
  mesh_rowed : (s n : ℕ) (b : Bool) → RowedTests (pick b (manifest_tests d s n) [])
  unfolding manifest_tests has_row
  mesh_rowed s n true = (refl, (refl, (refl, (refl, tt))))
  mesh_rowed s n false = tt

  tests_rowed : (m s n : ℕ) → RowedTests (entry_tests spec shard m d s n)
  unfolding entry_tests has_row
  tests_rowed m s n = (refl, (refl, (refl, mesh_rowed s n (is_mesh spec))))

  minishard_rowed : (m : ℕ) → Rowed (minishard_checks spec shard index d m)
  unfolding minishard_checks has_row
  minishard_rowed m =
      let s = entry_start_of index m in
      let n = entry_count s (entry_end_of index m) in
      (refl, (refl, entries_rowed (length index + s) n (entry_tests spec shard m d s n) (tests_rowed m s n)))

  minishards_rowed : (m k : ℕ) → Rowed (minishards_checks spec shard index d m k)
  unfolding minishards_checks
  minishards_rowed m zero = tt
  minishards_rowed m (suc k) = rowed_both (minishard_checks spec shard index d m) (minishards_checks spec shard index d (suc m) k) (minishard_rowed m) (minishards_rowed (suc m) k)

  fault_rowed : HasRow (shard_fault spec shard index d).number
  unfolding shard_fault
  fault_rowed = rw (minishards-number spec shard index d 0 (minishard_count_of spec)) at (first_rowed (minishards_checks spec shard index d 0 (minishard_count_of spec)) (minishards_rowed 0 (minishard_count_of spec)))

-- of a call
file_rowed : (spec : Sharding) (five : Bool) (file : List ℕ) → Rowed (file_checks spec five file)
unfolding file_checks has_row
file_rowed spec five file = (refl, (refl, (refl, tt)))

pair_rowed : (spec : Sharding) (five : Bool) (index : List ℕ) → Rowed (pair_checks spec five index)
unfolding pair_checks has_row
pair_rowed spec five index = (refl, (refl, (refl, tt)))

-- ---- answers

-- the check passes, or refuses with a number that has a row
abbrev pub Told : CheckAnswer → Type 0
Told Sound = Unit {0}
Told (Refused k) = has_row k ≡ true
Told (Faulty k m p) = has_row k ≡ true

told-unless : (n : ℕ) (a : CheckAnswer) → HasRow n → Told a → Told (unless Refused n a)
unfolding unless
told-unless zero a h t = t
told-unless (suc n) a (inl e) t = absurd (omega arith)
told-unless (suc n) a (inr e) t = e

told-verdict : (n m p : ℕ) → HasRow n → Told (unless (λ k. Faulty k m p) n Sound)
unfolding unless
told-verdict zero m p h = tt
told-verdict (suc n) m p (inl e) = absurd (omega arith)
told-verdict (suc n) m p (inr e) = e

pub check-told : (spec : Sharding) (shard : ℕ) (file : List ℕ) → Told (check_answer spec shard file)
unfolding check_answer
check-told spec shard file =
    let f = shard_fault spec shard (index_part spec file) (data_part spec file) in
    told-unless (first_number (file_checks spec (no_such_shard spec shard) file)) _ (first_rowed _ (file_rowed spec (no_such_shard spec shard) file))
    (told-verdict f.number f.minishard f.position (fault_rowed spec shard (index_part spec file) (data_part spec file)))

pub pair-told : (spec : Sharding) (shard : ℕ) (index d : List ℕ) → Told (pair_check spec shard index d)
unfolding pair_check
pair-told spec shard index d =
    told-unless (first_number (pair_checks spec (no_such_shard spec shard) index)) _ (first_rowed _ (pair_rowed spec (no_such_shard spec shard) index)) (check-told spec shard (index ++ d))
