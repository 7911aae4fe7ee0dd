-- What each way out of the tests over rows shows.
use Rattle.std.proofs.Common.{◌≡◌, ℕ, ◌+◌, ◌*◌, ◌%◌, ◌^◌, ◌<◌, ◌≤◌, List, [], ◌∷◌, sym, refl, ap, ◌∙◌, arith, w64, Fits}
use Rattle.duplicate_ids.specs.Twice.{first_twice}
use Rattle.endian.specs.Range.{first}
use Rattle.endian.proofs.Ranges.{first-none, told_none}
use Rattle.sharding.specs.declared.Sharding.{Sharding}
use Rattle.shard.specs.declared.index.Fault.{Fault}
use Rattle.shard.specs.index.Index.{id_steps, start_steps, sizes}
use Rattle.shard.specs.index.Tests.{fault, first_of}
use Rattle.shard.proofs.index.Tests.{test_passed, test-failed}
use Rattle.shard.proofs.index.Tally.{Tally, tally-place}
use Rattle.shard.specs.Faults.{foreign_at, ends_past, id_test, place_test}
use Rattle.shard.proofs.Walks.{twice-first, twice-none}
use Rattle.lookup.specs.row_judge.Rows.{room_test, row_tests, Passed}

module _ (spec : Sharding) (shard m room at : ℕ) (rows : List ℕ) (n : ℕ) {i : ℕ} (t : i ≡ first_twice (id_steps rows 0) n) where
  pub fault-twice : {r : Fault} → r ≡ fault 9 (at + 8 * i) → i < n → r ≡ first_of at n (row_tests spec shard m room rows n)
  unfolding row_tests
  fault-twice u l =
      u ∙ ap (fault 9) (omega arith) ∙ sym (test-failed at n (id_test rows 0) _ (twice-first (id_steps rows 0) n t) l)

  module _ (k : n ≤ i) {j : ℕ} (w : j ≡ first (foreign_at spec shard m (id_steps rows 0)) n) where
    after-twice : first_of at n (row_tests spec shard m room rows n) ≡ first_of at n (place_test spec shard m rows 0 ∷ room_test room rows n ∷ [])
    unfolding row_tests
    after-twice = test_passed at n (id_test rows 0) _ (twice-none (id_steps rows 0) n t k)

    pub fault-foreign : {r : Fault} → r ≡ fault 10 (at + 8 * j) → j < n → r ≡ first_of at n (row_tests spec shard m room rows n)
    fault-foreign u l = u ∙ ap (fault 10) (omega arith) ∙ sym (test-failed at n (place_test spec shard m rows 0) _ w l) ∙ sym after-twice

    module _ (h : n ≤ j) {o : ℕ} (v : o ≡ first (ends_past room (start_steps rows 0 n) (sizes rows 0 n)) n) where
      none-foreign : n ≡ first (foreign_at spec shard m (id_steps rows 0)) n
      none-foreign = sym (first-none _ n (told_none _ n w h))

      after-foreign : first_of at n (row_tests spec shard m room rows n) ≡ first_of at n (room_test room rows n ∷ [])
      after-foreign = after-twice ∙ test_passed at n (place_test spec shard m rows 0) _ none-foreign

      pub fault_outside : {r : Fault} → r ≡ fault 11 (at + 8 * (n + o)) → o < n → r ≡ first_of at n (row_tests spec shard m room rows n)
      fault_outside u l = u ∙ ap (fault 11) (omega arith) ∙ sym (test-failed at n (room_test room rows n) [] v l) ∙ sym after-foreign

      pub fault-none : n ≤ o → fault 0 0 ≡ first_of at n (row_tests spec shard m room rows n)
      fault-none l = sym (after-foreign ∙ test_passed at n (room_test room rows n) [] (sym (first-none _ n (told_none _ n v l))) ∙ (unfold first_of in refl))

-- the place of a chunk in the file fits
pub row-place-fits : (base : ℕ) {rows : List ℕ} {n i cur end : ℕ} {f : ℕ → ℕ} → Passed base rows n → Tally f (start_steps rows 0 n) (sizes rows 0 n) n i cur end → i < n
    → {y v : ℕ} → y ≡ start_steps rows 0 n i → v ≡ (end + y) % 2 ^ 64 → Fits w64 (base + v)
row-place-fits base w r l e p = record { fits = omega (arith, w.inside _ l, w.near, tally-place r e p) }
