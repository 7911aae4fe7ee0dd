-- The fault of a minishard by its entry in the shard index.
use Rattle.std.proofs.Common.{◌≡◌, ℕ, ◌+◌, ◌-◌, ◌%◌, ◌<◌, ◌≤◌, false, ltb, List, length, ◌∙◌, subst, ap₂, arith, le-ltb, lt-ltb, eq-eqb, ne_eqb}
use mathlib.Core.Bool.{and-false}
use native.Mathlib.Nat.{sub_self}
use Rattle.sharding.specs.declared.Sharding.{Sharding}
use Rattle.shard.specs.declared.index.Fault.{Fault}
use Rattle.shard.specs.index.Index.{entry_start_of, entry_end_of, entry_count}
use Rattle.shard.specs.index.Tests.{fault, entry_place, first_of}
use Rattle.shard.specs.Faults.{bad_entry, bad_length, entry_tests, fault_at, fault_of}
use Rattle.shard.proofs.index.Tests.{no-entries}

module _ (spec : Sharding) (shard m base : ℕ) (d : List ℕ) (s e : ℕ) where
  pub fault-before : e < s → fault 7 (entry_place m) ≡ fault_at spec shard m base d s e
  unfolding fault_at bad_entry
  fault-before l = rw (lt-ltb e s l)

  pub fault-empty : s ≡ e → fault 0 0 ≡ fault_at spec shard m base d s e
  unfolding fault_at bad_entry bad_length
  fault-empty l =
      subst (λ (k : ℕ). fault 0 0 ≡ fault_at spec shard m base d s k) l (rw (le-ltb s s (omega arith), sub_self s, no-entries (base + s) (entry_tests spec shard m d s 0)))

  pub fault_past : s ≤ e → (s ≡ e → ⊥) → length d < e → fault 7 (entry_place m) ≡ fault_at spec shard m base d s e
  unfolding fault_at bad_entry
  fault_past l n k = rw (le-ltb e s l, lt-ltb s e (omega arith), lt-ltb (length d) e k)

  module _ (l : s ≤ e) (k : e ≤ length d) where
    entry_good : bad_entry d s e ≡ false
    unfolding bad_entry
    entry_good = rw (le-ltb e s l, le-ltb (length d) e k) (and-false (ltb s e))

    pub fault_ragged : ((e - s) % 24 ≡ 0 → ⊥) → fault 8 (entry_place m) ≡ fault_at spec shard m base d s e
    unfolding fault_at bad_length
    fault_ragged n = rw (entry_good, ne_eqb ((e - s) % 24) 0 n)

    pub fault-entries : (e - s) % 24 ≡ 0 → first_of (base + s) (entry_count s e) (entry_tests spec shard m d s (entry_count s e)) ≡ fault_at spec shard m base d s e
    unfolding fault_at bad_length
    fault-entries z = rw (entry_good, eq-eqb ((e - s) % 24) 0 z)

-- the fault of minishard m from its entry
pub fault-entry : (spec : Sharding) (shard m : ℕ) (x d : List ℕ) {s e : ℕ} {r : Fault} → s ≡ entry_start_of x m → e ≡ entry_end_of x m
    → r ≡ fault_at spec shard m (length x) d s e → r ≡ fault_of spec shard x d m
unfolding fault_of
fault-entry spec shard m x d p q r = r ∙ ap₂ (λ (i j : ℕ). fault_at spec shard m (length x) d i j) p q
