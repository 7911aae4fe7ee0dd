-- What was allowed before order 4 is allowed now, and of volumes only from 13 to 16 minishard bits the two judge otherwise.
use Prim.Native.Nat.{ℕ, ◌<◌}
use mathlib.Core.Bool.{Bool, true, false, not, ◌||◌, false≢true}
use mathlib.Core.Path.{◌≡◌, refl, sym, ◌∙◌}
use native.Mathlib.Omega.{arith}
use lib.Dec.{ltb, eqb}
use borrow.Author.Tests.{ltb-true, ltb-false, lt-ltb, le-ltb, eqb-true}
use Rattle.sharding.specs.declared.Sharding.{Sharding}
use Rattle.sharding.specs.Specification.{most_preshift, most_minishard_bits, most_shard_bits, identity, murmur, volume, minishard_bits_of, shard_bits_of, allowed}
use Rattle.sharding.specs.Before.{most_minishard_bits_before, allowed_before}

same_limit : (n : ℕ) → (most_minishard_bits_before < n → most_minishard_bits < n) → ltb most_minishard_bits_before n ≡ ltb most_minishard_bits n
same_limit n f = go (ltb most_minishard_bits_before n) refl
  where
    go : (t : Bool) → ltb most_minishard_bits_before n ≡ t → t ≡ ltb most_minishard_bits n
    go true e = sym (lt-ltb most_minishard_bits n (f (ltb-true most_minishard_bits_before n e)))
    go false e = let h = ltb-false most_minishard_bits_before n e in sym (le-ltb most_minishard_bits n (omega arith))

too_many : (a b d : Bool) → not (a || (not b || (true || d))) ≡ false
too_many true b d = refl
too_many false true d = refl
too_many false false d = refl

volumes : (a b c d k : Bool) → not (a || (not b || (c || (d || not k)))) ≡ true → k ≡ true
volumes false true false false true e = refl
volumes false true false false false e = absurd (false≢true e)
volumes false true false true k e = absurd (false≢true e)
volumes false true true d k e = absurd (false≢true e)
volumes false false c d k e = absurd (false≢true e)
volumes true b c d k e = absurd (false≢true e)

module _ (spec : Sharding) where
  pub same-allowed :
      spec.kind ≡ volume
      → (most_minishard_bits_before < minishard_bits_of spec → most_minishard_bits < minishard_bits_of spec)
      → allowed_before spec ≡ allowed spec
  unfolding allowed allowed_before
  same-allowed v f = rw (v, same_limit (minishard_bits_of spec) f)

  pub refused-before : most_minishard_bits_before < minishard_bits_of spec → allowed_before spec ≡ false
  unfolding allowed_before
  refused-before h =
      rw (lt-ltb most_minishard_bits_before (minishard_bits_of spec) h)
      (too_many (ltb most_preshift spec.preshift) (eqb spec.hash identity || eqb spec.hash murmur) (ltb most_shard_bits (shard_bits_of spec) || not (eqb spec.kind volume)))

  -- only volumes were
  pub volume-before : allowed_before spec ≡ true → spec.kind ≡ volume
  unfolding allowed_before
  volume-before e =
      eqb-true spec.kind volume
      (volumes (ltb most_preshift spec.preshift) (eqb spec.hash identity || eqb spec.hash murmur) (ltb most_minishard_bits_before (minishard_bits_of spec)) (ltb most_shard_bits (shard_bits_of spec)) (eqb spec.kind volume) e)

  -- what was allowed is judged as it was
  pub same-before : allowed_before spec ≡ true → allowed_before spec ≡ allowed spec
  same-before e = same-allowed (volume-before e) (λ h. absurd (false≢true (sym (refused-before h) ∙ e)))
