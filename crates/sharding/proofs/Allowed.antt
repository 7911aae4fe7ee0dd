-- An allowed specification is one that stays within the limits.
use Prim.Native.Nat.{ℕ, ◌*◌, ◌%◌, ◌^◌, ◌<◌, ◌≤◌}
use native.Mathlib.Nat.{one-mul}
use lib.Pow.{pow_pos, pow_mono, shl_exact}
use mathlib.Core.Bool.{Bool, true, false, not, ◌||◌, false≢true}
use mathlib.Core.Path.{◌≡◌, refl, sym, ◌∙◌}
use mathlib.Core.Logic.{◌⊎◌, inl, inr, ⊎_elim}
use native.Mathlib.Omega.{arith}
use lib.Dec.{eqb}
use borrow.Author.Tests.{ltb-false, le-ltb, eqb-true}
use Rattle.sharding.specs.declared.Sharding.{Sharding}
use Rattle.sharding.specs.Specification.{most_preshift, most_minishard_bits, most_shard_bits, identity, murmur, volume, mesh, minishard_bits_of, shard_bits_of, allowed, Within, minishard_count_of, shard_count_of}

none : (a b c d k : Bool) → not (a || (not b || (c || (d || not k)))) ≡ true → (a ≡ false) × ((b ≡ true) × ((c ≡ false) × ((d ≡ false) × (k ≡ true))))
none false true false false true e = (refl, (refl, (refl, (refl, refl))))
none false true false false false e = absurd (false≢true e)
none false true false true k e = absurd (false≢true e)
none false true true d k e = absurd (false≢true e)
none false false c d k e = absurd (false≢true e)
none true b c d k e = absurd (false≢true e)

either : (a b : Bool) → a || b ≡ true → (a ≡ true) ⊎ (b ≡ true)
either true b e = inl refl
either false b e = inr e

pub allowed-within : {spec : Sharding} → allowed spec ≡ true → Within spec
unfolding allowed
allowed-within {spec} e =
    let f = none _ _ _ _ _ e in
    record {
      preshift = ltb-false most_preshift spec.preshift f.0;
      hash =
          ⊎_elim (λ p. inl (eqb-true spec.hash identity p)) (λ p. inr (eqb-true spec.hash murmur p))
          (either _ _ f.1.0);
      minishard = ltb-false most_minishard_bits (minishard_bits_of spec) f.1.1.0;
      shard = ltb-false most_shard_bits (shard_bits_of spec) f.1.1.1.0;
      kind =
          ⊎_elim (λ p. inl (eqb-true spec.kind volume p)) (λ p. inr (eqb-true spec.kind mesh p))
          (either _ _ f.1.1.1.1);
    }

pub within-allowed : {spec : Sharding} → Within spec → allowed spec ≡ true
unfolding allowed
within-allowed {spec} w =
    rw (
      le-ltb most_preshift spec.preshift w.preshift,
      le-ltb most_minishard_bits (minishard_bits_of spec) w.minishard,
      le-ltb most_shard_bits (shard_bits_of spec) w.shard,
    )
    (known w.hash w.kind)
  where
    known : (spec.hash ≡ identity) ⊎ (spec.hash ≡ murmur) → (spec.kind ≡ volume) ⊎ (spec.kind ≡ mesh) → not (not (eqb spec.hash identity || eqb spec.hash murmur) || not (eqb spec.kind volume || eqb spec.kind mesh)) ≡ true
    known (inl e) (inl k) = rw (e, k)
    known (inl e) (inr k) = rw (e, k)
    known (inr e) (inl k) = rw (e, k)
    known (inr e) (inr k) = rw (e, k)

-- what a test of it tells
pub told-allowed : (spec : Sharding) {r : Bool} → r ≡ allowed spec → r ≡ true → allowed spec ≡ true
told-allowed spec p q = sym p ∙ q

-- what is allowed can be shifted by in a u64
pub preshift_shifts : (spec : Sharding) → allowed spec ≡ true → spec.preshift < 64
preshift_shifts spec e = let w : Within spec = allowed-within e in omega arith

pub minishard_shifts : (spec : Sharding) → allowed spec ≡ true → minishard_bits_of spec < 64
minishard_shifts spec e = let w : Within spec = allowed-within e in omega arith

pub shard_shifts : (spec : Sharding) → allowed spec ≡ true → shard_bits_of spec < 64
shard_shifts spec e = let w : Within spec = allowed-within e in omega arith

-- the counts have their limits too
pub minishards-most : (spec : Sharding) → allowed spec ≡ true → minishard_count_of spec ≤ 2 ^ most_minishard_bits
minishards-most spec e = let w : Within spec = allowed-within e in pow_mono w.minishard

pub shards-most : (spec : Sharding) → allowed spec ≡ true → shard_count_of spec ≤ 2 ^ most_shard_bits
shards-most spec e = let w : Within spec = allowed-within e in pow_mono w.shard

-- a power of two as the shift of one, up to that of the limit
pub power_within : {k m : ℕ} → k ≤ m → m < 64 → ((1 * 2 ^ k) % 2 ^ 64 ≡ 2 ^ k) × ((0 < (1 * 2 ^ k) % 2 ^ 64) × ((1 * 2 ^ k) % 2 ^ 64 ≤ 2 ^ m))
power_within {k} {m} h l =
    let e : (1 * 2 ^ k) % 2 ^ 64 ≡ 2 ^ k = shl_exact 1 k 64 (omega arith) (omega arith) ∙ one-mul (2 ^ k) in
    rw e (refl, (pow_pos k, pow_mono h))
