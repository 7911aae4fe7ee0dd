-- C's five numbers and the specification that they are: which numbers are refused, and that the others are the caller's own.
use Prim.Native.Nat.{ℕ, ◌<◌}
use mathlib.Core.Path.{◌≡◌, refl}
use mathlib.Core.Bool.{Bool, true, false}
use mathlib.Core.Logic.{◌⊎◌, ⊎_elim}
use native.Mathlib.Omega.{arith}
use borrow.Author.Rules.{rules}
use Rattle.sharding.specs.Specification.{allowed, Within}
use Rattle.sharding.proofs.Allowed.{allowed-within}
use Rattle.intake.specs.numbers.Numbers.{narrow}
use Rattle.coronagamba.specs.declared.numbers.CSharding.{CSharding}
use Rattle.coronagamba.specs.Specification.{given_sharding}

-- the need of `sharding_of`
pub sharding-told : (g : CSharding) {a b c d e : ℕ} → a ≡ narrow g.preshift → b ≡ narrow g.hash → c ≡ narrow g.minishard_bits → d ≡ narrow g.shard_bits → e ≡ narrow g.kind
    → record { preshift = a; hash = b; minishard_bits = c; shard_bits = d; kind = e } ≡ given_sharding g
unfolding given_sharding
sharding-told g p q r s t = λ i. record { preshift = p i; hash = q i; minishard_bits = r i; shard_bits = s i; kind = t i }

pub ruleset specifying = (sharding-told, rules)

-- a number above 255 stands in some field
unfoldable pub Above : CSharding → Type 0
Above g = (255 < g.preshift) ⊎ ((255 < g.hash) ⊎ ((255 < g.minishard_bits) ⊎ ((255 < g.shard_bits) ⊎ (255 < g.kind))))

outside : (g : CSharding) → Within (given_sharding g) → Above g → ⊥
unfolding given_sharding Above
outside g w h =
    ⊎_elim (λ p. omega (arith, w.preshift))
    (⊎_elim (λ p. ⊎_elim (λ q. omega arith) (λ q. omega arith) w.hash)
    (⊎_elim (λ p. omega (arith, w.minishard))
    (⊎_elim (λ p. omega (arith, w.shard)) (λ p. ⊎_elim (λ q. omega arith) (λ q. omega arith) w.kind))))
    h

-- such numbers are no allowed specification: each call refuses them with 1
pub above-refused : (g : CSharding) → Above g → allowed (given_sharding g) ≡ false
above-refused g h = refused (allowed (given_sharding g)) refl
  where
    refused : (b : Bool) → allowed (given_sharding g) ≡ b → b ≡ false
    refused false e = refl
    refused true e = absurd (outside g (allowed-within e) h)

-- all others are the specification of the same numbers
pub within_same : (g : CSharding) → g.preshift < 256 → g.hash < 256 → g.minishard_bits < 256 → g.shard_bits < 256 → g.kind < 256
    → given_sharding g ≡ record { preshift = g.preshift; hash = g.hash; minishard_bits = g.minishard_bits; shard_bits = g.shard_bits; kind = g.kind }
unfolding given_sharding
within_same g a b c d e =
    let same : (n : ℕ) → n < 256 → narrow n ≡ n = λ n l. omega arith in
    rw (same g.preshift a, same g.hash b, same g.minishard_bits c, same g.shard_bits d, same g.kind e)
