-- Laws of the place of an id.
use Prim.Native.Nat.{ℕ, ◌/◌, ◌%◌, ◌^◌, ◌<◌}
use mathlib.Core.Path.{◌≡◌, refl}
use mathlib.Core.Bool.{Bool, true, false, not}
use native.Mathlib.Nat.{mod-lt}
use lib.Pow.{pow_pos}
use borrow.Author.Tests.{eq-eqb, ne_eqb}
use Rattle.refusal.specs.Choice.{pick}
use Rattle.refusal.proofs.Picks.{by_picks}
use Rattle.murmur3.specs.Murmur.{murmur_hash}
use Rattle.sharding.specs.declared.Sharding.{Sharding}
use Rattle.sharding.specs.declared.placement.Place.{Place}
use Rattle.std.specs.Prelude.{Ok}
use Rattle.refusal.specs.Answers.{refuse}
use Rattle.sharding.specs.Specification.{murmur, allowed, minishard_count_of, shard_count_of, minishard_bits_of, shard_bits_of}
use Rattle.sharding.specs.placement.Place.{hashed_id, shard_of, minishard_of, place_of, place_checks, place_answer}

-- ---- the hashed id by its two kinds

pub murmur_hashed : (spec : Sharding) (id : ℕ) {n r : ℕ} → spec.hash ≡ murmur → n ≡ id / 2 ^ spec.preshift → r ≡ murmur_hash n → r ≡ hashed_id spec id
unfolding hashed_id
murmur_hashed spec id h p e = rw (eq-eqb spec.hash murmur h, ← p) e

pub identity_hashed : (spec : Sharding) (id : ℕ) {r : ℕ} → (spec.hash ≡ murmur → ⊥) → r ≡ id / 2 ^ spec.preshift → r ≡ hashed_id spec id
unfolding hashed_id
identity_hashed spec id h e = rw (ne_eqb spec.hash murmur h) e

-- ---- bounds

-- the rest of a division by a power of two
pub rest_below : (n k : ℕ) {r : ℕ} → r ≡ n % 2 ^ k → r < 2 ^ k
rest_below n k p = rw p (mod-lt n (pow_pos k))

pub minishard-below : (spec : Sharding) (id : ℕ) → minishard_of spec id < minishard_count_of spec
unfolding minishard_of
minishard-below spec id = rest_below _ (minishard_bits_of spec) refl

pub shard-below : (spec : Sharding) (id : ℕ) → shard_of spec id < shard_count_of spec
unfolding shard_of
shard-below spec id = rest_below _ (shard_bits_of spec) refl

-- ---- the two parts of a hashed id

pub minishard_bits_made : (spec : Sharding) (id : ℕ) {h r : ℕ} → h ≡ hashed_id spec id → r ≡ h % minishard_count_of spec → r ≡ minishard_of spec id
unfolding minishard_of
minishard_bits_made spec id p q = cc

pub shard_bits_made : (spec : Sharding) (id : ℕ) {h r : ℕ} → h ≡ hashed_id spec id → r ≡ h / minishard_count_of spec % shard_count_of spec → r ≡ shard_of spec id
unfolding shard_of
shard_bits_made spec id p q = cc

-- ---- the answer

-- as a choice for its one check
pub place_by_picks : (spec : Sharding) (id : ℕ) → place_answer spec id ≡ pick (not (allowed spec)) (refuse 1) (Ok (place_of spec id))
unfolding place_answer place_checks
place_by_picks spec id = by_picks refuse (place_checks spec) _ refl

pub answer_at : (spec : Sharding) (id : ℕ) {b : Bool} {p : Place} → b ≡ allowed spec → b ≡ true → p ≡ place_of spec id → Ok p ≡ place_answer spec id
answer_at spec id e t q = rw (place_by_picks spec id, ← e, t, q)

pub answer-refused : (spec : Sharding) (id : ℕ) {b : Bool} → b ≡ allowed spec → b ≡ false → refuse 1 ≡ place_answer spec id
answer-refused spec id e t = rw (place_by_picks spec id, ← e, t)

-- ---- of the id only the bits above the preshift count

same_hashed : (spec : Sharding) (a b : ℕ) → a / 2 ^ spec.preshift ≡ b / 2 ^ spec.preshift → hashed_id spec a ≡ hashed_id spec b
unfolding hashed_id
same_hashed spec a b e = rw e

pub same_place : (spec : Sharding) (a b : ℕ) → a / 2 ^ spec.preshift ≡ b / 2 ^ spec.preshift → place_of spec a ≡ place_of spec b
unfolding shard_of minishard_of
same_place spec a b e = rw (same_hashed spec a b e)
