-- What a state that passes tells.
use Prim.Native.Nat.{ℕ, ◌+◌, ◌*◌, ◌-◌, ◌≤◌, ◌<◌}
use mathlib.Core.Path.{◌≡◌}
use mathlib.Core.Bool.{Bool, true, false, not}
use mathlib.Core.List.{List}
use native.Mathlib.Omega.{arith}
use lib.Dec.{eqb}
use lib.Pow.{pow_pos}
use borrow.Author.Tests.{leb-true, eqb-true, not-true, not-false}
use Rattle.refusal.specs.Choice.{pick}
use Rattle.refusal.proofs.Tests.{both, neither}
use Rattle.endian.specs.Range.{sum_to, every}
use Rattle.sharding.specs.declared.Sharding.{Sharding}
use Rattle.sharding.specs.Specification.{is_mesh, allowed, minishard_count_of, minishard_bits_of, no_such_shard}
use Rattle.sharding.specs.placement.Place.{shard_of, minishard_of}
use Rattle.sharding.proofs.placement.Placed.{minishard-below}
use Rattle.intake.specs.waiting.Held.{size_held}
use Rattle.intake.specs.declared.state.Intake.{Intake}
use Rattle.intake.specs.state.State.{most, announced_length, not_volume, fresh, belongs, placed, begun, waits, going, sane, follows, announceable}

-- ---- a specification

pub volume-allowed : (spec : Sharding) → not_volume spec ≡ false → allowed spec ≡ true
unfolding not_volume
volume-allowed spec e = not-false _ (neither _ _ e).0

pub volume-kind : (spec : Sharding) → not_volume spec ≡ false → is_mesh spec ≡ false
unfolding not_volume
volume-kind spec e = (neither (not (allowed spec)) (is_mesh spec) e).1

-- ---- a state

-- its parts as facts: with no chunk announced, and with some
pub record Fresh (s : Intake) : Type 0 where
  pub minishard : s.minishard ≡ 0
  pub last : s.last ≡ 0
  pub begin : s.begin ≡ 0
  pub next : s.next ≡ 0
  pub owed : s.owed ≡ 0

pub fresh-parts : (s : Intake) → fresh s ≡ true → Fresh s
unfolding fresh
fresh-parts s e =
    let a = both _ _ e in
    let b = both _ _ a.1 in
    let c = both _ _ b.1 in
    let d = both _ _ c.1 in
    record { minishard = eqb-true _ _ a.0; last = eqb-true _ _ b.0; begin = eqb-true _ _ c.0; next = eqb-true _ _ d.0; owed = eqb-true _ _ d.1 }

pub record Going (s : Intake) (w : List ℕ) : Type 0 where
  pub ours : shard_of s.spec s.last ≡ s.shard
  pub here : minishard_of s.spec s.last ≡ s.minishard
  pub ids : s.count - 1 ≤ s.last
  pub begun : begun s ≡ true
  pub waits : waits s w ≡ true

pub belongs-parts : (s : Intake) (id : ℕ) → belongs s id ≡ true → (shard_of s.spec id ≡ s.shard) × (minishard_of s.spec id ≡ s.minishard)
unfolding belongs
belongs-parts s id e = let a = both _ _ e in (eqb-true _ _ a.0, eqb-true _ _ a.1)

pub going-parts : (s : Intake) (w : List ℕ) → going s w ≡ true → Going s w
unfolding going placed
going-parts s w e =
    let a = both _ _ e in
    let b = both _ _ a.0 in
    let c = belongs-parts s s.last b.0 in
    let d = both _ _ a.1 in
    record { ours = c.0; here = c.1; ids = leb-true _ _ b.1; begun = d.0; waits = d.1 }

pub begun-ordered : (s : Intake) → begun s ≡ true → s.begin ≤ s.next
unfolding begun
begun-ordered s e = leb-true _ _ (both _ _ e).0

pub record Sane (s : Intake) (w : List ℕ) : Type 0 where
  pub volume : not_volume s.spec ≡ false
  pub numbered : no_such_shard s.spec s.shard ≡ false
  pub held : 16 * s.count ≤ s.waiting
  pub room : announced_length s ≤ most s.output
  pub either : pick (eqb s.count 0) (fresh s) (going s w) ≡ true

pub sane-parts : (s : Intake) (w : List ℕ) → sane s w ≡ true → Sane s w
unfolding sane
sane-parts s w e =
    let a = both _ _ e in
    let b = both _ _ a.1 in
    let c = both _ _ b.1 in
    let d = both _ _ c.1 in
    record { volume = not-true _ a.0; numbered = not-true _ b.0; held = leb-true _ _ c.0; room = leb-true _ _ d.0; either = d.1 }

-- the open minishard is one of the shard's
pub open_below : (s : Intake) (w : List ℕ) (b : Bool) → pick b (fresh s) (going s w) ≡ true → s.minishard < minishard_count_of s.spec
open_below s w true e = omega (arith, (fresh-parts s e).minishard, pow_pos (minishard_bits_of s.spec))
open_below s w false e = omega (arith, (going-parts s w e).here, minishard-below s.spec s.last)

-- and it began where the next byte goes or before that
pub open_ordered : (s : Intake) (w : List ℕ) (b : Bool) → pick b (fresh s) (going s w) ≡ true → s.begin ≤ s.next
open_ordered s w true e = omega (arith, (fresh-parts s e).begin)
open_ordered s w false e = begun-ordered s (going-parts s w e).begun

-- ---- the pairs that wait

pub announceable-parts : (s : Intake) (w : List ℕ) → announceable s w ≡ true
    → (every (follows s w) s.count ≡ true) × (s.begin + sum_to (size_held w) s.count ≡ s.next + s.owed)
unfolding announceable
announceable-parts s w e = let a = both _ _ e in (a.0, eqb-true _ _ a.1)
