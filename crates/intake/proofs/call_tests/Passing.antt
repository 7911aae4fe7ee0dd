-- What each test tells that does not refuse.
use Prim.Native.Nat.{ℕ, ◌≤◌}
use mathlib.Core.Path.{◌≡◌}
use mathlib.Core.Bool.{true, false}
use mathlib.Core.List.{List}
use lib.Dec.{eqb}
use borrow.Author.Tests.{ltb-false, eqb-true, not-false}
use Rattle.refusal.proofs.Tests.{neither}
use Rattle.sharding.specs.Specification.{allowed}
use Rattle.sharding.specs.placement.Place.{shard_of, minishard_of}
use Rattle.intake.specs.declared.state.Intake.{Intake}
use Rattle.intake.specs.state.State.{sane, Usable}
use Rattle.intake.specs.call_tests.Tests.{other_lengths, foreign, unusable, out_of_order}
use Rattle.intake.proofs.state.Passing.{volume-allowed, sane-parts, open_below}

-- ---- a state

pub unusable-parts : (s : Intake) (w : List ℕ) → unusable s w ≡ false → (sane s w ≡ true) × (s.phase ≡ 0)
unfolding unusable
unusable-parts s w e = let a = neither _ _ e in (not-false _ a.0, eqb-true _ _ (not-false _ a.1))

pub same_lengths : (s : Intake) (output waiting : ℕ) → other_lengths s output waiting ≡ false → (s.output ≡ output) × (s.waiting ≡ waiting)
unfolding other_lengths
same_lengths s output waiting e = let a = neither _ _ e in (eqb-true _ _ (not-false _ a.0), eqb-true _ _ (not-false _ a.1))

pub usable : (s : Intake) (output waiting : ℕ) (w : List ℕ) → other_lengths s output waiting ≡ false → unusable s w ≡ false → Usable s output waiting
usable s output waiting w e f =
    let a = same_lengths s output waiting e in
    let b = unusable-parts s w f in
    let c = sane-parts s w b.0 in
    record {
      outputs = a.0;
      waits = a.1;
      permitted = volume-allowed s.spec c.volume;
      below = open_below s w (eqb s.count 0) c.either;
      held = c.held;
      room = c.room;
    }

-- ---- an announcement

pub not-below : (s : Intake) (id : ℕ) → out_of_order s id ≡ false → s.minishard ≤ minishard_of s.spec id
unfolding out_of_order
not-below s id e = ltb-false _ _ (neither _ _ e).0

pub foreign-ours : (s : Intake) (id : ℕ) → allowed s.spec ≡ true → foreign s id ≡ false → shard_of s.spec id ≡ s.shard
unfolding foreign
foreign-ours s id p e = eqb-true _ _ (not-false _ (rw p at e))
