-- What the tests of a call say, by the way that they are reached: each law has the shape of a need.
use Prim.Native.Nat.{ℕ, ◌+◌, ◌*◌, ◌-◌, ◌≤◌, ◌<◌}
use mathlib.Core.Path.{◌≡◌, refl, sym, ◌∙◌}
use mathlib.Core.Bool.{Bool, true, false, not, ◌&&◌, ◌||◌}
use mathlib.Core.List.{List}
use native.Mathlib.Omega.{arith}
use lib.Dec.{ltb, leb, eqb}
use borrow.Author.Rules.{rules}
use borrow.Author.Tests.{ltb-true, ltb-false, lt-ltb, le-ltb, eq-eqb, ne_eqb}
use Rattle.refusal.proofs.Tests.{told-no, told-yes}
use Rattle.sharding.specs.Specification.{allowed}
use Rattle.sharding.specs.placement.Place.{shard_of, minishard_of}
use Rattle.intake.specs.declared.state.Intake.{Intake}
use Rattle.intake.specs.state.State.{most, announced_length, sane, announceable}
use Rattle.intake.specs.call_tests.Tests.{other_lengths, foreign, unusable, out_of_order, forged, forged_turn, count_in, no_room}
use Rattle.intake.proofs.call_tests.Passing.{same_lengths, unusable-parts}
use Rattle.intake.proofs.state.Passing.{Sane, sane-parts, volume-allowed}

-- ---- a state and its buffers

pub other-is : (s : Intake) (output waiting : ℕ) → not (eqb s.output output) || not (eqb s.waiting waiting) ≡ other_lengths s output waiting
unfolding other_lengths
other-is s output waiting = refl

pub told-length : (s : Intake) (output waiting : ℕ) {b : Bool} → b ≡ other_lengths s output waiting → b ≡ false → s.waiting ≡ waiting
told-length s output waiting p q = (same_lengths s output waiting (sym p ∙ q)).1

pub unusable_by : (s : Intake) (w : List ℕ) {r : Bool} → r ≡ sane s w → not r || not (eqb s.phase 0) ≡ unusable s w
unfolding unusable
unusable_by s w e = rw e

module _ (s : Intake) (w : List ℕ) {c : Bool} (u : c ≡ unusable s w) (v : c ≡ false) where
  usable_state : Sane s w
  usable_state = sane-parts s w (unusable-parts s w (sym u ∙ v)).0

  pub told-permitted : allowed s.spec ≡ true
  told-permitted = volume-allowed s.spec usable_state.volume

  pub told-room : announced_length s ≤ most s.output
  told-room = usable_state.room

  pub told-held : 16 * s.count ≤ s.waiting
  told-held = usable_state.held

  pub told-sane : sane s w ≡ true
  told-sane = (unusable-parts s w (sym u ∙ v)).0

-- ---- the end of the open minishard

pub forged_by : (s : Intake) (w : List ℕ) {r : Bool} → r ≡ announceable s w → not r ≡ forged s w
unfolding forged
forged_by s w e = rw e

module _ (s : Intake) (m id : ℕ) (w : List ℕ) (e : m ≡ minishard_of s.spec id) where
  pub turn-here : m ≡ s.minishard → false ≡ forged_turn s id w
  unfolding forged_turn
  turn-here z = rw (← e, eq-eqb m s.minishard z)

  pub turn_away : (m ≡ s.minishard → ⊥) → {r : Bool} → r ≡ forged s w → r ≡ forged_turn s id w
  unfolding forged_turn
  turn_away n h = rw (← e, ne_eqb m s.minishard n) h

-- ---- the tests of an announcement

module _ (s : Intake) (id : ℕ) {b : Bool} (p : b ≡ allowed s.spec) where
  pub foreign_spec : not b ≡ true → false ≡ foreign s id
  unfolding foreign
  foreign_spec q = rw (told-no p q)

  pub foreign-shard : not b ≡ false → {h : ℕ} → h ≡ shard_of s.spec id → not (eqb h s.shard) ≡ foreign s id
  unfolding foreign
  foreign-shard q e = rw (told-yes p q, e)

pub order_in : (s : Intake) (m id : ℕ) → m ≡ minishard_of s.spec id
    → ltb m s.minishard || (eqb m s.minishard && (ltb 0 s.count && leb id s.last)) ≡ out_of_order s id
unfolding out_of_order
order_in s m id e = rw e

module _ (s : Intake) (m : ℕ) where
  pub count_open : m ≡ s.minishard → s.count ≡ count_in s m
  unfolding count_in
  count_open e = rw (eq-eqb _ _ e)

  pub count-new : (m ≡ s.minishard → ⊥) → 0 ≡ count_in s m
  unfolding count_in
  count-new e = rw (ne_eqb m s.minishard e)

module _ (s : Intake) (m id size : ℕ) (e : m ≡ minishard_of s.spec id) {t a : ℕ} (f : t ≡ most s.output) (g : a ≡ announced_length s) (h : announced_length s ≤ most s.output) where
  pub full-index : t - a < 24 → true ≡ no_room s id size
  unfolding no_room
  full-index l = rw (lt-ltb (most s.output) (announced_length s + (size + 24)) (omega arith))

  pub full_size : 24 ≤ t - a → t - a - 24 < size → true ≡ no_room s id size
  unfolding no_room
  full_size k l = rw (lt-ltb (most s.output) (announced_length s + (size + 24)) (omega arith))

  pub full-waiting : 24 ≤ t - a → size ≤ t - a - 24 → {n : ℕ} → n ≡ count_in s m → n ≤ s.count → 16 * s.count ≤ s.waiting → ltb (s.waiting - 16 * n) 16 ≡ no_room s id size
  unfolding no_room
  full-waiting k l {n} q i r = rw (le-ltb (most s.output) (announced_length s + (size + 24)) (omega arith), ← e, ← q) (same_test s.waiting (16 * n) (omega arith))
    where
      same_test : (w x : ℕ) → x ≤ w → ltb (w - x) 16 ≡ ltb w (x + 16)
      same_test w x r = go (ltb w (x + 16)) refl
        where
          go : (b : Bool) → ltb w (x + 16) ≡ b → ltb (w - x) 16 ≡ ltb w (x + 16)
          go true t = lt-ltb (w - x) 16 (omega (arith, ltb-true w (x + 16) t)) ∙ sym t
          go false t = le-ltb (w - x) 16 (omega (arith, ltb-false w (x + 16) t)) ∙ sym t

pub ruleset asking = (
  other-is,
  told-length,
  unusable_by,
  forged_by,
  turn-here,
  turn_away,
  foreign_spec,
  foreign-shard,
  order_in,
  count_open,
  count-new,
  full-index,
  full_size,
  full-waiting,
  told-yes,
  rules,
)
