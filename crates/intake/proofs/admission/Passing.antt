-- What a call that is not refused tells.
use Prim.Native.Nat.{ℕ, ◌+◌, ◌*◌, ◌≤◌, ◌<◌}
use mathlib.Core.Path.{◌≡◌, refl}
use mathlib.Core.Bool.{Bool, true, false}
use mathlib.Core.List.{List, ◌∷◌}
use native.Mathlib.Omega.{arith}
use lib.ListN.{length}
use borrow.Author.Tests.{ltb-false}
use Rattle.refusal.specs.Choice.{pick}
use Rattle.refusal.specs.Checks.{Check, first_number}
use Rattle.refusal.proofs.Tests.{neither}
use Rattle.sharding.specs.declared.Sharding.{Sharding}
use Rattle.sharding.specs.Specification.{no_such_shard}
use Rattle.sharding.specs.placement.Place.{minishard_of}
use Rattle.shard.specs.File.{index_length_of}
use Rattle.intake.specs.declared.state.Intake.{Intake}
use Rattle.intake.specs.state.State.{most, announced_length, not_volume, Usable}
use Rattle.intake.specs.call_tests.Tests.{foreign, unusable, out_of_order, forged, forged_turn, count_in, no_room}
use Rattle.intake.specs.admission.Refusals.{open_checks, announce_checks, part_checks, close_checks}
use Rattle.intake.proofs.call_tests.Passing.{usable}

-- ---- the four calls: what the number 0 tells

-- of the first check and those after it
passed : (c : Check) (cs : List Check) → 0 < c.number → first_number (c ∷ cs) ≡ 0 → (c.holds ≡ false) × (first_number cs ≡ 0)
unfolding first_number
passed c cs l e = go c.holds e
  where
    go : (b : Bool) → pick b c.number (first_number cs) ≡ 0 → (b ≡ false) × (first_number cs ≡ 0)
    go true f = absurd (omega arith)
    go false f = (refl, f)

no_more : (n : ℕ) → n ≤ 0 → n ≡ 0
no_more n h = omega arith

pub record Opens (spec : Sharding) (shard output : ℕ) : Type 0 where
  pub volume : not_volume spec ≡ false
  pub numbered : no_such_shard spec shard ≡ false
  pub room : index_length_of spec ≤ most output

pub opens : (spec : Sharding) (shard output : ℕ) → first_number (open_checks spec shard output) ≡ 0 → Opens spec shard output
unfolding open_checks
opens spec shard output e =
    let a = passed _ _ (omega arith) e in
    let b = passed _ _ (omega arith) a.1 in
    let c = passed _ _ (omega arith) b.1 in
    record { volume = a.0; numbered = b.0; room = ltb-false _ _ c.0 }

pub record Announces (s : Intake) (id size output : ℕ) (w : List ℕ) : Type 0 where
  pub usual : Usable s output (length w)
  pub usable : unusable s w ≡ false
  pub ours : foreign s id ≡ false
  pub order : out_of_order s id ≡ false
  pub turn : forged_turn s id w ≡ false
  pub paid : s.owed ≡ 0
  pub room : announced_length s + (size + 24) ≤ most s.output
  pub slot : 16 * count_in s (minishard_of s.spec id) + 16 ≤ s.waiting

pub announces : (s : Intake) (id size output : ℕ) (w : List ℕ) → first_number (announce_checks s id size output w) ≡ 0 → Announces s id size output w
unfolding announce_checks no_room
announces s id size output w e =
    let a = passed _ _ (omega arith) e in
    let b = passed _ _ (omega arith) a.1 in
    let c = passed _ _ (omega arith) b.1 in
    let d = passed _ _ (omega arith) c.1 in
    let f = passed _ _ (omega arith) d.1 in
    let g = neither _ _ c.0 in
    let k = neither _ _ g.1 in
    let h = neither _ _ f.0 in
    record {
      usual = usable s output (length w) w a.0 g.0;
      usable = g.0;
      ours = b.0;
      order = k.0;
      turn = k.1;
      paid = no_more s.owed (ltb-false 0 s.owed d.0);
      room = ltb-false _ _ h.0;
      slot = ltb-false _ _ h.1;
    }

pub record HandsPart (s : Intake) (n output : ℕ) (w : List ℕ) : Type 0 where
  pub usual : Usable s output (length w)
  pub usable : unusable s w ≡ false
  pub due : n ≤ s.owed

pub hands : (s : Intake) (n output : ℕ) (w : List ℕ) → first_number (part_checks s n output w) ≡ 0 → HandsPart s n output w
unfolding part_checks
hands s n output w e =
    let a = passed _ _ (omega arith) e in
    let b = passed _ _ (omega arith) a.1 in
    let c = passed _ _ (omega arith) b.1 in
    record { usual = usable s output (length w) w a.0 b.0; usable = b.0; due = ltb-false _ _ c.0 }

pub record Closes (s : Intake) (output : ℕ) (w : List ℕ) : Type 0 where
  pub usual : Usable s output (length w)
  pub usable : unusable s w ≡ false
  pub pairs : forged s w ≡ false
  pub paid : s.owed ≡ 0

pub closes : (s : Intake) (output : ℕ) (w : List ℕ) → first_number (close_checks s output w) ≡ 0 → Closes s output w
unfolding close_checks
closes s output w e =
    let a = passed _ _ (omega arith) e in
    let b = passed _ _ (omega arith) a.1 in
    let c = passed _ _ (omega arith) b.1 in
    let g = neither _ _ b.0 in
    record {
      usual = usable s output (length w) w a.0 g.0;
      usable = g.0;
      pairs = g.1;
      paid = no_more s.owed (ltb-false 0 s.owed c.0);
    }
