-- The four calls by what the judge of each answers: what they answer and leave.
use Prim.Native.Nat.{ℕ, ◌+◌, ◌*◌, ◌≤◌}
use mathlib.Core.Path.{◌≡◌, sym, ◌∙◌}
use mathlib.Core.Bool.{true}
use mathlib.Core.List.{List}
use native.Mathlib.Omega.{arith}
use lib.ListN.{length, replicate}
use borrow.Author.Rules.{rules}
use Rattle.std.specs.Prelude.{Ok, Err}
use Rattle.refusal.specs.declared.Refusal.{Refusal}
use Rattle.refusal.specs.Checks.{Check, first_number}
use Rattle.refusal.specs.Answers.{refuse, judged}
use Rattle.refusal.proofs.Passed.{passed-none, passed-refused, passed-kept}
use Rattle.refusal.proofs.Refusing.{by_none}
use Rattle.endian.specs.Place.{paste}
use Rattle.sharding.specs.declared.Sharding.{Sharding}
use Rattle.sharding.specs.Specification.{allowed}
use Rattle.sharding.specs.placement.Place.{minishard_of}
use Rattle.shard.specs.File.{index_length_of}
use Rattle.intake.specs.waiting.Held.{pair}
use Rattle.intake.specs.declared.state.Intake.{Intake}
use Rattle.intake.specs.state.State.{most, announced_length, Usable}
use Rattle.intake.specs.call_tests.Tests.{count_in}
use Rattle.intake.specs.admission.Refusals.{open_checks, announce_checks, part_checks, close_checks}
use Rattle.intake.proofs.state.Passing.{volume-allowed}
use Rattle.intake.proofs.admission.Passing.{opens, hands, closes}
use Rattle.intake.specs.steps.Steps.{ended_left, turned_left, opened, announced, taken, closed}
use Rattle.intake.specs.Calls.{open_answer, open_left, announce_answer, announce_left, announce_waiting, part_answer, part_left, closes_with, close_answer, close_left}

-- ---- open

module _ (spec : Sharding) (shard : ℕ) (o : List ℕ) where
  module _ {r : Refusal} (e : Err r ≡ judged (first_number (open_checks spec shard (length o)))) where
    pub open_refused : (w : List ℕ) → Err r ≡ open_answer spec shard o w
    unfolding open_answer
    open_refused w = passed-refused (first_number (open_checks spec shard (length o))) e (Ok (opened spec shard (length o) (length w)))

    pub open_kept : o ≡ open_left spec shard o
    unfolding open_left
    open_kept = passed-kept (first_number (open_checks spec shard (length o))) e _ o

  module _ (z : first_number (open_checks spec shard (length o)) ≡ 0) where
    pub open_permitted : allowed spec ≡ true
    open_permitted = volume-allowed spec (opens spec shard (length o) z).volume

    pub open_room : index_length_of spec ≤ length o
    open_room = omega (arith, (opens spec shard (length o) z).room)

    pub open_next : (w : List ℕ) {r : Intake} → r ≡ opened spec shard (length o) (length w) → Ok r ≡ open_answer spec shard o w
    unfolding open_answer
    open_next w g = rw g (sym (by_none refuse (open_checks spec shard (length o)) _ z))

    pub open-left : {o₁ : List ℕ} → o₁ ≡ paste 0 (replicate (index_length_of spec) 0) o → o₁ ≡ open_left spec shard o
    unfolding open_left
    open-left g = g ∙ sym (by_none (λ k. o) (open_checks spec shard (length o)) _ z)

-- ---- announce

module _ (s : Intake) (id size : ℕ) (o w : List ℕ) where
  module _ {r : Refusal} (e : Err r ≡ judged (first_number (announce_checks s id size (length o) w))) where
    pub announce_refused : Err r ≡ announce_answer s id size o w
    unfolding announce_answer
    announce_refused = passed-refused (first_number (announce_checks s id size (length o) w)) e (Ok (announced s id size))

    pub announce_kept : o ≡ announce_left s id size o w
    unfolding announce_left
    announce_kept = passed-kept (first_number (announce_checks s id size (length o) w)) e _ o

    pub announce_kept-waiting : w ≡ announce_waiting s id size o w
    unfolding announce_waiting
    announce_kept-waiting = passed-kept (first_number (announce_checks s id size (length o) w)) e _ w

  module _ (z : first_number (announce_checks s id size (length o) w) ≡ 0) where
    pub announce_next : {r : Intake} → r ≡ announced s id size → Ok r ≡ announce_answer s id size o w
    unfolding announce_answer
    announce_next g = rw g (sym (by_none refuse (announce_checks s id size (length o) w) _ z))

    pub announce-left : {o₁ : List ℕ} → o₁ ≡ turned_left s (minishard_of s.spec id) o w → o₁ ≡ announce_left s id size o w
    unfolding announce_left
    announce-left g = g ∙ sym (by_none (λ k. o) (announce_checks s id size (length o) w) _ z)

    pub announce-waiting : {w₁ : List ℕ} → w₁ ≡ paste (16 * count_in s (minishard_of s.spec id)) (pair id size) w → w₁ ≡ announce_waiting s id size o w
    unfolding announce_waiting
    announce-waiting g = g ∙ sym (by_none (λ k. w) (announce_checks s id size (length o) w) _ z)

-- ---- part

module _ (s : Intake) (b o w : List ℕ) where
  module _ {r : Refusal} (e : Err r ≡ judged (first_number (part_checks s (length b) (length o) w))) where
    pub part-refused : Err r ≡ part_answer s b o w
    unfolding part_answer
    part-refused = passed-refused (first_number (part_checks s (length b) (length o) w)) e (Ok (taken s (length b)))

    pub part-kept : o ≡ part_left s b o w
    unfolding part_left
    part-kept = passed-kept (first_number (part_checks s (length b) (length o) w)) e _ o

  module _ (z : first_number (part_checks s (length b) (length o) w) ≡ 0) where
    pub part-permitted : allowed s.spec ≡ true
    part-permitted = (hands s (length b) (length o) w z).usual.permitted

    pub part_due : length b ≤ s.owed
    part_due = (hands s (length b) (length o) w z).due

    pub part_room : announced_length s ≤ length o
    part_room = let u = (hands s (length b) (length o) w z).usual in omega (arith, u.room, u.outputs)

    pub part-next : {r : Intake} → r ≡ taken s (length b) → Ok r ≡ part_answer s b o w
    unfolding part_answer
    part-next g = rw g (sym (by_none refuse (part_checks s (length b) (length o) w) _ z))

    pub part_left_lem : {o₁ : List ℕ} → o₁ ≡ paste (index_length_of s.spec + s.next) b o → o₁ ≡ part_left s b o w
    unfolding part_left
    part_left_lem g = g ∙ sym (by_none (λ k. o) (part_checks s (length b) (length o) w) _ z)

-- ---- close

module _ (s : Intake) (o w : List ℕ) where
  module _ {r : Refusal} (e : Err r ≡ judged (first_number (close_checks s (length o) w))) where
    pub close-refused : Err r ≡ close_answer s o w
    unfolding close_answer
    close-refused = passed-refused (first_number (close_checks s (length o) w)) e (closes_with (closed s) (announced_length s))

    pub close-kept : o ≡ close_left s o w
    unfolding close_left
    close-kept = passed-kept (first_number (close_checks s (length o) w)) e _ o

  module _ (z : first_number (close_checks s (length o) w) ≡ 0) where
    pub close_usable : Usable s (length o) (length w)
    close_usable = (closes s (length o) w z).usual

    pub close-permitted : allowed s.spec ≡ true
    close-permitted = close_usable.permitted

    pub close-room : announced_length s ≤ most s.output
    close-room = close_usable.room

    pub close-closed : {r : Intake} {l : ℕ} → r ≡ closed s → l ≡ announced_length s → closes_with r l ≡ close_answer s o w
    unfolding close_answer
    close-closed g h = rw (g, h) (sym (by_none refuse (close_checks s (length o) w) _ z))

    pub close-left : {o₁ : List ℕ} → o₁ ≡ ended_left s o w → o₁ ≡ close_left s o w
    unfolding close_left
    close-left g = g ∙ sym (by_none (λ k. o) (close_checks s (length o) w) _ z)

-- ---- of any call: the call that judges it passed

pub admitted : (checks : List Check) {x : Unit {0}} → Ok x ≡ judged (first_number checks) → first_number checks ≡ 0
admitted checks e = passed-none (first_number checks) e

pub ruleset calling = (
  admitted,
  open_permitted,
  open_room,
  open_next,
  open-left,
  announce_next,
  announce-left,
  announce-waiting,
  part-permitted,
  part_due,
  part_room,
  part-next,
  part_left_lem,
  close_usable,
  close-permitted,
  close-room,
  close-closed,
  close-left,
  rules,
)
