-- The four calls refuse by their checks, and then leave the buffers as they were.
use Prim.Native.Nat.{ℕ, zero, suc}
use mathlib.Core.Path.{◌≡◌, refl, ap}
use mathlib.Core.List.{List}
use native.Mathlib.Omega.{arith}
use lib.ListN.{length}
use Rattle.refusal.specs.declared.Refusal.{Refusal}
use Rattle.refusal.specs.Checks.{first_number, unless}
use Rattle.refusal.specs.Result.{DecidedBy}
use Rattle.refusal.proofs.Refusing.{keeping_by}
use Rattle.refusal.proofs.Results.{told, decided}
use Rattle.sharding.specs.declared.Sharding.{Sharding}
use Rattle.intake.specs.declared.state.Intake.{Intake}
use Rattle.intake.specs.declared.Closed.{Closed}
use Rattle.intake.specs.state.State.{announced_length}
use Rattle.intake.specs.admission.Refusals.{open_checks, announce_checks, part_checks, close_checks}
use Rattle.std.specs.Prelude.{Ok, Err}
use Rattle.refusal.specs.Answers.{refuse}
use Rattle.intake.specs.steps.Steps.{opened, announced, taken, closed}
use Rattle.intake.specs.Calls.{open_answer, open_left, announce_answer, announce_left, announce_waiting, part_answer, part_left, closes_with, close_answer, close_left, intake_result, close_result}

-- ---- an answer that is no refusal

next-told : (n : ℕ) (a b : Intake) → unless refuse n (Ok a) ≡ Ok b → (n ≡ 0) × (a ≡ b)
unfolding unless
next-told zero a b e = (refl, cc)
next-told (suc n) a b e = let z : ◌≡◌ {A = ℕ} 0 1 = cc in absurd (omega arith)

closed-told : (n : ℕ) (a b : Intake) (k l : ℕ) → unless refuse n (closes_with a k) ≡ closes_with b l → (n ≡ 0) × ((a ≡ b) × (k ≡ l))
unfolding unless
closed-told zero a b k l e =
    let q : ◌≡◌ {A = Closed} (record { state = a; length = k }) (record { state = b; length = l }) = cc in
    (refl, (ap (λ (c : Closed). c.state) q, ap (λ (c : Closed). c.length) q))
closed-told (suc n) a b k l e = let z : ◌≡◌ {A = ℕ} 0 1 = cc in absurd (omega arith)

-- ---- open

module _ (spec : Sharding) (shard : ℕ) (o w : List ℕ) where
  pub open_decided : DecidedBy (open_checks spec shard (length o)) (intake_result (open_answer spec shard o w))
  unfolding open_answer open_checks
  open_decided = decided intake_result refuse told _ _ refl refl refl

  pub open_keeps : (r : Refusal) → open_answer spec shard o w ≡ Err r → open_left spec shard o ≡ o
  unfolding open_answer open_left
  open_keeps r e = keeping_by (open_checks spec shard (length o)) (opened spec shard (length o) (length w)) _ o r e

  pub open_told : {s : Intake} → open_answer spec shard o w ≡ Ok s → (first_number (open_checks spec shard (length o)) ≡ 0) × (opened spec shard (length o) (length w) ≡ s)
  unfolding open_answer
  open_told {s} e = next-told (first_number (open_checks spec shard (length o))) (opened spec shard (length o) (length w)) s e

-- ---- announce

module _ (s : Intake) (id size : ℕ) (o w : List ℕ) where
  pub announce_decided : DecidedBy (announce_checks s id size (length o) w) (intake_result (announce_answer s id size o w))
  unfolding announce_answer announce_checks
  announce_decided = decided intake_result refuse told _ _ refl refl refl

  pub announce_keeps : (r : Refusal) → announce_answer s id size o w ≡ Err r → (announce_left s id size o w ≡ o) × (announce_waiting s id size o w ≡ w)
  unfolding announce_answer announce_left announce_waiting
  announce_keeps r e = (
    keeping_by (announce_checks s id size (length o) w) (announced s id size) _ o r e,
    keeping_by (announce_checks s id size (length o) w) (announced s id size) _ w r e,
  )

  pub announce_told : {t : Intake} → announce_answer s id size o w ≡ Ok t → (first_number (announce_checks s id size (length o) w) ≡ 0) × (announced s id size ≡ t)
  unfolding announce_answer
  announce_told {t} e = next-told (first_number (announce_checks s id size (length o) w)) (announced s id size) t e

-- ---- part

module _ (s : Intake) (b o w : List ℕ) where
  pub part_decided : DecidedBy (part_checks s (length b) (length o) w) (intake_result (part_answer s b o w))
  unfolding part_answer part_checks
  part_decided = decided intake_result refuse told _ _ refl refl refl

  pub part-keeps : (r : Refusal) → part_answer s b o w ≡ Err r → part_left s b o w ≡ o
  unfolding part_answer part_left
  part-keeps r e = keeping_by (part_checks s (length b) (length o) w) (taken s (length b)) _ o r e

  pub part-told : {t : Intake} → part_answer s b o w ≡ Ok t → (first_number (part_checks s (length b) (length o) w) ≡ 0) × (taken s (length b) ≡ t)
  unfolding part_answer
  part-told {t} e = next-told (first_number (part_checks s (length b) (length o) w)) (taken s (length b)) t e

-- ---- close

module _ (s : Intake) (o w : List ℕ) where
  pub close_decided : DecidedBy (close_checks s (length o) w) (close_result (close_answer s o w))
  unfolding close_answer close_checks
  close_decided = decided close_result refuse told _ _ refl refl refl

  pub close-keeps : (r : Refusal) → close_answer s o w ≡ Err r → close_left s o w ≡ o
  unfolding close_answer close_left
  close-keeps r e = keeping_by (close_checks s (length o) w) (record { state = closed s; length = announced_length s }) _ o r e

  pub close-told : {t : Intake} {n : ℕ} → close_answer s o w ≡ closes_with t n → (first_number (close_checks s (length o) w) ≡ 0) × ((closed s ≡ t) × (announced_length s ≡ n))
  unfolding close_answer
  close-told {t} {n} e = closed-told (first_number (close_checks s (length o) w)) (closed s) t (announced_length s) n e
