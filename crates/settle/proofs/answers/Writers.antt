-- A writer's answer as one of settling.
use Rattle.std.proofs.Common.{◌≡◌, ℕ, rules}
use Rattle.std.specs.Prelude.{Ok, Err}
use Rattle.refusal.specs.declared.Refusal.{Refusal}
use Rattle.refusal.specs.Table.{number_of}
use Rattle.refusal.specs.Answers.{Answer}
use Rattle.refusal.specs.declared.CountAnswer.TheVariants.{Count, Refused}
use Rattle.settle.specs.answers.Answers.{answer_of}

module _ {w : Answer ℕ} where
  pub answer-length : {n : ℕ} → w ≡ Ok n → Count n ≡ answer_of w
  answer-length e = rw e

  pub answer-refused : {k : Refusal} {n : ℕ} → w ≡ Err k → n ≡ number_of k → Refused n ≡ answer_of w
  answer-refused e h = rw (e, h)

pub ruleset telling = (answer-length, answer-refused, rules)
