use Rattle.intake.proofs.admission.Tested.{refusing}
use Rattle.intake.proofs.admission.part_refusal.Goals as goal

pub is_other-requires : goal.is_other-requires
is_other-requires c = search refusing

pub returns-then-is_other : goal.returns-then-is_other
returns-then-is_other c = search refusing

pub is_unusable-requires : goal.is_unusable-requires
is_unusable-requires c = search refusing

pub returns-then-is_unusable : goal.returns-then-is_unusable
returns-then-is_unusable c = search refusing

pub returns-then-state-n : goal.returns-then-state-n
returns-then-state-n c = search refusing

pub returns : goal.returns
returns c = search refusing
