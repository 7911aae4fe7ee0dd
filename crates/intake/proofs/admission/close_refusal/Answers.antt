use Rattle.intake.proofs.admission.Tested.{refusing}
use Rattle.intake.proofs.admission.close_refusal.Goals as goal

pub is_other-requires : goal.is_other-requires
is_other-requires c = search refusing

pub returns-then-is_other : goal.returns-then-is_other
returns-then-is_other c = search refusing

pub is_unusable-requires : goal.is_unusable-requires
is_unusable-requires c = search refusing

pub returns-then-is_unusable : goal.returns-then-is_unusable
returns-then-is_unusable c = search refusing

pub is_forged-requires : goal.is_forged-requires
is_forged-requires c = search refusing

pub returns-then-is_forged : goal.returns-then-is_forged
returns-then-is_forged c = search refusing

pub returns-then-state-ne0 : goal.returns-then-state-ne0
returns-then-state-ne0 c = search refusing

pub returns : goal.returns
returns c = search refusing
