use Rattle.intake.proofs.admission.Tested.{refusing}
use Rattle.intake.proofs.admission.announce_refusal.Goals as goal

pub is_other-requires : goal.is_other-requires
is_other-requires c = search refusing

pub returns-then-is_other : goal.returns-then-is_other
returns-then-is_other c = search refusing

pub is_foreign-requires : goal.is_foreign-requires
is_foreign-requires c = search refusing

pub returns-then-is_foreign : goal.returns-then-is_foreign
returns-then-is_foreign c = search refusing

pub is_unusable-requires : goal.is_unusable-requires
is_unusable-requires c = search refusing

pub returns-then-is_unusable : goal.returns-then-is_unusable
returns-then-is_unusable c = search refusing

pub minishard_of-m-requires : goal.minishard_of-m-requires
minishard_of-m-requires c = search refusing

pub is_out_of_order-requires : goal.is_out_of_order-requires
is_out_of_order-requires c = search refusing

pub returns-then-is_out_of_order : goal.returns-then-is_out_of_order
returns-then-is_out_of_order c = search refusing

pub is_forged_turn-requires : goal.is_forged_turn-requires
is_forged_turn-requires c = search refusing

pub returns-then-is_forged_turn : goal.returns-then-is_forged_turn
returns-then-is_forged_turn c = search refusing

pub returns-then-state-gt0 : goal.returns-then-state-gt0
returns-then-state-gt0 c = search refusing

pub is_full-requires : goal.is_full-requires
is_full-requires c = search refusing

pub returns-then-is_full : goal.returns-then-is_full
returns-then-is_full c = search refusing

pub returns : goal.returns
returns c = search refusing
