use Rattle.intake.proofs.steps.Stepped.{admitting}
use Rattle.intake.proofs.steps.admit.Goals as goal

pub minishard_of-m-requires : goal.minishard_of-m-requires
minishard_of-m-requires c = search admitting

pub turn-next-requires : goal.turn-next-requires
turn-next-requires c = search admitting

pub overflow_mul-count : goal.overflow_mul-count
overflow_mul-count c = search admitting

pub put_pair-requires : goal.put_pair-requires
put_pair-requires c = search admitting

pub overflow_add-next : goal.overflow_add-next
overflow_add-next c = search admitting

pub returns : goal.returns
returns c = record { value = search admitting; out_after = search admitting; waiting_after = search admitting }
