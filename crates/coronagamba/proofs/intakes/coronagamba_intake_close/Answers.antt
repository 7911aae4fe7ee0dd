use Rattle.coronagamba.proofs.Intaken.{closing}
use Rattle.coronagamba.proofs.intakes.coronagamba_intake_close.Goals as goal

pub state_of-given-requires : goal.state_of-given-requires
state_of-given-requires c = search closing

pub close-requires : goal.close-requires
close-requires c = search closing

pub numbers_of-requires : goal.numbers_of-requires
numbers_of-requires c = search closing

pub overflow_cast-result : goal.overflow_cast-result
overflow_cast-result c = search closing

pub shape_of-out-in-Ok : goal.shape_of-out-in-Ok
shape_of-out-in-Ok c = search closing

pub returns-in-Ok : goal.returns-in-Ok
returns-in-Ok c = record { answer = search closing; state = search closing; out = search closing; length = search closing }

pub shape_of-out-in-Err : goal.shape_of-out-in-Err
shape_of-out-in-Err c = search closing

pub returns-in-Err : goal.returns-in-Err
returns-in-Err c = record { answer = search closing; state = search closing; out = search closing; length = search closing }
