use Rattle.coronagamba.proofs.Intaken.{parting}
use Rattle.coronagamba.proofs.intakes.coronagamba_intake_part.Goals as goal

pub state_of-given-requires : goal.state_of-given-requires
state_of-given-requires c = search parting

pub part-requires : goal.part-requires
part-requires c = search parting

pub enum_known-next : goal.enum_known-next
enum_known-next c = search parting

pub bounds-state-12 : goal.bounds-state-12
bounds-state-12 c = search parting

pub bounds-state-13 : goal.bounds-state-13
bounds-state-13 c = search parting

pub enum_known-refusal : goal.enum_known-refusal
enum_known-refusal c = search parting

pub overflow_cast-result : goal.overflow_cast-result
overflow_cast-result c = search parting

pub shape_of-out-in-Ok : goal.shape_of-out-in-Ok
shape_of-out-in-Ok c = search parting

pub returns-in-Ok : goal.returns-in-Ok
returns-in-Ok c = record { answer = search parting; state = search parting; out = search parting }

pub shape_of-out-in-Err : goal.shape_of-out-in-Err
shape_of-out-in-Err c = search parting

pub returns-in-Err : goal.returns-in-Err
returns-in-Err c = record { answer = search parting; state = search parting; out = search parting }
