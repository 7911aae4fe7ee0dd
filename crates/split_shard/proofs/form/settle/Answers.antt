-- The settling, by what the check said.
use Rattle.split_shard.proofs.form.Settled.{settling}
use Rattle.split_shard.proofs.form.settle.Goals as goal

pub check-requires : goal.check-requires
check-requires c = search settling

pub enum_told-1 : goal.enum_told-1
enum_told-1 c = search settling

pub settle_answer-requires : goal.settle_answer-requires
settle_answer-requires c = (search settling, search settling)

pub answer_of-requires : goal.answer_of-requires
answer_of-requires c = search settling

pub enum_known-number : goal.enum_known-number
enum_known-number c = search settling

pub enum_known-number-in-Faulty-1 : goal.enum_known-number-in-Faulty-1
enum_known-number-in-Faulty-1 c = search settling

pub shape_of-out : goal.shape_of-out
shape_of-out c = search settling

pub returns-in-Sound : goal.returns-in-Sound
returns-in-Sound c = record { answer = search settling; out = search settling }

pub returns-in-Refused : goal.returns-in-Refused
returns-in-Refused c = record { answer = search settling; out = search settling }

pub returns-in-Faulty : goal.returns-in-Faulty
returns-in-Faulty c = record { answer = search settling; out = search settling }
