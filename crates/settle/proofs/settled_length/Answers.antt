use Rattle.settle.proofs.WriteAnswers.{checked}
use Rattle.settle.proofs.settled_length.Goals as goal

pub check-requires : goal.check-requires
check-requires c = search checked

pub enum_told-1 : goal.enum_told-1
enum_told-1 c = search checked

pub index_length-n-requires : goal.index_length-n-requires
index_length-n-requires c = search checked

pub slice_bounds-length_answer-end : goal.slice_bounds-length_answer-end
slice_bounds-length_answer-end c = search checked

pub slice_bounds-length_answer-count : goal.slice_bounds-length_answer-count
slice_bounds-length_answer-count c = search checked

pub slice_bounds-length_answer-start : goal.slice_bounds-length_answer-start
slice_bounds-length_answer-start c = search checked

pub slice_bounds-length_answer-end-in-Sound : goal.slice_bounds-length_answer-end-in-Sound
slice_bounds-length_answer-end-in-Sound c = search checked

pub length_answer-requires : goal.length_answer-requires
length_answer-requires c = search checked

pub answer_of-requires : goal.answer_of-requires
answer_of-requires c = search checked

pub enum_known-number : goal.enum_known-number
enum_known-number c = search checked

pub enum_known-number-in-Faulty-1 : goal.enum_known-number-in-Faulty-1
enum_known-number-in-Faulty-1 c = search checked

pub returns-in-Sound : goal.returns-in-Sound
returns-in-Sound c = search checked

pub returns-in-Refused : goal.returns-in-Refused
returns-in-Refused c = search checked

pub returns-in-Faulty : goal.returns-in-Faulty
returns-in-Faulty c = search checked
