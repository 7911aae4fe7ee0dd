use Rattle.holdings.proofs.measures.Answered.{checked}
use Rattle.holdings.proofs.measures.measure.Goals as goal

pub check-requires : goal.check-requires
check-requires c = search checked

pub enum_told-1 : goal.enum_told-1
enum_told-1 c = search checked

pub index_length-n-requires : goal.index_length-n-requires
index_length-n-requires c = search checked

pub slice_bounds-measured-end : goal.slice_bounds-measured-end
slice_bounds-measured-end c = search checked

pub slice_bounds-measured-count : goal.slice_bounds-measured-count
slice_bounds-measured-count c = search checked

pub slice_bounds-measured-start : goal.slice_bounds-measured-start
slice_bounds-measured-start c = search checked

pub slice_bounds-measured-end-in-Sound : goal.slice_bounds-measured-end-in-Sound
slice_bounds-measured-end-in-Sound c = search checked

pub measured-requires : goal.measured-requires
measured-requires c = search checked

pub enum_known-number : goal.enum_known-number
enum_known-number c = search checked

pub enum_known-number-in-Faulty-1 : goal.enum_known-number-in-Faulty-1
enum_known-number-in-Faulty-1 c = search checked

pub returns-in-Sound : goal.returns-in-Sound
returns-in-Sound c = search checked

pub returns-in-Refused : goal.returns-in-Refused
returns-in-Refused c = search checked

pub returns-in-Faulty : goal.returns-in-Faulty
returns-in-Faulty c = search checked
