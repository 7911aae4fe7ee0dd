use Rattle.holdings.proofs.measures.Answered.{paired}
use Rattle.holdings.proofs.measures.measure_pair.Goals as goal

pub check-requires : goal.check-requires
check-requires c = search paired

pub enum_told-1 : goal.enum_told-1
enum_told-1 c = search paired

pub measured-requires : goal.measured-requires
measured-requires c = search paired

pub enum_known-number : goal.enum_known-number
enum_known-number c = search paired

pub enum_known-number-in-Faulty-1 : goal.enum_known-number-in-Faulty-1
enum_known-number-in-Faulty-1 c = search paired

pub returns-in-Sound : goal.returns-in-Sound
returns-in-Sound c = search paired

pub returns-in-Refused : goal.returns-in-Refused
returns-in-Refused c = search paired

pub returns-in-Faulty : goal.returns-in-Faulty
returns-in-Faulty c = search paired
