use Rattle.holdings.proofs.Answered.{measuring}
use Rattle.holdings.proofs.adding.add_measured.Goals as goal

pub enum_known-found : goal.enum_known-found
enum_known-found c = search measuring

pub sound_sheet-requires : goal.sound_sheet-requires
sound_sheet-requires c = search measuring

pub join-requires : goal.join-requires
join-requires c = search measuring

pub enum_known-found-in-Refused-1 : goal.enum_known-found-in-Refused-1
enum_known-found-in-Refused-1 c = search measuring

pub returns-then-number-eq27 : goal.returns-then-number-eq27
returns-then-number-eq27 c = search measuring

pub refused_sheet-requires : goal.refused_sheet-requires
refused_sheet-requires c = search measuring

pub join-requires-in-Refused : goal.join-requires-in-Refused
join-requires-in-Refused c = search measuring

pub enum_known-found-in-Faulty-1 : goal.enum_known-found-in-Faulty-1
enum_known-found-in-Faulty-1 c = search measuring

pub refused_sheet-requires-in-Faulty : goal.refused_sheet-requires-in-Faulty
refused_sheet-requires-in-Faulty c = search measuring

pub join-requires-in-Faulty : goal.join-requires-in-Faulty
join-requires-in-Faulty c = search measuring

pub returns-in-Sound : goal.returns-in-Sound
returns-in-Sound c = search measuring

pub returns-else-number-eq27 : goal.returns-else-number-eq27
returns-else-number-eq27 c = search measuring

pub returns-in-Faulty : goal.returns-in-Faulty
returns-in-Faulty c = search measuring
