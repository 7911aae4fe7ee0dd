-- The place behind the seam, by what was found.
use Rattle.split_shard.proofs.Parts.{moving}
use Rattle.split_shard.proofs.data_part.in_data.Goals as goal

pub enum_known-found : goal.enum_known-found
enum_known-found c = search moving

pub overflow_sub-result : goal.overflow_sub-result
overflow_sub-result c = search moving

pub enum_known-found-in-Refused-1 : goal.enum_known-found-in-Refused-1
enum_known-found-in-Refused-1 c = search moving

pub enum_known-found-in-Faulty-1 : goal.enum_known-found-in-Faulty-1
enum_known-found-in-Faulty-1 c = search moving

pub returns-in-Found : goal.returns-in-Found
returns-in-Found c = search moving

pub returns-in-Refused : goal.returns-in-Refused
returns-in-Refused c = search moving

pub returns-in-Faulty : goal.returns-in-Faulty
returns-in-Faulty c = search moving
