use Rattle.lookup_table.proofs.WaysOut.{calling}
use Rattle.lookup_table.proofs.fill_table.Goals as goal

pub index_range-range-requires : goal.index_range-range-requires
index_range-range-requires c = search calling

pub enum_known-range : goal.enum_known-range
enum_known-range c = search calling

pub rows_fill-requires : goal.rows_fill-requires
rows_fill-requires c = search calling

pub enum_known-range-in-Refused-1 : goal.enum_known-range-in-Refused-1
enum_known-range-in-Refused-1 c = search calling

pub empty_or-requires : goal.empty_or-requires
empty_or-requires c = search calling

pub enum_known-range-in-Faulty-1 : goal.enum_known-range-in-Faulty-1
enum_known-range-in-Faulty-1 c = search calling

pub shape_of-out : goal.shape_of-out
shape_of-out c = search calling

pub returns-in-Found : goal.returns-in-Found
returns-in-Found c = search calling

pub returns-in-Refused : goal.returns-in-Refused
returns-in-Refused c = search calling

pub returns-in-Faulty : goal.returns-in-Faulty
returns-in-Faulty c = search calling
