use Rattle.sheet.proofs.one_turn.Turning.{turning-on}
use Rattle.sheet.proofs.one_turn.turned.Goals as goal

pub returns-then-head-eq0 : goal.returns-then-head-eq0
returns-then-head-eq0 c = search turning-on

pub returns-then-head-lt17 : goal.returns-then-head-lt17
returns-then-head-lt17 c = search turning-on

pub read_u32-n-requires : goal.read_u32-n-requires
read_u32-n-requires c = search turning-on

pub overflow_cast-n : goal.overflow_cast-n
overflow_cast-n c = search turning-on

pub returns-then-n-gt65536 : goal.returns-then-n-gt65536
returns-then-n-gt65536 c = search turning-on

pub returns-then-body-n : goal.returns-then-body-n
returns-then-body-n c = search turning-on

pub spec_in-requires : goal.spec_in-requires
spec_in-requires c = search turning-on

pub read_u64-requires : goal.read_u64-requires
read_u64-requires c = search turning-on

pub add-answer-requires : goal.add-answer-requires
add-answer-requires c = search turning-on

pub turn_by-requires : goal.turn_by-requires
turn_by-requires c = search turning-on

pub returns : goal.returns
returns c = search turning-on
