use borrow.Author.Rules.{rules}
use Rattle.json_text.proofs.strings.Steps.{agree_start, agree_short, agree_end, char_inside, agree_no, char_room, agree_on}
use Rattle.json_text.proofs.strings.says.Goals as goal

pub loop-b-init : goal.loop-b-init
loop-b-init c = search agree_start

pub returns-then-n-eq0 : goal.returns-then-n-eq0
returns-then-n-eq0 c = search agree_short

pub ascii_at-requires : goal.ascii_at-requires
ascii_at-requires c = search char_inside

pub returns-then-ascii_at-b : goal.returns-then-ascii_at-b
returns-then-ascii_at-b c = search agree_no

pub overflow_add-i : goal.overflow_add-i
overflow_add-i c = search (char_room, rules)

pub loop-b-preserved : goal.loop-b-preserved
loop-b-preserved c = search agree_on

pub returns : goal.returns
returns c = search agree_end
