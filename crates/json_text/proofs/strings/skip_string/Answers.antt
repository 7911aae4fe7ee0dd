use borrow.Author.Rules.{rules}
use Rattle.json_text.proofs.strings.Steps.{pass_none, pass_start, pass_end, pass_bad, char_room, pass_less, pass_on}
use Rattle.json_text.proofs.tokens.Steps.{mark_room}
use Rattle.json_text.proofs.strings.skip_string.Goals as goal

pub returns-then-byte-ne34 : goal.returns-then-byte-ne34
returns-then-byte-ne34 c = search pass_none

pub overflow_add-i : goal.overflow_add-i
overflow_add-i c = search (mark_room, rules)

pub loop-at-init : goal.loop-at-init
loop-at-init c = search pass_start

pub overflow_add-result : goal.overflow_add-result
overflow_add-result c = search (mark_room, rules)

pub returns-then-byte-eq34 : goal.returns-then-byte-eq34
returns-then-byte-eq34 c = search pass_end

pub returns-then-n-eq0 : goal.returns-then-n-eq0
returns-then-n-eq0 c = search pass_bad

pub overflow_add-i-in-loop-at : goal.overflow_add-i-in-loop-at
overflow_add-i-in-loop-at c = search (char_room, rules)

pub loop-at-smaller : goal.loop-at-smaller
loop-at-smaller c = search pass_less

pub loop-at-preserved : goal.loop-at-preserved
loop-at-preserved c = search pass_on
