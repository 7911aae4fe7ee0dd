use Rattle.json_text.proofs.members.Items.{element-none, element-next}
use Rattle.json_text.proofs.members.next_element.Goals as goal

pub returns-then-e-eq0 : goal.returns-then-e-eq0
returns-then-e-eq0 c = search element-none

pub returns : goal.returns
returns c = search element-next
