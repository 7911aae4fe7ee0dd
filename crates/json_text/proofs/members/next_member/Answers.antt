use Rattle.json_text.proofs.members.Items.{member-none, member-next}
use Rattle.json_text.proofs.members.next_member.Goals as goal

pub returns-then-v-eq0 : goal.returns-then-v-eq0
returns-then-v-eq0 c = search member-none

pub returns : goal.returns
returns c = search member-next
