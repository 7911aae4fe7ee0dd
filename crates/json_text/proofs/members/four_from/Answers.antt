use Rattle.json_text.proofs.members.Items.{walk_start, walk_end, walk_less, walk-on}
use Rattle.json_text.proofs.members.four_from.Goals as goal

pub loop-j-init : goal.loop-j-init
loop-j-init c = search walk_start

pub returns-in_default : goal.returns-in_default
returns-in_default c = search walk_end

pub loop-j-smaller : goal.loop-j-smaller
loop-j-smaller c = search walk_less

pub loop-j-preserved : goal.loop-j-preserved
loop-j-preserved c = search walk-on
