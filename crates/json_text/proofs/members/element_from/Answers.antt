use Rattle.json_text.proofs.members.Items.{reach_start, reach_gone, reach_on, reach_end}
use Rattle.std.proofs.Common.{◌∙◌}
use Rattle.json_text.proofs.members.element_from.Goals as goal

pub loop-init : goal.loop-init
loop-init c = search reach_start

pub returns-in_err-i : goal.returns-in_err-i
returns-in_err-i c = let h = c.in_err-i.was in c.from_residual.ensures ∙ search reach_gone

pub loop-preserved : goal.loop-preserved
loop-preserved c = let h = c.in_ok-i.was in search reach_on

pub returns : goal.returns
returns c = search reach_end
