use Rattle.json_text.proofs.members.Items.{no-array, array-room, element-is}
use Rattle.std.proofs.Common.{◌∙◌}
use Rattle.json_text.proofs.members.element.Goals as goal

pub returns-in_err-a : goal.returns-in_err-a
returns-in_err-a c = let h = c.in_err-a.was in c.from_residual.ensures ∙ search no-array

pub element_from-requires : goal.element_from-requires
element_from-requires c = let h = c.in_ok-a.was in search array-room

pub returns : goal.returns
returns c = let h = c.in_ok-a.was in search element-is
