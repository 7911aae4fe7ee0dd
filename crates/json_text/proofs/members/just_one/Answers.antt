use Rattle.json_text.proofs.members.Items.{lone_none, lone_one, lone_many}
use Rattle.std.proofs.Common.{◌∙◌}
use Rattle.json_text.proofs.members.just_one.Goals as goal

pub returns-in_err-x : goal.returns-in_err-x
returns-in_err-x c = let h = c.in_err-x.was in c.from_residual.ensures ∙ search lone_none

pub returns-in-Some : goal.returns-in-Some
returns-in-Some c = let h = c.in_ok-x.was in search lone_many

pub returns-in-None : goal.returns-in-None
returns-in-None c = let h = c.in_ok-x.was in search lone_one
