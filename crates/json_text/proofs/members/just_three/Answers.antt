use Rattle.json_text.proofs.members.Items.{three-none, three-one, three-two, three_are, three_many}
use Rattle.std.proofs.Common.{◌∙◌}
use Rattle.json_text.proofs.members.just_three.Goals as goal

pub returns-in_err-x : goal.returns-in_err-x
returns-in_err-x c = let h = c.in_err-x.was in c.from_residual.ensures ∙ search three-none

pub returns-in_err-y : goal.returns-in_err-y
returns-in_err-y c = let h = c.in_ok-x.was in let k = c.in_err-y.was in c.from_residual-in_err-y.ensures ∙ search three-one

pub returns-in_err-z : goal.returns-in_err-z
returns-in_err-z c = let h = c.in_ok-x.was in let k = c.in_ok-y.was in let l = c.in_err-z.was in c.from_residual-in_err-z.ensures ∙ search three-two

pub returns-in-Some : goal.returns-in-Some
returns-in-Some c = let h = c.in_ok-x.was in let k = c.in_ok-y.was in let l = c.in_ok-z.was in search three_many

pub returns-in-None : goal.returns-in-None
returns-in-None c = let h = c.in_ok-x.was in let k = c.in_ok-y.was in let l = c.in_ok-z.was in search three_are
