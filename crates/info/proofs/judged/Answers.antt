use Rattle.std.proofs.Common.{◌∙◌}
use Rattle.refusal.proofs.Passed.{handed}
use Rattle.info.proofs.Ways.{judged-refused, judged_says}
use Rattle.info.proofs.judged.Goals as goal

pub returns-in_err-judge : goal.returns-in_err-judge
returns-in_err-judge c = handed c.from_residual.ensures ∙ judged-refused _ c.in_err-judge.ensures

pub returns : goal.returns
returns c = judged_says _ c.in_ok-judge.ensures
