use Rattle.std.proofs.Common.{◌∙◌}
use Rattle.refusal.proofs.Passed.{handed}
use Rattle.intake.proofs.Answered.{calling, close-refused, close-kept}
use Rattle.intake.proofs.close.Goals as goal

pub close_refusal-requires : goal.close_refusal-requires
close_refusal-requires c = search calling

pub returns-in_err-close_refusal : goal.returns-in_err-close_refusal
returns-in_err-close_refusal c =
    let refused = c.in_err-close_refusal.ensures in
    record { answer = handed c.from_residual.ensures ∙ close-refused _ _ _ refused; out = close-kept _ _ _ refused }

pub end_minishard-requires : goal.end_minishard-requires
end_minishard-requires c = search calling

pub announced_length-length-requires : goal.announced_length-length-requires
announced_length-length-requires c = search calling

pub last-requires : goal.last-requires
last-requires c = search calling

pub shape_of-out : goal.shape_of-out
shape_of-out c = search calling

pub returns : goal.returns
returns c = search calling
