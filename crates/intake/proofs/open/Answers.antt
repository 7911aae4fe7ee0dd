use Rattle.std.proofs.Common.{◌∙◌}
use Rattle.refusal.proofs.Passed.{handed}
use Rattle.intake.proofs.Answered.{calling, open_refused, open_kept}
use Rattle.intake.proofs.open.Goals as goal

pub open_refusal-requires : goal.open_refusal-requires
open_refusal-requires c = search calling

pub returns-in_err-open_refusal : goal.returns-in_err-open_refusal
returns-in_err-open_refusal c =
    let refused = c.in_err-open_refusal.ensures in
    record { answer = handed c.from_residual.ensures ∙ open_refused _ _ _ refused _; out = open_kept _ _ _ refused }

pub put_entries-requires : goal.put_entries-requires
put_entries-requires c = (search calling, search calling)

pub first-requires : goal.first-requires
first-requires c = search calling

pub shape_of-out : goal.shape_of-out
shape_of-out c = search calling

pub returns : goal.returns
returns c = search calling
