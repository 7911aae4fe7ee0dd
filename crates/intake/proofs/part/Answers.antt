use Rattle.std.proofs.Common.{◌∙◌}
use Rattle.refusal.proofs.Passed.{handed}
use Rattle.intake.proofs.Answered.{calling, part-refused, part-kept}
use Rattle.intake.proofs.part.Goals as goal

pub part_refusal-requires : goal.part_refusal-requires
part_refusal-requires c = search calling

pub returns-in_err-part_refusal : goal.returns-in_err-part_refusal
returns-in_err-part_refusal c =
    let refused = c.in_err-part_refusal.ensures in
    record { answer = handed c.from_residual.ensures ∙ part-refused _ _ _ _ refused; out = part-kept _ _ _ _ refused }

pub take-requires : goal.take-requires
take-requires c = search calling

pub shape_of-out : goal.shape_of-out
shape_of-out c = search calling

pub returns : goal.returns
returns c = search calling
