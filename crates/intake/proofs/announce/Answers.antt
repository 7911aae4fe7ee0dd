use Rattle.std.proofs.Common.{◌∙◌}
use Rattle.refusal.proofs.Passed.{handed}
use Rattle.intake.proofs.Answered.{calling, announce_refused, announce_kept, announce_kept-waiting}
use Rattle.intake.proofs.announce.Goals as goal

pub announce_refusal-requires : goal.announce_refusal-requires
announce_refusal-requires c = search calling

pub returns-in_err-announce_refusal : goal.returns-in_err-announce_refusal
returns-in_err-announce_refusal c =
    let refused = c.in_err-announce_refusal.ensures in
    record {
      answer = handed c.from_residual.ensures ∙ announce_refused _ _ _ _ _ refused;
      out = announce_kept _ _ _ _ _ refused;
      waiting = announce_kept-waiting _ _ _ _ _ refused;
    }

pub admit-requires : goal.admit-requires
admit-requires c = search calling

pub shape_of-out : goal.shape_of-out
shape_of-out c = search calling

pub shape_of-waiting : goal.shape_of-waiting
shape_of-waiting c = search calling

pub returns : goal.returns
returns c = search calling
