-- `card::read_card` meets its contract.
use Rattle.std.proofs.Common.{ap, not, ◌∙◌}
use Rattle.refusal.proofs.Passed.{handed}
use Rattle.card.proofs.Judged.{judging, read-refused, read_says}
use Rattle.card.proofs.read_card.Goals as goal

pub returns-then-not-well_formed : goal.returns-then-not-well_formed
returns-then-not-well_formed c = search judging

pub returns-in_err-judge : goal.returns-in_err-judge
returns-in_err-judge c = record { answer = handed c.from_residual.ensures ∙ read-refused _ c.well_formed-2.ensures (ap not c.if-not-well_formed.false) c.card_in-card.ensures _ c.in_err-judge.ensures }

pub returns : goal.returns
returns c = record { answer = read_says _ c.well_formed-2.ensures (ap not c.if-not-well_formed.false) c.card_in-card.ensures c.in_ok-judge.ensures }
