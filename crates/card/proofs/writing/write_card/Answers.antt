-- `card::writing::write_card` meets its contract.
use Rattle.std.proofs.Common.{◌∙◌}
use Rattle.refusal.proofs.Passed.{handed}
use Rattle.card.proofs.Judged.{write_refused, refused-left, write_written, written-left}
use Rattle.card.proofs.writing.write_card.Goals as goal

pub returns-in_err-judge : goal.returns-in_err-judge
returns-in_err-judge c =
    let refused = c.in_err-judge.ensures in
    record { answer = handed c.from_residual.ensures ∙ write_refused _ _ _ refused; out = refused-left _ _ _ refused }

pub returns : goal.returns
returns c =
    let passed = c.in_ok-judge.ensures in
    record { answer = write_written _ _ passed c.write.ensures.value; out = written-left _ _ passed c.write.ensures.out_after }
