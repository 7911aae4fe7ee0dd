use mathlib.Core.Path.{refl, ◌∙◌}
use Rattle.morton.specs.bounds.Answers.{bounds_result}
use Rattle.coronagamba.specs.Cells.{begin_after, end_after}
use Rattle.coronagamba.proofs.Told.{word-success, word-refused, after}
use Rattle.coronagamba.proofs.cells.coronagamba_bounds_of.Goals as goal

pub returns-in-Ok : goal.returns-in-Ok
unfolding begin_after end_after
returns-in-Ok c =
    let e = c.bounds_of.ensures.answer in
    let h = c.in-Ok.is in
    record { answer = word-success bounds_result e h refl; begin = c.three.ensures ∙ after begin_after _ e h; end = c.three-in-Ok.ensures ∙ after end_after _ e h }

pub returns-in-Err : goal.returns-in-Err
unfolding begin_after end_after
returns-in-Err c =
    let e = c.bounds_of.ensures.answer in
    let h = c.in-Err.is in
    record { answer = c.number.ensures ∙ word-refused bounds_result e h refl; begin = after begin_after _ e h; end = after end_after _ e h }
