use mathlib.Core.Path.{refl, ◌∙◌}
use Rattle.morton.specs.Answers.{cell_result}
use Rattle.coronagamba.specs.Cells.{cell_after}
use Rattle.coronagamba.proofs.Told.{word-success, word-refused, after}
use Rattle.coronagamba.proofs.cells.coronagamba_cell_of.Goals as goal

pub returns-in-Ok : goal.returns-in-Ok
unfolding cell_after
returns-in-Ok c =
    let e = c.cell_of.ensures.answer in
    let h = c.in-Ok.is in
    record { answer = word-success cell_result e h refl; cell = after cell_after _ e h }

pub returns-in-Err : goal.returns-in-Err
unfolding cell_after
returns-in-Err c =
    let e = c.cell_of.ensures.answer in
    let h = c.in-Err.is in
    record { answer = c.number.ensures ∙ word-refused cell_result e h refl; cell = after cell_after _ e h }
