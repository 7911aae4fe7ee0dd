use mathlib.Core.Path.{refl, ◌∙◌}
use Rattle.morton.specs.grid.Answers.{grid_result}
use Rattle.coronagamba.specs.Cells.{grid_after}
use Rattle.coronagamba.proofs.Told.{word-success, word-refused, after}
use Rattle.coronagamba.proofs.cells.coronagamba_grid_of.Goals as goal

pub returns-in-Ok : goal.returns-in-Ok
unfolding grid_after
returns-in-Ok c =
    let e = c.grid_of.ensures.answer in
    let h = c.in-Ok.is in
    record { answer = word-success grid_result e h refl; grid = after grid_after _ e h }

pub returns-in-Err : goal.returns-in-Err
unfolding grid_after
returns-in-Err c =
    let e = c.grid_of.ensures.answer in
    let h = c.in-Err.is in
    record { answer = c.number.ensures ∙ word-refused grid_result e h refl; grid = after grid_after _ e h }
