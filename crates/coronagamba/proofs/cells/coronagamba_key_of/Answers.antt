use mathlib.Core.Path.{refl, ◌∙◌}
use Rattle.morton.specs.Answers.{key_result}
use Rattle.coronagamba.specs.Cells.{key_after}
use Rattle.coronagamba.proofs.Told.{word-success, word-refused, after}
use Rattle.coronagamba.proofs.cells.coronagamba_key_of.Goals as goal

pub returns-in-Ok : goal.returns-in-Ok
unfolding key_after
returns-in-Ok c =
    let e = c.key_of.ensures.answer in
    let h = c.in-Ok.is in
    record { answer = word-success key_result e h refl; key = after key_after _ e h }

pub returns-in-Err : goal.returns-in-Err
unfolding key_after
returns-in-Err c =
    let e = c.key_of.ensures.answer in
    let h = c.in-Err.is in
    record { answer = c.number.ensures ∙ word-refused key_result e h refl; key = after key_after _ e h }
