use mathlib.Core.Path.{refl, ◌∙◌}
use Rattle.mesh_manifest.specs.sound.Verdict.{manifest_result}
use Rattle.coronagamba.proofs.Told.{word-success, word-refused}
use Rattle.coronagamba.proofs.manifests.coronagamba_manifest_check.Goals as goal

pub returns-in-Ok : goal.returns-in-Ok
returns-in-Ok c =
    let e = c.check_manifest.ensures.answer in
    let h = c.in-Ok.is in
    record { answer = word-success manifest_result e h refl }

pub returns-in-Err : goal.returns-in-Err
returns-in-Err c =
    let e = c.check_manifest.ensures.answer in
    let h = c.in-Err.is in
    record { answer = c.number.ensures ∙ word-refused manifest_result e h refl }
