use mathlib.Core.Path.{refl, ◌∙◌}
use Rattle.mesh_manifest.proofs.corners.Boxed.{near-finite, far-finite}
use Rattle.mesh_manifest.specs.corners.Boxes.{corners_result}
use Rattle.coronagamba.specs.Manifests.{near_after, far_after}
use Rattle.coronagamba.proofs.Told.{word-success, word-refused, after}
use Rattle.coronagamba.proofs.manifests.coronagamba_manifest_corners.Goals as goal

pub three_patterns-requires : goal.three_patterns-requires
three_patterns-requires c = search near-finite

pub three_patterns-requires-in-Ok : goal.three_patterns-requires-in-Ok
three_patterns-requires-in-Ok c = search far-finite

pub returns-in-Ok : goal.returns-in-Ok
unfolding near_after far_after
returns-in-Ok c =
    let e = c.corners_of.ensures.answer in
    let h = c.in-Ok.is in
    record { answer = word-success corners_result e h refl; near = c.three_patterns.ensures ∙ after near_after _ e h; far = c.three_patterns-in-Ok.ensures ∙ after far_after _ e h }

pub returns-in-Err : goal.returns-in-Err
unfolding near_after far_after
returns-in-Err c =
    let e = c.corners_of.ensures.answer in
    let h = c.in-Err.is in
    record { answer = c.number.ensures ∙ word-refused corners_result e h refl; near = after near_after _ e h; far = after far_after _ e h }
