use mathlib.Core.Path.{refl, ◌∙◌}
use Rattle.mesh_manifest.specs.nodes.Nodes.{node_result}
use Rattle.coronagamba.specs.Manifests.{position_after, fragment_after, bytes_after}
use Rattle.coronagamba.proofs.Told.{word-success, word-refused, after}
use Rattle.coronagamba.proofs.manifests.coronagamba_manifest_node.Goals as goal

pub returns-in-Ok : goal.returns-in-Ok
unfolding position_after fragment_after bytes_after
returns-in-Ok c =
    let e = c.node_of.ensures.answer in
    let h = c.in-Ok.is in
    record { answer = word-success node_result e h refl; position = after position_after _ e h; start = after fragment_after _ e h; size = after bytes_after _ e h }

pub returns-in-Err : goal.returns-in-Err
unfolding position_after fragment_after bytes_after
returns-in-Err c =
    let e = c.node_of.ensures.answer in
    let h = c.in-Err.is in
    record { answer = c.number.ensures ∙ word-refused node_result e h refl; position = after position_after _ e h; start = after fragment_after _ e h; size = after bytes_after _ e h }
