-- The corners' answer, by what the judge gave and by whether there is such a node.
use Rattle.mesh_manifest.proofs.corners.Boxed.{corners-refused, boxes}
use Rattle.std.proofs.Common.{◌∙◌}
use Rattle.refusal.proofs.Passed.{handed}
use Rattle.mesh_manifest.proofs.corners.corners_of.Goals as goal

pub returns-in_err-judge : goal.returns-in_err-judge
returns-in_err-judge c = record { answer = handed c.from_residual.ensures ∙ corners-refused _ _ _ c.in_err-judge.ensures }

pub has_node-requires : goal.has_node-requires
has_node-requires c = search boxes

pub returns-then-not-has_node : goal.returns-then-not-has_node
returns-then-not-has_node c = search boxes

pub node-at-requires : goal.node-at-requires
node-at-requires c = search boxes

pub header-requires : goal.header-requires
header-requires c = search boxes

pub corners_in-requires : goal.corners_in-requires
corners_in-requires c = search boxes

pub returns : goal.returns
returns c = search boxes
