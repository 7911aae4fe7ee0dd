-- A node's answer, by what the judge gave and by whether there is such a node.
use Rattle.mesh_manifest.proofs.nodes.Asked.{node-refused, asked}
use Rattle.std.proofs.Common.{◌∙◌}
use Rattle.refusal.proofs.Passed.{handed}
use Rattle.mesh_manifest.proofs.nodes.node_of.Goals as goal

pub returns-in_err-judge : goal.returns-in_err-judge
returns-in_err-judge c = record { answer = handed c.from_residual.ensures ∙ node-refused _ _ _ c.in_err-judge.ensures }

pub has_node-requires : goal.has_node-requires
has_node-requires c = search asked

pub returns-then-not-has_node : goal.returns-then-not-has_node
returns-then-not-has_node c = search asked

pub node-requires : goal.node-requires
node-requires c = search asked

pub returns : goal.returns
returns c = search asked
