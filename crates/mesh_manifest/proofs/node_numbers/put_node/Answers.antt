-- Five stores are one write.
use Rattle.mesh_manifest.proofs.node_numbers.Listed.{stored}
use Rattle.mesh_manifest.proofs.node_numbers.put_node.Goals as goal

pub returns : goal.returns
returns c = search stored
