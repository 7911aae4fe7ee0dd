-- Each number stands in its row.
use Rattle.mesh_manifest.proofs.nodes.Asked.{node-read}
use Rattle.mesh_manifest.proofs.nodes.inner.node_in.Goals as goal

pub returns : goal.returns
returns c = search node-read
