use Rattle.mesh_manifest.proofs.nodes.Asked.{all-fragments}
use Rattle.mesh_manifest.proofs.nodes.inner.fragments_length.Goals as goal

pub returns : goal.returns
returns c = search all-fragments
