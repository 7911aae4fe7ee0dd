-- The counts follow the scales and the vertex offsets.
use borrow.Author.Rules.{rules}
use Rattle.mesh_manifest.specs.layout.Layout.{count_of}
use Rattle.mesh_manifest.proofs.layout.count.Goals as goal

pub returns : goal.returns
unfolding count_of
returns c = (cc, search rules)
