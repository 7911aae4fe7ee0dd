-- Each operation is the rule's, in its order.
use Rattle.mesh_manifest.specs.reals.Reals.{far_of}
use Rattle.mesh_manifest.proofs.reals.far.Goals as goal

pub returns : goal.returns
unfolding far_of
returns c = rw c.power.ensures
