-- The two positions stand in the three rows of the level.
use Rattle.mesh_manifest.proofs.Asked.{in_order-read}
use Rattle.mesh_manifest.proofs.tests.in_order.Goals as goal

pub returns : goal.returns
returns c = search in_order-read
