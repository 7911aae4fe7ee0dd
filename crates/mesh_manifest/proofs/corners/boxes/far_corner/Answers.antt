-- Axis by axis.
use Rattle.mesh_manifest.proofs.corners.Boxed.{far-made}
use Rattle.mesh_manifest.proofs.corners.boxes.far_corner.Goals as goal

pub returns : goal.returns
returns c = search far-made
