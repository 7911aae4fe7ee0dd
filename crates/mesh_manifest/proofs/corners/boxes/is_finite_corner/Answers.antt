-- Axis by axis.
use Rattle.mesh_manifest.proofs.corners.Boxed.{boxes}
use Rattle.mesh_manifest.proofs.corners.boxes.is_finite_corner.Goals as goal

pub returns-then-not-is_finite : goal.returns-then-not-is_finite
returns-then-not-is_finite c = search boxes

pub returns-then-not-is_finite-2 : goal.returns-then-not-is_finite-2
returns-then-not-is_finite-2 c = search boxes

pub returns : goal.returns
returns c = search boxes
