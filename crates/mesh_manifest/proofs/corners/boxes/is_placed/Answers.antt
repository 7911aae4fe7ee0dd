-- Axis by axis.
use native.Mathlib.Omega.{arith}
use Rattle.mesh_manifest.proofs.corners.Boxed.{boxes, far-x}
use Rattle.mesh_manifest.proofs.corners.boxes.is_placed.Goals as goal

pub returns-then-n-ge16777216 : goal.returns-then-n-ge16777216
returns-then-n-ge16777216 c = far-x _ (omega arith)

pub returns-then-n-ge16777216-2 : goal.returns-then-n-ge16777216-2
returns-then-n-ge16777216-2 c = search boxes

pub returns : goal.returns
returns c = search boxes
