-- The node's place, its near corner and its far corner, test by test.
use Rattle.mesh_manifest.proofs.corners.Boxed.{boxes}
use Rattle.mesh_manifest.proofs.corners.boxes.corners_in.Goals as goal

pub returns-then-not-is_placed : goal.returns-then-not-is_placed
returns-then-not-is_placed c = search boxes

pub near_corner-near-requires : goal.near_corner-near-requires
near_corner-near-requires c = search boxes

pub returns-then-not-is_finite_corner : goal.returns-then-not-is_finite_corner
returns-then-not-is_finite_corner c = search boxes

pub far_corner-far-requires : goal.far_corner-far-requires
far_corner-far-requires c = search boxes

pub returns-then-not-is_finite_corner-2 : goal.returns-then-not-is_finite_corner-2
returns-then-not-is_finite_corner-2 c = search boxes

pub returns : goal.returns
returns c = search boxes
