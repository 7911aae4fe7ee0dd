-- Axis by axis.
use borrow.Author.Rules.{rules}
use Rattle.mesh_manifest.proofs.corners.Boxed.{placed-x, placed-y, placed-z, near-made}
use Rattle.mesh_manifest.proofs.corners.boxes.near_corner.Goals as goal

pub near-x-requires : goal.near-x-requires
near-x-requires c = search (placed-x, rules)

pub near-y-requires : goal.near-y-requires
near-y-requires c = search (placed-y, rules)

pub near-z-requires : goal.near-z-requires
near-z-requires c = search (placed-z, rules)

pub returns : goal.returns
returns c = search near-made
