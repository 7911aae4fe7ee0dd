-- The bits of a that b has not.
use lib.Bits.{and_le_l}
use Rattle.mesh_manifest.proofs.zorder.Zeros.{by_difference}
use Rattle.mesh_manifest.proofs.zorder.higher.Goals as goal

pub overflow_sub-result : goal.overflow_sub-result
overflow_sub-result c = and_le_l _ _

pub returns : goal.returns
returns c = by_difference _ _ c.ranges.a.fits c.ranges.b.fits
