-- Between the infinities lie the finite reals and nothing else.
use lib.Ieee.{nan_bits}
use Rattle.mesh_manifest.proofs.reals.Computed.{below_inf, not-below_inf}
use Rattle.mesh_manifest.proofs.reals.is_finite.Goals as goal

pub float_from_bits-t-2 : goal.float_from_bits-t-2
unfolding nan_bits
float_from_bits-t-2 c = tt

pub float_from_bits-result : goal.float_from_bits-result
unfolding nan_bits
float_from_bits-result c = tt

pub returns-then-x : goal.returns-then-x
returns-then-x c = below_inf c.args.x c.well_formed.0.1 c.if-x.true

pub returns : goal.returns
returns c = not-below_inf c.args.x c.well_formed.0.1 c.if-x.false
