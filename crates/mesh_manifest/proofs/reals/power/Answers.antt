-- The pattern with that exponent field and no fraction is the power of two.
use Rattle.mesh_manifest.proofs.reals.Computed.{power_bits, power_no_nan}
use Rattle.mesh_manifest.proofs.reals.power.Goals as goal

pub float_from_bits-result : goal.float_from_bits-result
float_from_bits-result c = power_no_nan c.args.level c.requires

pub returns : goal.returns
returns c = power_bits c.args.level c.requires
