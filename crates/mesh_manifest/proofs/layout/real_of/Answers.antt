-- A finite pattern is no NaN's.
use Rattle.mesh_manifest.proofs.layout.Patterns.{no_nan}
use Rattle.mesh_manifest.proofs.layout.real_of.Goals as goal

pub float_from_bits-result : goal.float_from_bits-result
float_from_bits-result c = no_nan c.args.b c.requires
