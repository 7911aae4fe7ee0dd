-- A finite corner has no NaN.
use Rattle.mesh_manifest.proofs.corners.Boxed.{number-x, number-y, number-z}
use Rattle.coronagamba.proofs.manifests.three_patterns.Goals as goal

pub float_to_bits-result : goal.float_to_bits-result
float_to_bits-result c = search number-x

pub float_to_bits-result-2 : goal.float_to_bits-result-2
float_to_bits-result-2 c = search number-y

pub float_to_bits-result-3 : goal.float_to_bits-result-3
float_to_bits-result-3 c = search number-z
