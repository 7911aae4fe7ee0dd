use Rattle.mesh_manifest.proofs.sound.Ways.{ways}
use Rattle.mesh_manifest.proofs.tests.reals_fit.Goals as goal

pub returns-then-not-above_zero : goal.returns-then-not-above_zero
returns-then-not-above_zero c = search ways
