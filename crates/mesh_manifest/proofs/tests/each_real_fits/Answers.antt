use Rattle.mesh_manifest.proofs.layout.Loops.{loops}
use Rattle.mesh_manifest.proofs.tests.each_real_fits.Goals as goal

pub returns-then-not-real_fits : goal.returns-then-not-real_fits
returns-then-not-real_fits c = search loops
