-- The check is the judge's answer.
use Rattle.mesh_manifest.proofs.Asked.{asked}
use Rattle.mesh_manifest.proofs.check_manifest.Goals as goal

pub returns : goal.returns
returns c = search asked
