use Rattle.mesh_manifest.proofs.sound.Sounds.{level-next, level-within}
use Rattle.mesh_manifest.proofs.fragment_sums.Levels.{level-bytes}
use Rattle.mesh_manifest.proofs.layout.Loops.{loops}
use Rattle.mesh_manifest.proofs.fragment_sums.bytes_before.Goals as goal

pub sizes-total-requires : goal.sizes-total-requires
sizes-total-requires c = search (level-within, loops)

pub loop-l-preserved : goal.loop-l-preserved
loop-l-preserved c = search (level-bytes, level-next, level-within, loops)
