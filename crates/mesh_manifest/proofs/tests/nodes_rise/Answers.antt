use Rattle.mesh_manifest.proofs.sound.Sounds.{level-next, level-fits}
use Rattle.mesh_manifest.proofs.layout.Loops.{loops}
use Rattle.mesh_manifest.proofs.sound.Ways.{rise-at, nodes_fail, nodes-done}
use Rattle.mesh_manifest.proofs.tests.nodes_rise.Goals as goal

pub level_rises-requires : goal.level_rises-requires
level_rises-requires c = search (level-fits, loops)

pub returns-then-not-level_rises : goal.returns-then-not-level_rises
returns-then-not-level_rises c = search (nodes_fail, loops)

pub loop-l-preserved : goal.loop-l-preserved
loop-l-preserved c = search (rise-at, level-next, level-fits, loops)

pub returns : goal.returns
returns c = search (nodes-done, loops)
