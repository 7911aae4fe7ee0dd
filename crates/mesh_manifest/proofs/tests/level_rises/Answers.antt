use Rattle.std.proofs.Common.{rules}
use Rattle.mesh_manifest.proofs.sound.Ways.{level-fails}
use Rattle.mesh_manifest.proofs.tests.level_rises.Goals as goal

pub returns-then-not-in_order : goal.returns-then-not-in_order
returns-then-not-in_order c = search (level-fails, rules)
