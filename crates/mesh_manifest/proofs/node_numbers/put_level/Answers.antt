-- The level's first item and its first fragment's start, as they are read.
use borrow.Author.Rules.{rules}
use Rattle.mesh_manifest.proofs.sound.Sounds.{read_fits}
use Rattle.mesh_manifest.proofs.node_numbers.Listed.{level-numbers}
use Rattle.mesh_manifest.proofs.node_numbers.put_level.Goals as goal

pub put_nodes-requires : goal.put_nodes-requires
put_nodes-requires c = search (read_fits, rules)

pub returns : goal.returns
returns c = search (level-numbers, rules)
