use Rattle.std.proofs.Common.{rules}
use Rattle.mesh_manifest.proofs.node_numbers.Listed.{start_first, listed-first, turn-start, listed-length, turn-numbers, listed-last}
use Rattle.mesh_manifest.proofs.node_numbers.put_nodes.Goals as goal

pub loop-i-init : goal.loop-i-init
loop-i-init c = search (start_first, listed-first, rules)

pub loop-i-preserved : goal.loop-i-preserved
loop-i-preserved c = (search turn-start, search rules, search listed-length, search turn-numbers)

pub returns : goal.returns
returns c = search listed-last
