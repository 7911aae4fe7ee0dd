-- By the kind.
use Rattle.shard.proofs.Meshes.{fault-mesh, fault-volume}
use Rattle.shard.proofs.faults.mesh_fault.Goals as goal

pub returns-then-is_mesh : goal.returns-then-is_mesh
returns-then-is_mesh c = search fault-mesh

pub returns : goal.returns
returns c = search fault-volume
