-- The loop's invariant: the total is the sum of the counts so far, each below 2^32.
use Prim.Native.Nat.{◌*◌, ◌≤◌}
use mathlib.Core.Path.{◌≡◌}
use Rattle.endian.specs.Range.{sum_to}
use Rattle.mesh_manifest.specs.layout.Layout.{count_of}
use Rattle.mesh_manifest.proofs.layout.nodes_before.Given as goal

abbrev pub invariant-loop-l : goal.invariant-loop-l
invariant-loop-l l = (l.total ≡ sum_to (count_of l.s) l.l) × (l.total ≤ 4294967296 * l.l)
