-- The loop's invariant: the total is the sum of the sizes so far, each below 2^32.
use Prim.Native.Nat.{◌*◌, ◌≤◌}
use mathlib.Core.Path.{◌≡◌}
use Rattle.endian.specs.Range.{sum_to}
use Rattle.mesh_manifest.specs.layout.Layout.{size_at}
use Rattle.mesh_manifest.proofs.fragment_sums.sizes.Given as goal

abbrev pub invariant-loop-i : goal.invariant-loop-i
invariant-loop-i l = (l.total ≡ sum_to (size_at l.s l.first l.n) l.i) × (l.total ≤ 4294967295 * l.i)
