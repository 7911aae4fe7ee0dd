-- The loop's invariant: `at` is where node i's fragment starts, and pasting what is left into the output gives the whole.
use Prim.Native.Nat.{◌+◌, ◌-◌, ◌*◌, ◌≤◌}
use mathlib.Core.Path.{◌≡◌}
use lib.ListN.{length}
use Rattle.endian.specs.Place.{paste}
use Rattle.endian.specs.Range.{sum_to}
use Rattle.mesh_manifest.specs.layout.Layout.{size_at}
use Rattle.mesh_manifest.specs.node_numbers.Numbers.{node_from, numbers_from}
use Rattle.mesh_manifest.proofs.node_numbers.put_nodes.Given as goal

abbrev pub invariant-loop-i : goal.invariant-loop-i
invariant-loop-i l =
    (l.at ≡ l.start + sum_to (size_at l.s l.first l.n) l.i)
    × (l.at ≤ l.start + 4294967295 * l.i)
    × (length l.out ≡ length l.initial.out)
    × (paste (5 * l.i) (numbers_from (node_from l.s l.first l.n l.start) l.i (l.n - l.i)) l.out ≡ paste 0 (numbers_from (node_from l.s l.first l.n l.start) 0 l.n) l.initial.out)
