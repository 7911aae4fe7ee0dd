-- The loop's invariant: `first` is where level l begins, and the total is the sum of all sizes before it.
use Prim.Native.Nat.{◌*◌, ◌≤◌}
use mathlib.Core.Path.{◌≡◌}
use lib.ListN.{length}
use Rattle.endian.specs.Range.{sum_to}
use Rattle.mesh_manifest.specs.layout.Layout.{level_item}
use Rattle.mesh_manifest.specs.fragment_sums.Sums.{level_bytes}
use Rattle.mesh_manifest.proofs.fragment_sums.bytes_before.Given as goal

abbrev pub invariant-loop-l : goal.invariant-loop-l
invariant-loop-l l =
    (l.first ≡ level_item l.s l.l) × (4 * l.first ≤ length l.s) × (l.total ≡ sum_to (level_bytes l.s) l.l) × (l.total ≤ 4294967295 * l.first)
