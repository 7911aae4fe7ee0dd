-- The loop's invariant: `first` is where level l begins, and each level so far rises.
use Prim.Native.Nat.{◌*◌, ◌≤◌}
use mathlib.Core.Path.{◌≡◌}
use mathlib.Core.Bool.{true}
use lib.ListN.{length}
use Rattle.endian.specs.Range.{every}
use Rattle.mesh_manifest.specs.layout.Layout.{level_item}
use Rattle.mesh_manifest.specs.sound.Verdict.{rise_at}
use Rattle.mesh_manifest.proofs.tests.nodes_rise.Given as goal

abbrev pub invariant-loop-l : goal.invariant-loop-l
invariant-loop-l l = (l.first ≡ level_item l.s l.l) × (4 * l.first ≤ length l.s) × (every (rise_at l.s) l.l ≡ true)
