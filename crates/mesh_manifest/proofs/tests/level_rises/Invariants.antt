-- The loop's invariant: each node so far stands before the next.
use mathlib.Core.Path.{◌≡◌}
use mathlib.Core.Bool.{true}
use Rattle.endian.specs.Range.{every}
use Rattle.mesh_manifest.specs.sound.Verdict.{in_order_of}
use Rattle.mesh_manifest.proofs.tests.level_rises.Given as goal

abbrev pub invariant-loop-i : goal.invariant-loop-i
invariant-loop-i l = every (in_order_of l.s l.first l.n) l.i ≡ true
