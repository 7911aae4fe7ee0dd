-- The loop's invariant: each item so far is finite where it is a real.
use mathlib.Core.Path.{◌≡◌}
use mathlib.Core.Bool.{true}
use Rattle.endian.specs.Range.{every}
use Rattle.mesh_manifest.specs.sound.Verdict.{real_fits}
use Rattle.mesh_manifest.proofs.tests.each_real_fits.Given as goal

abbrev pub invariant-loop-i : goal.invariant-loop-i
invariant-loop-i l = every (real_fits l.s) l.i ≡ true
