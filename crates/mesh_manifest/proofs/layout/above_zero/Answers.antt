-- No sign and not 0, read off the pattern.
use borrow.Author.Tests.{lt-ltb, le-ltb}
use Rattle.mesh_manifest.specs.layout.Bits.{above_zero}
use Rattle.mesh_manifest.proofs.layout.above_zero.Goals as goal

pub returns-then-b-gt0 : goal.returns-then-b-gt0
unfolding above_zero
returns-then-b-gt0 c = rw (lt-ltb _ _ c.if-b-gt0.true)

pub returns : goal.returns
unfolding above_zero
returns c = rw (le-ltb _ _ c.if-b-gt0.false)
