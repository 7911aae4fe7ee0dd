-- The exponent field, read off the pattern.
use borrow.Author.Rules.{rules}
use Rattle.mesh_manifest.specs.layout.Bits.{finite_bits}
use Rattle.mesh_manifest.proofs.layout.finite_bits.Goals as goal

pub returns : goal.returns
unfolding finite_bits
returns c = search rules
