-- The real of an item's pattern, which is finite.
use mathlib.Core.Path.{sym, subst}
use Prim.Native.Nat.{ℕ}
use lib.Dec.{T}
use Rattle.mesh_manifest.specs.layout.Bits.{finite_bits, real_at}
use Rattle.mesh_manifest.proofs.field_kinds.real.Goals as goal

pub real_of-requires : goal.real_of-requires
real_of-requires c = subst (λ (b : ℕ). T (finite_bits b)) (sym c.item.ensures.0) c.requires.1

pub returns : goal.returns
unfolding real_at
returns c = cc
