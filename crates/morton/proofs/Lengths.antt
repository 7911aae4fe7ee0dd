-- The bits of a key are those of its axes.
use Prim.Native.Nat.{ℕ, zero, suc, ◌+◌, max}
use mathlib.Core.Path.{◌≡◌, refl, ◌∙◌}
use native.Mathlib.Omega.{arith}
use native.Mathlib.Nat.{le_trans}
use lib.Pow.{pow_mono}
use Rattle.morton.specs.declared.grid.Extents.{Extents}
use Rattle.morton.specs.axis.Axis.{used_turns, AxisBits}
use Rattle.morton.specs.Key.{key_bits_of}
use Rattle.morton.specs.Turn.{Top}
use Rattle.morton.proofs.From.{bits_from, bits_is}

bits_by_axis : (n i : ℕ) (g : Extents) → bits_from n i g ≡ used_turns n i g.x + used_turns n i g.y + used_turns n i g.z
unfolding bits_from used_turns
bits_by_axis zero i g = refl
bits_by_axis (suc n) i g = omega (arith, bits_by_axis n (suc i) g)

key-bits_by_axis : (g : Extents) → key_bits_of g ≡ used_turns 32 0 g.x + used_turns 32 0 g.y + used_turns 32 0 g.z
key-bits_by_axis g = bits_is g ∙ bits_by_axis 32 0 g

module _ (g : Extents) {a b d : ℕ} (x : AxisBits g.x a) (y : AxisBits g.y b) (z : AxisBits g.z d) where
  pub key-bits-sum : a + b + d ≡ key_bits_of g
  key-bits-sum = omega (arith, key-bits_by_axis g)

  -- as many turns as the longest axis has bits
  pub top_of : Top g (max (max a b) d)
  top_of =
      record {
        most = omega (arith, x.most, y.most, z.most);
        x = le_trans x.holds (pow_mono (omega arith));
        y = le_trans y.holds (pow_mono (omega arith));
        z = le_trans z.holds (pow_mono (omega arith));
      }
