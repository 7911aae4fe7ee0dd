-- Computed reals, and the ends of a node on one axis (RULES M8).
use Rattle.std.specs.Prelude.{ℕ, Bool, false, pos, Float}
use Rattle.std.specs.Float.{fin, binary32}
use Rattle.std.specs.Float.Ieee.{add, mul, of_int, to_bits}
use Rattle.mesh_manifest.specs.layout.Bits.{finite_bits}

-- a computed real, judged by its bits
unfoldable pub finite : Float → Bool
finite x = finite_bits (to_bits binary32 x)

-- 2^l, which an f32 holds exactly
abbrev pub power_of : ℕ → Float
power_of l = fin false 1 (pos l)

-- on one axis: of origin o and shape e, at position p (below 2^24, so that an f32 holds it exactly) and level l (RULES M8)
unfoldable pub near_of : Float → Float → ℕ → ℕ → Float
near_of o e p l = add binary32 o (mul binary32 (mul binary32 (of_int binary32 (pos p)) e) (power_of l))

-- on one axis: from the near end n (RULES M8)
unfoldable pub far_of : Float → Float → ℕ → Float
far_of n e l = add binary32 n (mul binary32 e (power_of l))
