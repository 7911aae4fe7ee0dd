-- Reals by their bits (RULES M3): IEEE 754 binary32, an f32.
use Rattle.std.specs.Prelude.{ℕ, ◌/◌, ◌%◌, ◌^◌, Bool, not, ◌&&◌, List, ltb, eqb, Float}
use Rattle.std.specs.Float.{binary32}
use Rattle.std.specs.Float.Ieee.{of_bits}
use Rattle.mesh_manifest.specs.layout.Layout.{manifest_item}

-- the pattern of a finite real: its exponent field is not all ones (RULES M3)
unfoldable pub finite_bits : ℕ → Bool
finite_bits b = not (eqb (b / 2 ^ 23 % 256) 255)

-- of a finite real's pattern: above zero has no sign and is not 0 (so neither zero is above zero) (RULES M3)
unfoldable pub above_zero : ℕ → Bool
above_zero b = ltb 0 b && ltb b (2 ^ 31)

-- the real in item i: the one whose pattern is the item's number
unfoldable pub real_at : List ℕ → ℕ → Float
real_at s i = of_bits binary32 (manifest_item s i)
