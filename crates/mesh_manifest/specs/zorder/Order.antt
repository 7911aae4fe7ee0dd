-- The Z-curve order of two nodes (RULES M4): "the highest differing bit decides; at equal height z outranks y, y outranks x".
use Rattle.std.specs.Prelude.{ℕ, zero, suc, ◌+◌, ◌*◌, ◌/◌, ◌%◌, ◌^◌, Bool, false, ltb, eqb}
use Rattle.refusal.specs.Choice.{pick}

-- the three bits at height k of a position, z's first, then y's, then x's
unfoldable pub z_digit : ℕ → ℕ → ℕ → ℕ → ℕ
z_digit k x y z = 4 * (z / 2 ^ k % 2) + 2 * (y / 2 ^ k % 2) + x / 2 ^ k % 2

-- the order of positions a and b by the bits below height k: the highest height where they differ decides (RULES M4)
unfoldable pub z_from : ℕ → ℕ → ℕ → ℕ → ℕ → ℕ → ℕ → Bool
z_from zero ax ay az bx by bz = false
z_from (suc k) ax ay az bx by bz =
    pick (eqb (z_digit k ax ay az) (z_digit k bx by bz))
    (z_from k ax ay az bx by bz)
    (ltb (z_digit k ax ay az) (z_digit k bx by bz))

-- a stands before b, and is another position: positions are u32
abbrev pub z_before : ℕ → ℕ → ℕ → ℕ → ℕ → ℕ → Bool
z_before ax ay az bx by bz = z_from 32 ax ay az bx by bz
