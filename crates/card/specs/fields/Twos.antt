-- Signed numbers as 32-bit numbers, by two's complement (RULES C1).
use Rattle.std.specs.Prelude.{ℕ, suc, ◌-◌, ◌^◌, ◌<◌, Bool, false, ◌&&◌, ltb, eqb, ℤ, pos, negsuc}
use Rattle.refusal.specs.Choice.{pick}
use Rattle.morton.specs.declared.grid.Offset.{Offset}

-- a signed number as a 32-bit number, by two's complement: a negative one, -(n+1), stands as 2^32 more
unfoldable pub bits32 : ℤ → ℕ
bits32 (pos n) = n
bits32 (negsuc n) = 2 ^ 32 - suc n

-- the signed number of 32 bits, by two's complement: from 2^31 on it stands for 2^32 less
unfoldable pub signed32 : ℕ → ℤ
signed32 u = pick (ltb u (2 ^ 31)) (pos u) (negsuc (2 ^ 32 - suc u))

unfoldable pub is_zero : ℤ → Bool
is_zero (pos n) = eqb n 0
is_zero (negsuc n) = false

-- "the offset is 0,0,0"
unfoldable pub no_offset : Offset → Bool
no_offset o = is_zero o.x && (is_zero o.y && is_zero o.z)

-- the numbers that 32 bits hold
abbrev pub InI32 : ℤ → Type 0
InI32 (pos n) = n < 2 ^ 31
InI32 (negsuc n) = n < 2 ^ 31
