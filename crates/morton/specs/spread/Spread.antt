-- Spread bits, and a table of them (RULES G10: "a table of 256 spread bytes, entry b having bit k of b at place 3k").
use Rattle.std.specs.Prelude.{ℕ, zero, suc, ◌+◌, ◌*◌, ◌^◌, ◌<◌, ◌≡◌, List, length, get_or}
use Rattle.morton.specs.axis.Axis.{bit_of}

-- the n low bits of v, bit k at place 3 × k, and no other bit
unfoldable pub spread : ℕ → ℕ → ℕ
spread zero v = 0
spread (suc n) v = spread n v + bit_of v n * 2 ^ (3 * n)

-- a table of the 256 spread bytes (RULES G10)
pub record Spreads (t : List ℕ) : Type 0 where
  pub size : length t ≡ 256
  pub entry : (b : ℕ) → b < 256 → get_or t b 0 ≡ spread 8 b

-- bit k of v is at place 3 × k of s, and the two places after it are empty
pub record Placed (s v k : ℕ) : Type 0 where
  pub here : bit_of s (3 * k + 0) ≡ bit_of v k
  pub next : bit_of s (3 * k + 1) ≡ 0
  pub last : bit_of s (3 * k + 2) ≡ 0
