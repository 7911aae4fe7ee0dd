-- Positions, and how many of them a test misses.
use Rattle.std.specs.Prelude.{ℕ, ◌+◌, Bool, ◌&&◌, ltb, leb}
use Rattle.refusal.specs.Choice.{pick}
use Rattle.endian.specs.Range.{sum_to}

-- position p lies from a on and before b
unfoldable pub within : ℕ → ℕ → ℕ → Bool
within a b p = leb a p && ltb p b

-- a test, of the positions from lo on
unfoldable pub after : ℕ → (ℕ → Bool) → ℕ → Bool
after lo test i = test (lo + i)

-- 1 for a position that the test misses
unfoldable pub miss : (ℕ → Bool) → ℕ → ℕ
miss test p = pick (test p) 0 1

-- how many of the positions below n the test misses
abbrev pub misses : (ℕ → Bool) → ℕ → ℕ
misses test n = sum_to (miss test) n
