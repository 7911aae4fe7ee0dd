-- The ids of a minishard, and one that stands twice.
use Rattle.std.specs.Prelude.{ℕ, suc, ◌-◌, ◌%◌, ◌^◌, Bool, ◌&&◌, nat_eq, nat_le, nat_lt}
use Rattle.endian.specs.Range.{sum_to, any_below, first}

-- the id of entry i: the sum of the id steps so far, modulo 2^64 (RULES F4)
unfoldable pub id_at : (ℕ → ℕ) → ℕ → ℕ
id_at steps i = sum_to steps (suc i) % 2 ^ 64

-- an earlier entry has the id of entry i (RULES F9)
unfoldable pub repeats : (ℕ → ℕ) → ℕ → Bool
repeats id i = any_below i (λ j. nat_eq (id j) (id i))

-- entry i has no greater id than the one before it
unfoldable pub stops_rising : (ℕ → ℕ) → ℕ → Bool
stops_rising id i = nat_lt 0 i && nat_le (id i) (id (i - 1))

-- the first of n entries whose id an earlier one has; n where there is none
unfoldable pub first_twice : (ℕ → ℕ) → ℕ → ℕ
first_twice steps n = first (repeats (id_at steps)) n
