-- One axis: its bits, the turns of the steps that use it, and a key that grows below, or is read and shortened, by one bit.
use Rattle.std.specs.Prelude.{ℕ, zero, suc, ◌+◌, ◌*◌, ◌/◌, ◌%◌, ◌^◌, ◌≤◌, ◌<◌, Bool, true, false, ◌≡◌, ltb}

-- bit i of n
unfoldable pub bit_of : ℕ → ℕ → ℕ
bit_of n i = n / 2 ^ i % 2

-- turn i uses an axis of so many cells: "If 2**i < grid_size[dim]" (RULES G4)
unfoldable pub used : ℕ → ℕ → Bool
used cells i = ltb (2 ^ i) cells

-- 1 for a bit that is used
unfoldable pub count : Bool → ℕ
count true = 1
count false = 0

-- the bit b below the key k, a key's lowest bit, and a key without it: each if the axis is used
unfoldable pub put : Bool → ℕ → ℕ → ℕ
put true b k = b + 2 * k
put false b k = k

unfoldable pub low : Bool → ℕ → ℕ
low true k = k % 2
low false k = 0

unfoldable pub rest : Bool → ℕ → ℕ
rest true k = k / 2
rest false k = k

-- of n turns from turn i on, how many use an axis of so many cells
unfoldable pub used_turns : ℕ → ℕ → ℕ → ℕ
used_turns zero i cells = 0
used_turns (suc n) i cells = count (used cells i) + used_turns n (suc i) cells

-- an axis of so many cells gives r bits to a key: the r turns below r use it, and none from turn r on
pub record AxisBits (cells r : ℕ) : Type 0 where
  pub is : r ≡ used_turns 32 0 cells
  pub most : r ≤ 32
  pub holds : cells ≤ 2 ^ r
  pub needs : (i : ℕ) → i < r → 2 ^ i < cells
