-- Maps with a bit for each position, in words of 64 bits.
use Rattle.std.specs.Prelude.{ℕ, zero, suc, ◌*◌, ◌/◌, ◌%◌, ◌<◌, ◌≡◌, Bool, ◌||◌, List, eqb, length, get_or}

-- bit i of a number, the lowest being bit 0
unfoldable pub bit_of : ℕ → ℕ → Bool
bit_of n zero = eqb (n % 2) 1
bit_of n (suc i) = bit_of (n / 2) i

-- bit i of a map
unfoldable pub bit_at : List ℕ → ℕ → Bool
bit_at map i = bit_of (get_or map (i / 64) 0) (i % 64)

-- of the map's bits, those where the test holds are set too, and the others stay
pub record Marked (old new : List ℕ) (test : ℕ → Bool) : Type 0 where
  pub same : length new ≡ length old
  pub bits : (i : ℕ) → i < 64 * length old → bit_at new i ≡ bit_at old i || test i
