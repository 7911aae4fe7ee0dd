-- A window of positions: a bit for each, and behind them a bit for each group of 4,096, set where all of the group are noted at once.
use Rattle.std.specs.Prelude.{ℕ, ◌+◌, ◌/◌, ◌<◌, ◌≡◌, Bool, false, ◌||◌, List, length}
use Rattle.bitmap.specs.Bits.{bit_at}

-- 1,016 groups of positions
abbrev pub span : ℕ
span = 4161536

-- the words of its map
abbrev pub window_words : ℕ
window_words = 65040

-- position p is noted
unfoldable pub noted : List ℕ → ℕ → Bool
noted map p = bit_at map p || bit_at map (span + p / 4096)

-- of the window's positions, those where the test holds are noted too, and the others stay
pub record Notes (old new : List ℕ) (test : ℕ → Bool) : Type 0 where
  pub same : length new ≡ length old
  pub each : (p : ℕ) → p < span → noted new p ≡ noted old p || test p

-- none is noted
pub record Clear (map : List ℕ) : Type 0 where
  pub none : (p : ℕ) → noted map p ≡ false
