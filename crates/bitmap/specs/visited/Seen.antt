-- The places that a map notes, by its bits.
use Rattle.std.specs.Prelude.{ℕ, ◌*◌, ◌<◌, ◌≡◌, true, List, ◌⊎◌, length}
use Rattle.bitmap.specs.Bits.{bit_at}

pub record Seen (map : List ℕ) (o : ℕ) : Type 0 where
  pub inside : o < 64 * length map
  pub bit : bit_at map o ≡ true

-- what was noted stays noted, o is noted where the map reaches it, and nothing else is
pub record Sees (old new : List ℕ) (o : ℕ) : Type 0 where
  pub same : length new ≡ length old
  pub stays : (i : ℕ) → Seen old i → Seen new i
  pub noted : o < 64 * length old → Seen new o
  pub only : (i : ℕ) → Seen new i → Seen old i ⊎ (i ≡ o)

pub record Blank (map : List ℕ) : Type 0 where
  pub none : (o : ℕ) → Seen map o → ⊥
