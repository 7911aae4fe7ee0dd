-- What the two halves at a key bit have of the box.
use Rattle.std.specs.Prelude.{ℕ, ◌+◌, ◌^◌, ◌≤◌, ◌<◌, ◌≡◌}
use Rattle.cover.specs.declared.halves.Halves.{Halves}
use Rattle.cover.specs.declared.halves.Cut.{Cut}
use Rattle.cover.specs.halves.Box.{Misses, Owns, last_below, first_above}

-- the box lies in the two halves of n bits from `first` on
pub record Halvable (low high first n : ℕ) : Type 0 where
  pub from : first ≤ low
  pub to : high < first + 2 ^ n + 2 ^ n
  pub fits : first + 2 ^ n + 2 ^ n ≤ 2 ^ 64

-- "splits the grid in two": where each half begins, and which of them miss the box (RULES B5)
pub record Halved (low high first n : ℕ) (r : Halves) : Type 0 where
  pub below : r.lower.first ≡ first
  pub above : r.upper.first ≡ first + 2 ^ n
  pub lower : Misses low high first n r.lower.misses
  pub upper : Misses low high (first + 2 ^ n) n r.upper.misses

-- the box in two, where `own` is the axis of bit n
pub record CutBox (ax ay az low high n : ℕ) (r : Cut) : Type 0 where
  pub own : ℕ
  pub owns : Owns ax ay az n own
  pub last : r.last ≡ last_below own high n
  pub first : r.first ≡ first_above own low n
