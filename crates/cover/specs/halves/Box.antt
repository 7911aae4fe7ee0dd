-- A box of cells, as its first and its last key, and its halves.
use Rattle.std.specs.Prelude.{ℕ, zero, suc, ◌+◌, ◌-◌, ◌*◌, ◌/◌, ◌%◌, ◌^◌, ◌≤◌, ◌<◌, ◌≡◌, Bool, ◌&&◌, List, [], ◌∷◌, leb, eqb, length}
use Rattle.std.specs.Int.Bits.{bit_and, bit_or}
use Rattle.cover.specs.overlap.Cover.{passing}

-- n numbers from k on
unfoldable pub counting : ℕ → ℕ → List ℕ
counting k zero = []
counting k (suc n) = k ∷ counting (suc k) n

-- ---- a box of cells, as the keys of its first and its last cell; the key bits of each axis are a number
-- along an axis, from one key's cell to another's
unfoldable pub between : ℕ → ℕ → ℕ → ℕ → Bool
between axis low high k = leb (bit_and low axis) (bit_and k axis) && leb (bit_and k axis) (bit_and high axis)

unfoldable pub in_box : ℕ → ℕ → ℕ → ℕ → ℕ → ℕ → Bool
in_box x y z low high k = between x low high k && (between y low high k && between z low high k)

-- the keys of the box: no other lies outside the first and the last (RULES B5)
unfoldable pub box_keys : ℕ → ℕ → ℕ → ℕ → ℕ → List ℕ
box_keys x y z low high = passing (in_box x y z low high) low (suc high - low)

-- low's cell does not lie past high's along any axis, and each key bit is one of an axis
pub record BoxCorners (ax ay az low high : ℕ) : Type 0 where
  pub x : bit_and low ax ≤ bit_and high ax
  pub y : bit_and low ay ≤ bit_and high ay
  pub z : bit_and low az ≤ bit_and high az
  pub bits : ℕ
  pub fits : high < 2 ^ bits
  pub whole : (k : ℕ) → k < 2 ^ bits → bit_and k ax + bit_and k ay + bit_and k az ≡ k

-- "the highest key bit splits the grid in two": a half with `bits` bits left has the 2 ^ bits keys from `first` on, which have the
-- higher bits in common. The box between low and high lies in it (RULES B5)
pub record InHalf (ax ay az low high first bits : ℕ) : Type 0 where
  pub corners : BoxCorners ax ay az low high
  pub ordered : low ≤ high
  pub number : ℕ
  pub begins : first ≡ number * 2 ^ bits
  pub from : first ≤ low
  pub to : high < first + 2 ^ bits
  pub grid : first + 2 ^ bits ≤ 2 ^ corners.bits
  pub most : corners.bits ≤ 64

-- the keys of the box in the half from `first` on that has n bits
unfoldable pub half_keys : ℕ → ℕ → ℕ → ℕ → ℕ → ℕ → ℕ → List ℕ
half_keys x y z low high first n = passing (in_box x y z low high) first (2 ^ n)

-- the box does not reach beyond the half on both sides: it lies in this half and the other one
pub data Beside (low high first n : ℕ) : Type 0 where
  begun : first ≤ low → Beside low high first n
  ended : high < first + 2 ^ n → Beside low high first n

-- "a half that misses the box": no key of the box is in it, whatever bits the axes have
pub record Misses (low high first n : ℕ) (r : Bool) : Type 0 where
  pub told : (x y z : ℕ) (c : BoxCorners x y z low high) → first + 2 ^ n ≤ 2 ^ c.bits → r ≡ eqb (length (half_keys x y z low high first n)) 0

-- low and high lie in the two halves at bit n
pub record SplitAt (low high n : ℕ) : Type 0 where
  pub even : low / 2 ^ n % 2 ≡ 0
  pub next : high / 2 ^ n ≡ suc (low / 2 ^ n)

-- one axis has bit n, and below it no two share a bit
pub record Axes (ax ay az n : ℕ) : Type 0 where
  pub one : ax / 2 ^ n % 2 + ay / 2 ^ n % 2 + az / 2 ^ n % 2 ≡ 1
  pub xy : bit_and (ax % 2 ^ n) (ay % 2 ^ n) ≡ 0
  pub xz : bit_and (ax % 2 ^ n) (az % 2 ^ n) ≡ 0
  pub yx : bit_and (ay % 2 ^ n) (ax % 2 ^ n) ≡ 0
  pub yz : bit_and (ay % 2 ^ n) (az % 2 ^ n) ≡ 0
  pub zx : bit_and (az % 2 ^ n) (ax % 2 ^ n) ≡ 0
  pub zy : bit_and (az % 2 ^ n) (ay % 2 ^ n) ≡ 0

-- an axis is the one that has bit n, or another, which shares no bit below it
pub data Side (own n axis : ℕ) : Type 0 where
  mine : axis ≡ own → axis / 2 ^ n % 2 ≡ 1 → Side own n axis
  other : axis / 2 ^ n % 2 ≡ 0 → bit_and (own % 2 ^ n) (axis % 2 ^ n) ≡ 0 → Side own n axis

pub record Owns (ax ay az n own : ℕ) : Type 0 where
  pub x : Side own n ax
  pub y : Side own n ay
  pub z : Side own n az

-- the last key of the box below bit n, where that bit's axis goes on to its end, and the first one above, where it begins anew
unfoldable pub last_below : ℕ → ℕ → ℕ → ℕ
last_below own high n = bit_or (high - 2 ^ n) (own % 2 ^ n)

unfoldable pub first_above : ℕ → ℕ → ℕ → ℕ
first_above own low n = low - bit_and low (own % 2 ^ n) + 2 ^ n
