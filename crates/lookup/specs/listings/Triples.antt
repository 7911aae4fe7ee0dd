-- What three numbers of a listing say (RULES L5).
use Rattle.std.specs.Prelude.{◌≡◌, ℕ, ◌+◌, ◌*◌, ◌≤◌, List, length, take, drop, slice_index_or}

-- the three numbers from 3 i on, of the numbers l, are the id and the place and length of these bytes in the file (RULES L5)
pub record Says (l file : List ℕ) (i id : ℕ) (bytes : List ℕ) : Type 0 where
  pub start : ℕ
  pub size : ℕ
  pub among : 3 * i + 3 ≤ length l
  pub named : slice_index_or l (3 * i) 0 ≡ id
  pub placed : slice_index_or l (3 * i + 1) 0 ≡ start
  pub sized : slice_index_or l (3 * i + 2) 0 ≡ size
  pub holding : take size (drop start file) ≡ bytes
