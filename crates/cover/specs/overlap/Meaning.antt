-- What a reader believes of the list of keys, said with voxels; `proofs/overlap/Laws` ties it to the definitions of `Cover`.
use Rattle.std.specs.Prelude.{ℕ, suc, ◌≤◌, ◌≡◌, Bool, true, ◌||◌, List, [], ◌∷◌, ℤ, pos, ◌+ℤ◌}
use Rattle.std.specs.Int.Signed.{lt_z, le_z}
use Rattle.morton.specs.declared.grid.Cell.{Cell}
use Rattle.morton.specs.declared.bounds.Point.{Point}
use Rattle.morton.specs.declared.grid.Volume.{Volume}
use Rattle.morton.specs.bounds.Bounds.{begin_point, end_point}

-- from begin up to end, end excluded
pub record From (begin end place : ℤ) : Type 0 where
  pub from : le_z begin place ≡ true
  pub before : lt_z place end ≡ true

-- a voxel lies between two corners, the far ones excluded
pub record Between (begin end voxel : Point) : Type 0 where
  pub x : From begin.x end.x voxel.x
  pub y : From begin.y end.y voxel.y
  pub z : From begin.z end.z voxel.z

-- "share a voxel": one lies in the cell and in the box (RULES B1)
pub record SharesVoxel (v : Volume) (lower upper : Point) (c : Cell) : Type 0 where
  pub voxel : Point
  pub inside : Between (begin_point v c) (end_point v c) voxel
  pub boxed : Between lower upper voxel

-- each number is at least k and above the one before it
abbrev pub RisingFrom : ℕ → List ℕ → Type 0
RisingFrom k [] = Unit {0}
RisingFrom k (n ∷ ns) = (k ≤ n) × RisingFrom (suc n) ns

-- "an empty or reversed one", along some axis (RULES B4)
unfoldable pub reversed : Point → Point → Bool
reversed lower upper = le_z upper.x lower.x || (le_z upper.y lower.y || le_z upper.z lower.z)

-- along an axis, a box that ends before the volume or begins past it
unfoldable pub apart : ℤ → ℕ → ℤ → ℤ → Bool
apart offset size lower upper = le_z upper offset || le_z (offset +ℤ pos size) lower

-- "or one outside the volume" (RULES B4)
unfoldable pub outside_volume : Volume → Point → Point → Bool
outside_volume v lower upper =
    apart v.offset.x v.size.x lower.x upper.x
    || (apart v.offset.y v.size.y lower.y upper.y || apart v.offset.z v.size.z lower.z upper.z)
