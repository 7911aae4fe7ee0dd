-- The numbers of a voxel and of its block, as they are computed.
use Prim.Native.Nat.{ℕ, ◌+◌, ◌*◌, ◌/◌, ◌%◌}
use mathlib.Core.Path.{◌≡◌, ◌∙◌}
use Rattle.morton.specs.grid.Grid.{grid_size}
use Rattle.compressed_segmentation.specs.declared.Shape.{Shape}
use Rattle.compressed_segmentation.specs.Layout.{block_number, place_number}

-- ---- numbers of blocks and voxels

module _ (sh : Shape) (x y z : ℕ) where
  pub block-number-is : {g d h : ℕ} → g ≡ grid_size sh.extents.x sh.block.x → d ≡ grid_size sh.extents.y sh.block.y
      → h ≡ y / sh.block.y + d * (z / sh.block.z) → {r : ℕ} → r ≡ x / sh.block.x + g * h → r ≡ block_number sh x y z
  unfolding block_number
  block-number-is e f k q = q ∙ rw (k, e, f)

  pub place-number-is : {h r : ℕ} → h ≡ y % sh.block.y + sh.block.y * (z % sh.block.z) → r ≡ x % sh.block.x + sh.block.x * h → r ≡ place_number sh x y z
  unfolding place_number
  place-number-is k q = q ∙ rw k
