-- How the voxels of a chunk are cut into blocks and numbered, and what a block header says.
use Rattle.std.specs.Prelude.{ℕ, ◌+◌, ◌*◌, ◌/◌, ◌%◌, Bool, ◌||◌, leb, eqb}
use Rattle.morton.specs.grid.Grid.{grid_size, has_zero}
use Rattle.compressed_segmentation.specs.declared.Shape.{Shape}

-- refusal 2: "a zero extent, block size or channel count" (RULES E1)
unfoldable pub no_voxels : Shape → Bool
no_voxels sh = has_zero sh.extents || (has_zero sh.block || eqb sh.channels 0)

-- refusal 2: "a voxel or channel outside" (RULES E1)
unfoldable pub outside_shape : Shape → ℕ → ℕ → ℕ → ℕ → Bool
outside_shape sh x y z c = leb sh.extents.x x || (leb sh.extents.y y || (leb sh.extents.z z || leb sh.channels c))

-- how many blocks there are along x and y: "X / bx rounded up"
abbrev pub across : Shape → ℕ
across sh = grid_size sh.extents.x sh.block.x

abbrev pub down : Shape → ℕ
down sh = grid_size sh.extents.y sh.block.y

abbrev pub deep : Shape → ℕ
deep sh = grid_size sh.extents.z sh.block.z

-- "Voxel (x, y, z) lies in block (x / bx, y / by, z / bz); block (i, j, k) has the number i + gx × (j + gy × k)." (RULES E3)
unfoldable pub block_number : Shape → ℕ → ℕ → ℕ → ℕ
block_number sh x y z = x / sh.block.x + across sh * (y / sh.block.y + down sh * (z / sh.block.z))

-- "Inside a block, voxel (x mod bx, y mod by, z mod bz) = (u, v, w) has the number u + bx × (v + by × w)." (RULES E3)
unfoldable pub place_number : Shape → ℕ → ℕ → ℕ → ℕ
place_number sh x y z = x % sh.block.x + sh.block.x * (y % sh.block.y + sh.block.y * (z % sh.block.z))

-- a header's first word: "its low 24 bits are the table's offset, its high 8 bits the width" (RULES E4)
abbrev pub table_in : ℕ → ℕ
table_in first = first % 16777216

-- RULES E4
abbrev pub width_in : ℕ → ℕ
width_in first = first / 16777216

-- "Width is how many bits a voxel takes: 0, 1, 2, 4, 8, 16 or 32." (RULES E4)
unfoldable pub is_width : ℕ → Bool
is_width w = eqb w 0 || (eqb w 1 || (eqb w 2 || (eqb w 4 || (eqb w 8 || (eqb w 16 || eqb w 32)))))
