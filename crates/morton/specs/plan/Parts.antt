-- A key in two parts: the turns that use all three axes, and those after them, which see a coarser grid.
use Rattle.std.specs.Prelude.{ℕ, ◌+◌, ◌*◌, ◌/◌, ◌^◌, ◌≤◌, ◌<◌, ◌≡◌}
use Rattle.morton.specs.declared.grid.Extents.{Extents}
use Rattle.morton.specs.declared.grid.Cell.{Cell}
use Rattle.morton.specs.grid.Grid.{grid_size, InU32}
use Rattle.morton.specs.Key.{key_bits_of, key_of}
use Rattle.morton.specs.declared.plan.Plan.{Plan}
use Rattle.morton.specs.spread.Spread.{spread}

-- the turns below n, where all three axes are used: x, y, z of each in turn (RULES G10)
unfoldable pub low_key : ℕ → Cell → ℕ
low_key n c = spread n c.x + 2 * spread n c.y + 4 * spread n c.z

-- the grid whose cells are 2 ^ n cells long along each axis, and the cell of it that holds a cell
unfoldable pub coarse_grid : ℕ → Extents → Extents
coarse_grid n grid = record { x = grid_size grid.x (2 ^ n); y = grid_size grid.y (2 ^ n); z = grid_size grid.z (2 ^ n) }

abbrev pub coarse_cell : ℕ → Cell → Cell
coarse_cell n c = record { x = c.x / 2 ^ n; y = c.y / 2 ^ n; z = c.z / 2 ^ n }

-- the turns from n on: the key of the coarse cell, above the 3 × n bits of those before (RULES G10)
unfoldable pub rest_key : ℕ → Extents → Cell → ℕ
rest_key n grid c = key_of (coarse_grid n grid) (coarse_cell n c) * 2 ^ (3 * n)

-- turn i uses all three axes
pub record Shared (grid : Extents) (i : ℕ) : Type 0 where
  pub x : 2 ^ i < grid.x
  pub y : 2 ^ i < grid.y
  pub z : 2 ^ i < grid.z

-- what a plan says is so of its grid
pub record Planned (p : Plan) : Type 0 where
  pub words : InU32 p.grid
  pub few : key_bits_of p.grid ≤ 64
  pub most : p.low ≤ 21
  pub shared : (i : ℕ) → i < p.low → Shared p.grid i
  -- and these are all that the axes share
  pub all : (i : ℕ) → p.low ≤ i → Shared p.grid i → ⊥
  pub rest : p.rest ≡ coarse_grid p.low p.grid
  pub bits : p.bits ≡ key_bits_of p.rest
  pub left : key_bits_of p.rest ≤ 64
