-- The grid of a volume: how many cells each axis has, and which cells there are (RULES G1, G2).
use Rattle.std.specs.Prelude.{ℕ, ◌+◌, ◌-◌, ◌/◌, ◌^◌, ◌<◌, Bool, ◌&&◌, ◌||◌, ltb, eqb}
use Rattle.morton.specs.declared.grid.Extents.{Extents}
use Rattle.morton.specs.declared.grid.Cell.{Cell}
use Rattle.morton.specs.declared.grid.Volume.{Volume}

-- "Grid size is the extent divided by the chunk, rounded up." (RULES G1)
unfoldable pub grid_size : ℕ → ℕ → ℕ
grid_size extent chunk = (extent + (chunk - 1)) / chunk

-- RULES G1
unfoldable pub grid_of : Volume → Extents
grid_of v =
    record {
      x = grid_size v.size.x v.chunk.x;
      y = grid_size v.size.y v.chunk.y;
      z = grid_size v.size.z v.chunk.z;
    }

-- refusal 2: "a volume or chunk extent is 0"
unfoldable pub has_zero : Extents → Bool
has_zero e = eqb e.x 0 || (eqb e.y 0 || eqb e.z 0)

-- RULES G2
unfoldable pub zero_extent : Volume → Bool
zero_extent v = has_zero v.size || has_zero v.chunk

-- each coordinate is below its grid size (RULES G2)
unfoldable pub in_grid : Extents → Cell → Bool
in_grid grid c = ltb c.x grid.x && (ltb c.y grid.y && ltb c.z grid.z)

-- extents are u32: no law below needs more of a volume's size
pub record InU32 (e : Extents) : Type 0 where
  pub x : e.x < 2 ^ 32
  pub y : e.y < 2 ^ 32
  pub z : e.z < 2 ^ 32
