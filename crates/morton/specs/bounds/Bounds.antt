-- Where a cell begins and ends, signed and exact (RULES G3).
use Rattle.std.specs.Prelude.{ℕ, ◌+◌, ◌*◌, ◌<◌, min, ℤ, pos, ◌+ℤ◌}
use Rattle.morton.specs.declared.grid.Cell.{Cell}
use Rattle.morton.specs.declared.grid.Volume.{Volume}
use Rattle.morton.specs.declared.bounds.Point.{Point}
use Rattle.morton.specs.declared.bounds.Bounds.{Bounds}

-- "A cell begins at offset + g × chunk" (RULES G3)
unfoldable pub cell_begin : ℤ → ℕ → ℕ → ℤ
cell_begin offset chunk g = offset +ℤ pos (g * chunk)

-- "and ends at offset + min((g+1) × chunk, size), per axis" (RULES G3)
unfoldable pub cell_end : ℤ → ℕ → ℕ → ℕ → ℤ
cell_end offset size chunk g = offset +ℤ pos (min ((g + 1) * chunk) size)

unfoldable pub begin_point : Volume → Cell → Point
begin_point v c =
    record {
      x = cell_begin v.offset.x v.chunk.x c.x;
      y = cell_begin v.offset.y v.chunk.y c.y;
      z = cell_begin v.offset.z v.chunk.z c.z;
    }

unfoldable pub end_point : Volume → Cell → Point
end_point v c =
    record {
      x = cell_end v.offset.x v.size.x v.chunk.x c.x;
      y = cell_end v.offset.y v.size.y v.chunk.y c.y;
      z = cell_end v.offset.z v.size.z v.chunk.z c.z;
    }

unfoldable pub bounds_of : Volume → Cell → Bounds
bounds_of v c = record { begin = begin_point v c; end = end_point v c }

-- a cell begins inside its volume, on each axis
pub record BeginsInside (v : Volume) (c : Cell) : Type 0 where
  pub x : c.x * v.chunk.x < v.size.x
  pub y : c.y * v.chunk.y < v.size.y
  pub z : c.z * v.chunk.z < v.size.z
