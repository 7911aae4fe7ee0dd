-- The marked cells of a grid, and a grid whose marked cells are those that share a voxel with a box.
use Rattle.std.specs.Prelude.{ℕ, ◌+◌, ◌-◌, ◌^◌, ◌≤◌, min, ◌≡◌, Bool, ◌&&◌, ◌||◌, List, ltb, leb, ℤ, pos, negsuc, ◌-ℤ◌}
use Rattle.morton.specs.declared.grid.Cell.{Cell}
use Rattle.morton.specs.declared.grid.Extents.{Extents}
use Rattle.morton.specs.declared.bounds.Point.{Point}
use Rattle.morton.specs.declared.grid.Volume.{Volume}
use Rattle.morton.specs.grid.Grid.{grid_of, grid_size}
use Rattle.morton.specs.Key.{cell_of}
use Rattle.morton.specs.axis.Axis.{AxisBits}
use Rattle.morton.specs.bounds.Bounds.{cell_begin, cell_end}
use Rattle.cover.specs.overlap.Cover.{shares, passing, cover_keys}
use Rattle.cover.specs.declared.overlap.Along.{Along}
use Rattle.cover.specs.declared.overlap.Part.{Part}

-- ---- along one axis: 2 ^ bits cells, of which those from `from` up to `to` are marked
unfoldable pub marked : Along → ℕ → Bool
marked a c = leb a.from c && ltb c a.to

pub record Fitting (a : Along) : Type 0 where
  pub most : a.bits ≤ 32
  pub within : a.to ≤ 2 ^ a.bits

-- ---- three axes
pub record Sized (p : Part) : Type 0 where
  pub x : Fitting p.x
  pub y : Fitting p.y
  pub z : Fitting p.z

unfoldable pub marked_cell : Part → Cell → Bool
marked_cell p c = marked p.x c.x && (marked p.y c.y && marked p.z c.z)

-- no cell is marked
unfoldable pub missed : Part → Bool
missed p = leb p.x.to p.x.from || (leb p.y.to p.y.from || leb p.z.to p.z.from)

unfoldable pub frame : Part → Extents
frame p = record { x = 2 ^ p.x.bits; y = 2 ^ p.y.bits; z = 2 ^ p.z.bits }

-- how many key bits are left
unfoldable pub left_bits : Part → ℕ
left_bits p = p.x.bits + p.y.bits + p.z.bits

-- the keys of the marked cells, of which `first` is the key of the part's first cell
unfoldable pub part_keys : Part → ℕ → List ℕ
part_keys p first = passing (λ k. marked_cell p (cell_of (frame p) (k - first))) first (2 ^ left_bits p)

-- how many cells are marked
unfoldable pub marked_width : Along → ℕ
marked_width a = a.to - a.from

-- the first and the last marked cell along each axis
abbrev pub first_cell : Part → Cell
first_cell p = record { x = p.x.from; y = p.y.from; z = p.z.from }

abbrev pub last_cell : Part → Cell
last_cell p = record { x = p.x.to - 1; y = p.y.to - 1; z = p.z.to - 1 }

-- each axis of the grid gives as many key bits as the part has
pub record Framed (grid : Extents) (p : Part) : Type 0 where
  pub x : AxisBits grid.x p.x.bits
  pub y : AxisBits grid.y p.y.bits
  pub z : AxisBits grid.z p.z.bits

-- ---- voxels
unfoldable pub natural : ℤ → ℕ
natural (pos n) = n
natural (negsuc n) = 0

-- how many of an axis' voxels lie before a place
unfoldable pub before : ℤ → ℕ → ℤ → ℕ
before offset size place = min size (natural (place -ℤ offset))

-- the marked cells of an axis are those that share a place with the box
pub record Spans (offset : ℤ) (size chunk : ℕ) (lower upper : ℤ) (a : Along) : Type 0 where
  pub bits : AxisBits (grid_size size chunk) a.bits
  pub within : a.to ≤ grid_size size chunk
  pub meets : (c : ℕ) → shares (cell_begin offset chunk c) (cell_end offset size chunk c) lower upper ≡ marked a c

-- the whole grid as a part
pub record Whole (v : Volume) (lower upper : Point) (p : Part) : Type 0 where
  pub sized : Sized p
  pub framed : Framed (grid_of v) p
  pub keys : part_keys p 0 ≡ cover_keys v lower upper
