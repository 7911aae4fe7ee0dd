-- The compressed Morton key of a cell, by the numbered steps of source 000, and the cell of a key (RULES G4 to G6).
use Rattle.std.specs.Prelude.{ℕ, zero, suc, ◌+◌, ◌*◌, ◌^◌, Bool, true, false, ◌&&◌, ltb}
use Rattle.morton.specs.declared.grid.Extents.{Extents}
use Rattle.morton.specs.declared.grid.Cell.{Cell}
use Rattle.morton.specs.grid.Grid.{in_grid}
use Rattle.morton.specs.axis.Axis.{bit_of, used, count}

-- ---- the key of a cell
-- the state of the steps: j, the next output bit, and the key so far
pub record Output : Type 0 where
  pub j : ℕ
  pub key : ℕ

-- one axis of a turn, b its bit: "Set output bit j of the compressed Morton code to bit i of g[dim]. Set j := j + 1."
unfoldable pub step : Bool → ℕ → Output → Output
step true b w = record { j = w.j + 1; key = w.key + b * 2 ^ w.j }
step false b w = w

-- n turns from turn i on: "For dim in 0, 1, 2 (corresponding to x, y, z)"
unfoldable pub steps : ℕ → ℕ → Extents → Cell → Output → Output
steps zero i grid c w = w
steps (suc n) i grid c w =
    steps n (suc i) grid c
    (step (used grid.z i) (bit_of c.z i)
    (step (used grid.y i) (bit_of c.y i)
    (step (used grid.x i) (bit_of c.x i) w)))

-- "Set j := 0." Coordinates are u32: 32 turns reach each bit, and a turn that no axis uses gives nothing. (RULES G5)
unfoldable pub key_of : Extents → Cell → ℕ
key_of grid c = (steps 32 0 grid c (record { j = 0; key = 0 })).key

-- how many output bits the steps give: the cell does not matter (RULES G4)
unfoldable pub key_bits_of : Extents → ℕ
key_bits_of grid = (steps 32 0 grid (record { x = 0; y = 0; z = 0 }) (record { j = 0; key = 0 })).j

-- refusal 3: "the grid needs more than 64 key bits" (RULES G4)
unfoldable pub too_many_bits : Extents → Bool
too_many_bits grid = ltb 64 (key_bits_of grid)

-- ---- the cell of a key: the same steps, which now read
-- the state: j, the next bit of the key, and the coordinates so far
pub record Input : Type 0 where
  pub j : ℕ
  pub x : ℕ
  pub y : ℕ
  pub z : ℕ

-- bit j of the key is bit i of the coordinate, so far v, if turn i uses the axis
unfoldable pub into : Bool → ℕ → ℕ → ℕ → ℕ → ℕ
into true key j i v = v + bit_of key j * 2 ^ i
into false key j i v = v

-- one turn: x, y, z, each after the bits of those before it
unfoldable pub step_back : Bool → Bool → Bool → ℕ → ℕ → Input → Input
step_back ux uy uz key i w =
    record {
      j = w.j + count ux + count uy + count uz;
      x = into ux key w.j i w.x;
      y = into uy key (w.j + count ux) i w.y;
      z = into uz key (w.j + count ux + count uy) i w.z;
    }

-- n turns from turn i on
unfoldable pub steps_back : ℕ → ℕ → Extents → ℕ → Input → Input
steps_back zero i grid key w = w
steps_back (suc n) i grid key w =
    steps_back n (suc i) grid key (step_back (used grid.x i) (used grid.y i) (used grid.z i) key i w)

-- RULES G6
unfoldable pub cell_of : Extents → ℕ → Cell
cell_of grid key =
    let w : Input = steps_back 32 0 grid key (record { j = 0; x = 0; y = 0; z = 0 }) in
    record { x = w.x; y = w.y; z = w.z }

-- refusal 4, denied: no "bit above the last used one", and no "cell outside the grid" (RULES G6)
unfoldable pub is_key : Extents → ℕ → Bool
is_key grid key = ltb key (2 ^ key_bits_of grid) && in_grid grid (cell_of grid key)
