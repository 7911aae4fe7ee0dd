-- Worked cases of grids and keys beside those of RULES W1, as one table: source 000's example, and refusals by their order.
use Prim.Native.Nat.{ℕ, ◌^◌}
use mathlib.Core.Path.{◌≡◌, refl}
use mathlib.Core.List.{List, [], ◌∷◌, map}
use lib.IntN.{pos, negsuc}
use Rattle.refusal.specs.Checks.{first_number, unless}
use Rattle.morton.specs.declared.grid.Extents.{Extents}
use Rattle.morton.specs.declared.grid.Cell.{Cell}
use Rattle.morton.specs.declared.grid.Volume.{Volume}
use Rattle.std.specs.Prelude.{Ok}
use Rattle.refusal.specs.Answers.{Answer, refuse}
use Rattle.morton.specs.grid.Grid.{grid_size, grid_of, has_zero, zero_extent, in_grid}
use Rattle.morton.specs.axis.Axis.{used}
use Rattle.morton.specs.Key.{step, steps, key_bits_of, too_many_bits}
use Rattle.morton.specs.grid.Answers.{no_cell, grid_checks, grid_answer}
use Rattle.morton.specs.Answers.{key_checks, key_answer, cell_checks, cell_answer}

abbrev pub extents : ℕ → ℕ → ℕ → Extents
extents x y z = record { x = x; y = y; z = z }

abbrev pub cell : ℕ → ℕ → ℕ → Cell
cell x y z = record { x = x; y = y; z = z }

-- a volume whose chunks are one voxel, so that its size is its grid
abbrev pub plain : ℕ → ℕ → ℕ → Volume
plain x y z = record { size = extents x y z; chunk = extents 1 1 1; offset = record { x = pos 0; y = pos 0; z = pos 0 } }

-- size 100, chunk 64, offset -64 along x
abbrev pub shifted : Volume
shifted = record { size = extents 100 1 1; chunk = extents 64 1 1; offset = record { x = negsuc 63; y = pos 0; z = pos 0 } }

-- source 000's example
abbrev pub example : Volume
example = record { size = extents 6446 6643 8090; chunk = extents 64 64 64; offset = record { x = pos 0; y = pos 0; z = pos 0 } }

-- what is asked of a volume, and the answer
pub data Case : Type 0 where
  grid : Volume → Answer Extents → Case
  bits : Volume → ℕ → Case
  key : Volume → Cell → Answer ℕ → Case
  at : Volume → ℕ → Answer Cell → Case

-- the case with the answer that the definitions give
abbrev pub defined : Case → Case
defined (grid v a) = grid v (grid_answer v)
defined (bits v n) = bits v (key_bits_of (grid_of v))
defined (key v c a) = key v c (key_answer v c)
defined (at v k a) = at v k (cell_answer v k)

abbrev pub table : List Case
table =
    grid example (Ok (extents 101 104 127))
    ∷ bits example 21
    ∷ bits (plain 5 3 1) 5
    ∷ key (plain 5 3 1) (cell 5 2 0) (refuse 2)
    ∷ bits (plain 1 1 1) 0
    ∷ grid (plain 0 3 1) (refuse 2)
    ∷ key (plain 0 3 1) (cell 0 0 0) (refuse 2)
    ∷ at (plain 0 3 1) 0 (refuse 2)
    ∷ key (plain (2 ^ 22) (2 ^ 22) (2 ^ 21)) (cell (2 ^ 22) 0 0) (refuse 2)
    ∷ grid shifted (Ok (extents 2 1 1))
    ∷ []

pub cases_hold : map defined table ≡ table
unfolding first_number unless grid_size grid_of has_zero zero_extent in_grid used step steps key_bits_of too_many_bits no_cell grid_checks grid_answer key_checks key_answer cell_checks cell_answer
cases_hold = refl
