-- Which chunks cover a box (RULES B1 to B4): the keys of the grid's cells that share a voxel with it, and what `cover` answers and leaves.
use Rattle.std.specs.Prelude.{ℕ, zero, suc, ◌^◌, Bool, true, false, ◌&&◌, List, [], ◌∷◌, ℤ, length, Ok}
use Rattle.std.specs.Int.Signed.{lt_z}
use Rattle.refusal.specs.Choice.{pick}
use Rattle.refusal.specs.Checks.{Check, check, answered, left}
use Rattle.refusal.specs.Buffer.{room, over}
use Rattle.refusal.specs.Answers.{Answer, refuse}
use Rattle.morton.specs.declared.grid.Cell.{Cell}
use Rattle.morton.specs.declared.bounds.Point.{Point}
use Rattle.morton.specs.declared.grid.Volume.{Volume}
use Rattle.morton.specs.grid.Grid.{grid_of, zero_extent}
use Rattle.morton.specs.Key.{key_bits_of, too_many_bits, cell_of, is_key}
use Rattle.morton.specs.bounds.Bounds.{begin_point, end_point}

-- ---- a cell and the box

unfoldable pub larger : ℤ → ℤ → ℤ
larger a b = pick (lt_z a b) b a

unfoldable pub smaller : ℤ → ℤ → ℤ
smaller a b = pick (lt_z a b) a b

-- along one axis: from begin up to end and from lower up to upper, both "half open", have a place in common
unfoldable pub shares : ℤ → ℤ → ℤ → ℤ → Bool
shares begin end lower upper = lt_z (larger begin lower) (smaller end upper)

-- "share a voxel with the box": along each axis; a cell ends where its volume does (RULES B1)
unfoldable pub meets : Volume → Point → Point → Cell → Bool
meets v lower upper c =
    shares (begin_point v c).x (end_point v c).x lower.x upper.x
    && (shares (begin_point v c).y (end_point v c).y lower.y upper.y
    && shares (begin_point v c).z (end_point v c).z lower.z upper.z)

-- ---- the keys

-- k is the key of a cell of the grid, and that cell meets the box
unfoldable pub covers : Volume → Point → Point → ℕ → Bool
covers v lower upper k = is_key (grid_of v) k && meets v lower upper (cell_of (grid_of v) k)

unfoldable pub keep : Bool → ℕ → List ℕ → List ℕ
keep true k ks = k ∷ ks
keep false k ks = ks

-- those of the n numbers from k on that pass the test: "each once, in rising key order"
unfoldable pub passing : (ℕ → Bool) → ℕ → ℕ → List ℕ
passing test k zero = []
passing test k (suc n) = keep (test k) k (passing test (suc k) n)

-- "the keys of all grid cells that share a voxel with the box" (RULES B2)
unfoldable pub cover_keys : Volume → Point → Point → List ℕ
cover_keys v lower upper = passing (covers v lower upper) 0 (2 ^ key_bits_of (grid_of v))

-- ---- the answer, and what the output then holds

-- "2 and 3 as before, whatever the box, then 13 if the keys, one u64 each, do not fit" (RULES B3)
unfoldable pub cover_checks : Volume → Point → Point → List ℕ → List Check
cover_checks v lower upper out =
    check 2 (zero_extent v) ∷ check 3 (too_many_bits (grid_of v)) ∷ room (cover_keys v lower upper) out ∷ []

-- "The count returned is the number of keys." (RULES B2)
unfoldable pub cover_answer : Volume → Point → Point → List ℕ → Answer ℕ
cover_answer v lower upper out = answered refuse (cover_checks v lower upper out) (Ok (length (cover_keys v lower upper)))

-- the keys and, past them, what was there; "the output is untouched in each" refusal (RULES B2)
unfoldable pub cover_left : Volume → Point → Point → List ℕ → List ℕ
cover_left v lower upper out = left (cover_checks v lower upper out) (over (cover_keys v lower upper) out) out
