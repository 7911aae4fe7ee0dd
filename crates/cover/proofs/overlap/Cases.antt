-- Worked cases, as one table: what is asked, the answer, and what the output then holds.
use Prim.Native.Nat.{ℕ, ◌^◌}
use mathlib.Core.Path.{◌≡◌, refl}
use mathlib.Core.List.{List, [], ◌∷◌, map}
use lib.IntN.{ℤ, pos, negsuc}
use Rattle.refusal.specs.Checks.{first_number, unless}
use Rattle.std.specs.Prelude.{Ok}
use Rattle.refusal.specs.Answers.{Answer, refuse}
use Rattle.morton.specs.declared.bounds.Point.{Point}
use Rattle.morton.specs.declared.grid.Volume.{Volume}
use Rattle.morton.specs.grid.Grid.{grid_size, grid_of, has_zero, zero_extent, in_grid}
use Rattle.morton.specs.axis.Axis.{bit_of, used, count}
use Rattle.morton.specs.Key.{step, steps, key_bits_of, too_many_bits, into, step_back, steps_back, cell_of, is_key}
use Rattle.morton.specs.bounds.Bounds.{cell_begin, cell_end, begin_point, end_point}
use Rattle.morton.proofs.Cases.{plain, shifted}
use Rattle.cover.specs.overlap.Cover.{larger, smaller, shares, meets, covers, keep, passing, cover_keys, cover_checks, cover_answer, cover_left}

pub data Case : Type 0 where
  cover : Volume → Point → Point → List ℕ → Answer ℕ → List ℕ → Case

-- the case with the answer that the definitions give
abbrev pub given : Case → Case
given (cover v l u out a left) = cover v l u out (cover_answer v l u out) (cover_left v l u out)

abbrev pub point : ℤ → ℤ → ℤ → Point
point x y z = record { x = x; y = y; z = z }

-- an output of two, of five
abbrev pub two : List ℕ
two = 9 ∷ 9 ∷ []

abbrev pub five : List ℕ
five = 9 ∷ 9 ∷ 9 ∷ 9 ∷ 9 ∷ []

-- the shifted volume along x alone: its cells span -64 to 0 and 0 to 36
abbrev pub along : ℤ → ℤ → List ℕ → Answer ℕ → List ℕ → Case
along l u out a left = cover shifted (point l (pos 0) (pos 0)) (point u (pos 1) (pos 1)) out a left

abbrev pub table : List Case
table =
    cover (plain 5 3 1) (point (pos 1) (pos 0) (pos 0)) (point (pos 3) (pos 2) (pos 1)) five (Ok 4) (1 ∷ 3 ∷ 4 ∷ 6 ∷ 9 ∷ [])
    ∷ cover (plain 5 3 1) (point (pos 1) (pos 0) (pos 0)) (point (pos 3) (pos 2) (pos 1)) two (refuse 13) two
    ∷ cover (plain 5 3 1) (point (pos 4) (pos 2) (pos 0)) (point (pos 9) (pos 9) (pos 9)) two (Ok 1) (24 ∷ 9 ∷ [])
    ∷ cover (plain 1 1 1) (point (pos 0) (pos 0) (pos 0)) (point (pos 1) (pos 1) (pos 1)) (9 ∷ []) (Ok 1) (0 ∷ [])
    ∷ cover (plain 1 1 1) (point (pos 0) (pos 0) (pos 0)) (point (pos 1) (pos 1) (pos 1)) [] (refuse 13) []
    ∷ along (negsuc 0) (pos 1) two (Ok 2) (0 ∷ 1 ∷ [])
    ∷ along (negsuc 63) (negsuc 62) two (Ok 1) (0 ∷ 9 ∷ [])
    ∷ along (pos 35) (pos 99) two (Ok 1) (1 ∷ 9 ∷ [])
    ∷ along (pos 36) (pos 99) two (Ok 0) two
    ∷ along (negsuc 99) (negsuc 63) two (Ok 0) two
    ∷ along (pos 5) (pos 5) two (Ok 0) two
    ∷ along (pos 5) (negsuc 5) two (Ok 0) two
    ∷ along (negsuc 9223372036854775807) (pos 9223372036854775807) two (Ok 2) (0 ∷ 1 ∷ [])
    ∷ along (pos 9223372036854775807) (negsuc 9223372036854775807) [] (Ok 0) []
    ∷ cover (plain 0 3 1) (point (pos 5) (pos 5) (pos 5)) (point (pos 0) (pos 0) (pos 0)) two (refuse 2) two
    ∷ []

pub cases_hold : map given table ≡ table
unfolding first_number unless grid_size grid_of has_zero zero_extent in_grid bit_of used count step steps key_bits_of too_many_bits into step_back steps_back cell_of is_key cell_begin cell_end begin_point end_point larger smaller shares meets covers keep passing cover_keys cover_checks cover_answer cover_left
cases_hold = refl

-- 3 whatever the box and the output: there the keys need not be gone through
pub three : first_number (cover_checks (plain (2 ^ 22) (2 ^ 22) (2 ^ 21)) (point (pos 5) (pos 5) (pos 5)) (point (pos 0) (pos 0) (pos 0)) two) ≡ 3
unfolding first_number cover_checks grid_size grid_of has_zero zero_extent used step steps key_bits_of too_many_bits
three = refl
