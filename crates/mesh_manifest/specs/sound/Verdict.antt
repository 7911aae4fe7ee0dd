-- The judgement on a manifest: refusals 15, 16 and 17 (RULES M2 to M4).
use Rattle.std.specs.Prelude.{ℕ, ◌+◌, ◌-◌, ◌*◌, Bool, not, ◌&&◌, ◌||◌, List, [], ◌∷◌, length, leb, eqb, Ok, Err}
use Rattle.refusal.specs.Checks.{Check, check, first_number, answered}
use Rattle.refusal.specs.Result.{Result, success, refused}
use Rattle.endian.specs.Range.{every}
use Rattle.mesh_manifest.specs.layout.Layout.{manifest_item, levels_of, is_real_of, count_of, nodes_before, level_item, x_at, y_at, z_at}
use Rattle.mesh_manifest.specs.layout.Bits.{finite_bits, above_zero}
use Rattle.mesh_manifest.specs.zorder.Order.{z_before}
use Rattle.refusal.specs.Table.{number_of}
use Rattle.refusal.specs.Answers.{Answer, refuse}

abbrev pub most_bytes : ℕ
most_bytes = 16777216

abbrev pub most_levels : ℕ
most_levels = 32

-- not 15: "Length is 28 + 20 × levels + 16 × nodes, exactly", at most 32 levels and 16,777,216 bytes (RULES M2)
unfoldable pub right_length : List ℕ → Bool
right_length s =
    leb (length s) most_bytes
    && (leb (levels_of s) most_levels && eqb (length s) (28 + 20 * levels_of s + 16 * nodes_before s (levels_of s)))

-- not 16: each real is finite, and the chunk shape is above zero
unfoldable pub real_fits : List ℕ → ℕ → Bool
real_fits s i = not (is_real_of (levels_of s) i) || finite_bits (manifest_item s i)

-- RULES M3
unfoldable pub reals_fit : List ℕ → Bool
reals_fit s =
    every (real_fits s) (7 + 4 * levels_of s)
    && (above_zero (manifest_item s 0) && (above_zero (manifest_item s 1) && above_zero (manifest_item s 2)))

-- of a level with n nodes whose items begin at `first`: node i stands before the next
unfoldable pub in_order_of : List ℕ → ℕ → ℕ → ℕ → Bool
in_order_of s first n i =
    z_before
    (x_at s first n i) (y_at s first n i) (z_at s first n i)
    (x_at s first n (i + 1)) (y_at s first n (i + 1)) (z_at s first n (i + 1))

unfoldable pub level_rises : List ℕ → ℕ → ℕ → Bool
level_rises s first n = every (in_order_of s first n) (n - 1)

unfoldable pub rise_at : List ℕ → ℕ → Bool
rise_at s l = level_rises s (level_item s l) (count_of s l)

-- not 17: each level's nodes are in strictly rising order (RULES M4)
unfoldable pub nodes_rise : List ℕ → Bool
nodes_rise s = every (rise_at s) (levels_of s)

-- the order of refusals
unfoldable pub manifest_checks : List ℕ → List Check
manifest_checks s = check 15 (not (right_length s)) ∷ check 16 (not (reals_fit s)) ∷ check 17 (not (nodes_rise s)) ∷ []

-- the first refusal that holds, or 0
unfoldable pub manifest_verdict : List ℕ → ℕ
manifest_verdict s = first_number (manifest_checks s)

unfoldable pub manifest_answer : List ℕ → Answer (Unit {0})
manifest_answer s = answered refuse (manifest_checks s) (Ok tt)

abbrev pub manifest_result : Answer (Unit {0}) → Result (Unit {0})
manifest_result (Ok v) = success v
manifest_result (Err k) = refused (number_of k)
