-- The label of a voxel (RULES E2, E4 to E7): what is read for it, what refuses it, and the answer. Every sum is exact.
use Rattle.std.specs.Prelude.{ℕ, ◌+◌, ◌*◌, ◌/◌, ◌%◌, ◌^◌, Bool, not, ◌&&◌, ◌||◌, List, [], ◌∷◌, eqb, Ok, Err}
use Rattle.refusal.specs.Choice.{pick}
use Rattle.refusal.specs.Checks.{Check, check, answered}
use Rattle.refusal.specs.Result.{Result, success, refused}
use Rattle.endian.specs.Little.{le_at}
use Rattle.compressed_segmentation.specs.declared.Shape.{Shape}
use Rattle.refusal.specs.Answers.{Answer, refuse}
use Rattle.refusal.specs.Table.{number_of}
use Rattle.compressed_segmentation.specs.Words.{word, whole}
use Rattle.compressed_segmentation.specs.Layout.{no_voxels, outside_shape, block_number, place_number, table_in, width_in, is_width}

-- "one word for 32-bit labels, two (low word first) for 64-bit labels" (RULES E6)
abbrev pub label_words : Bool → ℕ
label_words wide = pick wide 2 1

-- the value of the voxel number m in packed word a: "the `width` bits of the packed values from bit m × width on" (RULES E5)
unfoldable pub value_in : List ℕ → ℕ → ℕ → ℕ → ℕ
value_in s a width m = word s a / 2 ^ (m * width % 32) % 2 ^ width

-- ---- the voxel number m of block n of channel c, in a chunk s whose labels take e words
module _ (s : List ℕ) (e c n m : ℕ) where
  -- channel c begins at word `word s c`; "header n is words 2n and 2n + 1 counted from the channel's beginning" (RULES E2, E4)
  abbrev pub header_at : ℕ
  header_at = word s c + 2 * n

  abbrev pub width : ℕ
  width = width_in (word s header_at)

  -- the packed word: "bit b being bit b mod 32 of packed word b / 32" (RULES E5)
  abbrev pub packed_at : ℕ
  packed_at = word s c + word s (header_at + 1) + m * width / 32

  -- "At width 0 there are no packed words and the value is 0." (RULES E5)
  abbrev pub value : ℕ
  value = pick (eqb width 0) 0 (value_in s packed_at width m)

  -- "The label is entry `value` of the block's table." (RULES E6)
  abbrev pub entry_at : ℕ
  entry_at = word s c + table_in (word s header_at) + e * value

  -- RULES E6
  unfoldable pub label_at : ℕ
  label_at = le_at (4 * e) s (4 * entry_at)

  -- refusal 29: "another width in a whole header" (RULES E7)
  unfoldable pub other_width : Bool
  other_width = whole s c 1 && (whole s header_at 2 && not (is_width width))

  -- refusal 28: "a channel offset, header, packed 32-bit word or table entry to be read is not whole in the chunk (width 0 reads no packed word)"
  -- (RULES E7)
  unfoldable pub cut_off : Bool
  cut_off = not (whole s c 1) || (not (whole s header_at 2) || ((not (eqb width 0) && not (whole s packed_at 1)) || not (whole s entry_at e)))

-- ---- the answer

-- "2 for a zero extent, block size or channel count, and for a voxel or channel outside; 2 first, 29 before 28"
unfoldable pub label_checks : List ℕ → Shape → ℕ → ℕ → ℕ → ℕ → List Check
label_checks s sh x y z c =
    check 2 (no_voxels sh || outside_shape sh x y z c)
    ∷ check 29 (other_width s (label_words sh.wide) c (block_number sh x y z) (place_number sh x y z))
    ∷ check 28 (cut_off s (label_words sh.wide) c (block_number sh x y z) (place_number sh x y z))
    ∷ []

unfoldable pub label_answer : List ℕ → Shape → ℕ → ℕ → ℕ → ℕ → Answer ℕ
label_answer s sh x y z c =
    answered refuse (label_checks s sh x y z c) (Ok (label_at s (label_words sh.wide) c (block_number sh x y z) (place_number sh x y z)))

abbrev pub label_result : Answer ℕ → Result ℕ
label_result (Ok label) = success label
label_result (Err k) = refused (number_of k)
