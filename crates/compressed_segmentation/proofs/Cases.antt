-- Worked cases, as one table: what is asked, and the answer.
use Prim.Native.Nat.{ℕ, ◌+◌, ◌*◌}
use mathlib.Core.Path.{◌≡◌, refl}
use mathlib.Core.Bool.{Bool, true, false}
use mathlib.Core.List.{List, [], ◌∷◌, ◌++◌, map}
use Rattle.refusal.specs.Checks.{first_number, unless}
use Rattle.endian.specs.Little.{le, le_at}
use Rattle.morton.specs.declared.grid.Extents.{Extents}
use Rattle.morton.specs.grid.Grid.{grid_size, has_zero}
use Rattle.compressed_segmentation.specs.declared.Shape.{Shape}
use Rattle.std.specs.Prelude.{Ok}
use Rattle.refusal.specs.Answers.{Answer, refuse}
use Rattle.compressed_segmentation.specs.Words.{word, whole}
use Rattle.compressed_segmentation.specs.Layout.{no_voxels, outside_shape, block_number, place_number, is_width}
use Rattle.compressed_segmentation.specs.Labels.{value_in, label_at, other_width, cut_off, label_checks, label_answer}

pub data Case : Type 0 where
  label : List ℕ → Shape → ℕ → ℕ → ℕ → ℕ → Answer ℕ → Case

-- the case with the answer that the definitions give
abbrev pub given : Case → Case
given (label s sh x y z c a) = label s sh x y z c (label_answer s sh x y z c)

abbrev pub box : ℕ → ℕ → ℕ → Extents
box x y z = record { x = x; y = y; z = z }

abbrev pub shape : Extents → ℕ → Bool → Shape
shape extents channels wide = record { extents = extents; block = box 2 2 2; channels = channels; wide = wide }

-- worked by hand: one channel, extents 2, 2, 2, block 2, 2, 2, 32-bit labels
abbrev pub cube : Shape
cube = shape (box 2 2 2) 1 false

-- words 1 | 0x01000003, 2 | 0xA5 | 7, 9, with the header's width and the last byte left open
abbrev pub sample : ℕ → List ℕ → List ℕ
sample width last = 1 ∷ 0 ∷ 0 ∷ 0 ∷ 3 ∷ 0 ∷ 0 ∷ width ∷ 2 ∷ 0 ∷ 0 ∷ 0 ∷ 165 ∷ 0 ∷ 0 ∷ 0 ∷ 7 ∷ 0 ∷ 0 ∷ 0 ∷ 9 ∷ 0 ∷ 0 ∷ last

abbrev pub whole_sample : List ℕ
whole_sample = sample 1 (0 ∷ [])

abbrev pub cut_sample : List ℕ
cut_sample = sample 1 []

-- ---- a second chunk worked by hand, in words: two channels, block 2, 2, 1, 64-bit labels

abbrev pub flat : Extents → Shape
flat extents = record { extents = extents; block = box 2 2 1; channels = 2; wide = true }

-- extents 3, 3, 1: blocks 0 and 1 in the first row of blocks, 2 and 3 in the second; all but block 0 stick out
abbrev pub sheet : Shape
sheet = flat (box 3 3 1)

abbrev pub bytes : List ℕ → List ℕ
bytes [] = []
bytes (w ∷ ws) = le 4 w ++ bytes ws

-- a header's first word, and a packed word of two values of 16 bits
abbrev pub head : ℕ → ℕ → ℕ
head width table = table + 16777216 * width

abbrev pub two : ℕ → ℕ → ℕ
two low high = low + 65536 * high

abbrev pub sheet-chunk : List ℕ
sheet-chunk =
    bytes
    (2 ∷ 25
    -- the channel at word 2: headers of four blocks, packed words 8 to 12, tables at 13 and 19
    ∷ head 16 13 ∷ 8 ∷ head 16 19 ∷ 10 ∷ head 16 13 ∷ 12 ∷ head 16 19 ∷ 9
    ∷ two 2 0 ∷ two 1 2 ∷ two 1 65535 ∷ two 0 65535 ∷ two 0 1
    ∷ 11 ∷ 0 ∷ 12 ∷ 1 ∷ 13 ∷ 0
    ∷ 21 ∷ 0 ∷ 22 ∷ 3
    -- the channel at word 25: packed words 8 to 11, table at 12; block 2 has width 0 and the table's last entry as its first
    ∷ head 16 12 ∷ 8 ∷ head 16 12 ∷ 10 ∷ head 0 16 ∷ 0 ∷ head 16 12 ∷ 11
    ∷ two 0 1 ∷ two 2 0 ∷ two 2 65535 ∷ two 1 65535
    ∷ 31 ∷ 0 ∷ 32 ∷ 0 ∷ 0 ∷ 5
    ∷ [])

abbrev pub table : List Case
table =
    -- "labels of voxels 0 to 7 (x fastest) are 9 7 9 7 7 9 7 9"
    label whole_sample cube 0 0 0 0 (Ok 9)
    ∷ label whole_sample cube 1 0 0 0 (Ok 7)
    ∷ label whole_sample cube 0 1 0 0 (Ok 9)
    ∷ label whole_sample cube 1 1 0 0 (Ok 7)
    ∷ label whole_sample cube 0 0 1 0 (Ok 7)
    ∷ label whole_sample cube 1 0 1 0 (Ok 9)
    ∷ label whole_sample cube 0 1 1 0 (Ok 7)
    ∷ label whole_sample cube 1 1 1 0 (Ok 9)
    -- a block that sticks out keeps its full size in the numbering of its voxels
    ∷ label whole_sample (shape (box 1 2 2) 1 false) 0 1 0 0 (Ok 9)
    ∷ label whole_sample (shape (box 1 2 2) 1 false) 0 0 1 0 (Ok 7)
    -- the last byte cut off: a voxel is refused only if its entry needs it
    ∷ label cut_sample cube 0 0 0 0 (refuse 28)
    ∷ label cut_sample cube 1 0 0 0 (Ok 7)
    -- width 0 reads no packed word; width 3 is none
    ∷ label (sample 0 (0 ∷ [])) cube 1 1 1 0 (Ok 7)
    ∷ label (sample 3 (0 ∷ [])) cube 1 1 1 0 (refuse 29)
    ∷ label (sample 3 []) cube 0 0 0 0 (refuse 29)
    -- 64-bit labels take two words, low word first
    ∷ label (sample 0 (0 ∷ [])) (shape (box 2 2 2) 1 true) 0 0 0 0 (Ok 38654705671)
    ∷ label whole_sample (shape (box 2 2 2) 1 true) 0 0 0 0 (refuse 28)
    -- the second channel's header lies past the end; there is no third, and no voxel past the extents
    ∷ label whole_sample (shape (box 2 2 2) 2 false) 0 0 0 1 (refuse 28)
    ∷ label whole_sample (shape (box 2 2 2) 2 false) 0 0 0 2 (refuse 2)
    ∷ label whole_sample cube 2 0 0 0 (refuse 2)
    ∷ label whole_sample cube 0 0 2 0 (refuse 2)
    -- 2 before 28
    ∷ label [] (shape (box 2 2 2) 0 false) 0 0 0 0 (refuse 2)
    ∷ label [] (shape (box 2 0 2) 1 false) 0 0 0 0 (refuse 2)
    ∷ label [] cube 0 0 0 0 (refuse 28)
    -- the second chunk, row by row: 12 + 2^32, 22 + 3 × 2^32 and 5 × 2^32 have a high word
    ∷ label sheet-chunk sheet 0 0 0 0 (Ok 13)
    ∷ label sheet-chunk sheet 1 0 0 0 (Ok 11)
    ∷ label sheet-chunk sheet 2 0 0 0 (Ok 12884901910)
    ∷ label sheet-chunk sheet 0 1 0 0 (Ok 4294967308)
    ∷ label sheet-chunk sheet 1 1 0 0 (Ok 13)
    ∷ label sheet-chunk sheet 2 1 0 0 (Ok 21)
    ∷ label sheet-chunk sheet 0 2 0 0 (Ok 11)
    ∷ label sheet-chunk sheet 1 2 0 0 (Ok 4294967308)
    ∷ label sheet-chunk sheet 2 2 0 0 (Ok 12884901910)
    ∷ label sheet-chunk sheet 0 0 0 1 (Ok 31)
    ∷ label sheet-chunk sheet 1 0 0 1 (Ok 32)
    ∷ label sheet-chunk sheet 2 0 0 1 (Ok 21474836480)
    ∷ label sheet-chunk sheet 0 1 0 1 (Ok 21474836480)
    ∷ label sheet-chunk sheet 1 1 0 1 (Ok 31)
    ∷ label sheet-chunk sheet 2 1 0 1 (Ok 32)
    ∷ label sheet-chunk sheet 0 2 0 1 (Ok 21474836480)
    ∷ label sheet-chunk sheet 1 2 0 1 (Ok 21474836480)
    ∷ label sheet-chunk sheet 2 2 0 1 (Ok 32)
    -- one block along x and two along y, then two along z as well: the two counts are not alike
    ∷ label sheet-chunk (flat (box 2 3 1)) 0 2 0 0 (Ok 12884901910)
    ∷ label sheet-chunk (flat (box 2 3 2)) 0 0 1 0 (Ok 11)
    ∷ label sheet-chunk (flat (box 2 3 2)) 0 2 1 0 (Ok 12884901910)
    ∷ []

pub cases_hold : map given table ≡ table
unfolding first_number unless label_answer label_checks label_at other_width cut_off value_in no_voxels has_zero outside_shape block_number place_number grid_size is_width word whole le le_at
cases_hold = refl
