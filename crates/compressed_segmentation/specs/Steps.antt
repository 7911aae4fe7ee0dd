-- What the inner functions' contracts say: a label read step by step, from its table entry outward. `proofs/Stepwise` ties it to `Labels`.
use Rattle.std.specs.Prelude.{ℕ, ◌+◌, ◌*◌, ◌/◌, List, eqb, Ok}
use Rattle.refusal.specs.Choice.{pick}
use Rattle.endian.specs.Little.{le_at}
use Rattle.compressed_segmentation.specs.declared.Shape.{Shape}
use Rattle.refusal.specs.Answers.{Answer, refuse}
use Rattle.compressed_segmentation.specs.Words.{word, whole}
use Rattle.compressed_segmentation.specs.Layout.{block_number, place_number, table_in, width_in, is_width}
use Rattle.compressed_segmentation.specs.Labels.{label_words, value_in}

-- entry v of the table at word t, of e words
unfoldable pub entry_answer : List ℕ → ℕ → ℕ → ℕ → Answer ℕ
entry_answer s e t v = pick (whole s (t + e * v) e) (Ok (le_at (4 * e) s (4 * (t + e * v)))) (refuse 28)

-- the voxel number m of a block with this header, in a channel at word o
unfoldable pub value_answer : List ℕ → ℕ → ℕ → ℕ → ℕ → ℕ → Answer ℕ
value_answer s e o first second m =
    pick (eqb (width_in first) 0) (entry_answer s e (o + table_in first) 0)
    (pick (whole s (o + second + m * width_in first / 32) 1)
    (entry_answer s e (o + table_in first) (value_in s (o + second + m * width_in first / 32) (width_in first) m))
    (refuse 28))

-- of block n
unfoldable pub block_answer : List ℕ → ℕ → ℕ → ℕ → ℕ → Answer ℕ
block_answer s e o n m =
    pick (whole s (o + 2 * n) 2)
    (pick (is_width (width_in (word s (o + 2 * n)))) (value_answer s e o (word s (o + 2 * n)) (word s (o + 2 * n + 1)) m) (refuse 29))
    (refuse 28)

-- of channel c
unfoldable pub channel_answer : List ℕ → ℕ → ℕ → ℕ → ℕ → Answer ℕ
channel_answer s e c n m = pick (whole s c 1) (block_answer s e (word s c) n m) (refuse 28)

-- of a voxel inside the extents
unfoldable pub voxel_answer : List ℕ → Shape → ℕ → ℕ → ℕ → ℕ → Answer ℕ
voxel_answer s sh x y z c = channel_answer s (label_words sh.wide) c (block_number sh x y z) (place_number sh x y z)
