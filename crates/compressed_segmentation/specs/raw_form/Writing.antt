-- What the inner functions' contracts say: what is written run by run. A run is the part of a row of voxels that lies in one block.
use Rattle.std.specs.Prelude.{ℕ, ◌+◌, ◌*◌, ◌/◌, ◌%◌, ◌<◌, ◌≤◌, ◌≡◌, false, List, length}
use Rattle.endian.specs.Little.{le}
use Rattle.compressed_segmentation.specs.declared.Shape.{Shape}
use Rattle.compressed_segmentation.specs.Words.{word}
use Rattle.compressed_segmentation.specs.Layout.{no_voxels, across, down}
use Rattle.compressed_segmentation.specs.Steps.{value_answer}
use Rattle.compressed_segmentation.specs.block.Voxels.{refusal_in, AllReadable}
use Rattle.compressed_segmentation.specs.raw_form.Raw.{label_in, label_bytes, concat_to, raw_voxel}
use Rattle.compressed_segmentation.specs.block.Checks.{span}

-- voxel u of the run in row `high` of a block of `step` voxels across
unfoldable pub run_voxel : List ℕ → ℕ → ℕ → ℕ → ℕ → ℕ → ℕ → ℕ → List ℕ
run_voxel s e o first second step high u = le (4 * e) (label_in (value_answer s e o first second (u + step * high)))

-- each of its voxels has a label
pub record ReadableRun (s : List ℕ) (e o first second step high count : ℕ) : Type 0 where
  pub label : (u : ℕ) → u < count → refusal_in (value_answer s e o first second (u + step * high)) ≡ 0

-- the bytes of a row, a layer, a channel, all channels
abbrev pub row_bytes : Shape → ℕ
row_bytes sh = sh.extents.x * label_bytes sh

abbrev pub layer_bytes : Shape → ℕ
layer_bytes sh = sh.extents.y * row_bytes sh

abbrev pub channel_bytes : Shape → ℕ
channel_bytes sh = sh.extents.z * layer_bytes sh

abbrev pub all_bytes : Shape → ℕ
all_bytes sh = sh.channels * channel_bytes sh

-- the row of blocks in which the row (y, z) of voxels lies, and its number inside them
abbrev pub block_row : Shape → ℕ → ℕ → ℕ
block_row sh z y = y / sh.block.y + down sh * (z / sh.block.z)

abbrev pub place_row : Shape → ℕ → ℕ → ℕ
place_row sh z y = y % sh.block.y + sh.block.y * (z % sh.block.z)

-- a row of voxels of a chunk in which each has a label
pub record Row (s : List ℕ) (sh : Shape) (c z y : ℕ) : Type 0 where
  pub some : no_voxels sh ≡ false
  pub all : AllReadable s sh
  pub in_y : y < sh.extents.y
  pub in_z : z < sh.extents.z
  pub in_c : c < sh.channels

-- the word at which the headers of its blocks begin
pub record HeadersAt (s : List ℕ) (sh : Shape) (c z y headers : ℕ) : Type 0 where
  pub place : headers ≡ word s c + 2 * (across sh * block_row sh z y)
  pub end : headers + 2 * across sh ≤ length s / 4

-- its part in block i
unfoldable pub raw_run : List ℕ → Shape → ℕ → ℕ → ℕ → ℕ → List ℕ
raw_run s sh c z y i = concat_to (λ u. raw_voxel s sh c z y (sh.block.x * i + u)) (span sh.extents.x sh.block.x i)

-- a layer and a channel of such a chunk
pub record Layer (s : List ℕ) (sh : Shape) (c z : ℕ) : Type 0 where
  pub some : no_voxels sh ≡ false
  pub all : AllReadable s sh
  pub in_z : z < sh.extents.z
  pub in_c : c < sh.channels

pub record Channel (s : List ℕ) (sh : Shape) (c : ℕ) : Type 0 where
  pub some : no_voxels sh ≡ false
  pub all : AllReadable s sh
  pub in_c : c < sh.channels
