-- What the inner functions' contracts say: the refusal of a chunk as the greatest number of its headers, then of its blocks. 29 stands above 28, and 28 above 0.
use Rattle.std.specs.Prelude.{ℕ, zero, suc, ◌+◌, ◌-◌, ◌*◌, ◌/◌, ◌%◌, ◌<◌, min, max, ◌≡◌, Bool, true, ◌&&◌, List, eqb, ltb, length}
use Rattle.refusal.specs.Choice.{pick}
use Rattle.bitmap.specs.visited.Seen.{Seen}
use Rattle.morton.specs.declared.grid.Extents.{Extents}
use Rattle.compressed_segmentation.specs.declared.Shape.{Shape}
use Rattle.compressed_segmentation.specs.Words.{word, whole}
use Rattle.compressed_segmentation.specs.Layout.{across, down, deep, width_in, is_width}
use Rattle.compressed_segmentation.specs.Labels.{label_words}
use Rattle.compressed_segmentation.specs.Steps.{value_answer}
use Rattle.compressed_segmentation.specs.block.Voxels.{refusal_in}

-- the greatest of f 0, .., f (n - 1); 0 of none
unfoldable pub greatest : (ℕ → ℕ) → ℕ → ℕ
greatest f zero = 0
greatest f (suc n) = max (greatest f n) (f n)

-- how many blocks a channel has
unfoldable pub block_count : Shape → ℕ
block_count sh = across sh * (down sh * deep sh)

-- ---- by headers: 28 for one that is not whole, 29 for one without a width

unfoldable pub header_refusal : List ℕ → ℕ → ℕ → ℕ
header_refusal s o n = pick (whole s (o + 2 * n) 2) (pick (is_width (width_in (word s (o + 2 * n)))) 0 29) 28

unfoldable pub channel_headers : List ℕ → ℕ → ℕ → ℕ
channel_headers s g c = pick (whole s c 1) (greatest (header_refusal s (word s c)) g) 28

unfoldable pub headers_refusal : List ℕ → Shape → ℕ
headers_refusal s sh = greatest (channel_headers s (block_count sh)) sh.channels

-- ---- by voxels of blocks whose headers are whole and have a width

-- a header as it was read, with a width, in a channel at word o
pub record Header (o first second : ℕ) : Type 0 where
  pub start : o < 4294967296
  pub one : first < 4294967296
  pub two : second < 4294967296
  pub width : is_width (width_in first) ≡ true

-- how many voxels of block g along an axis lie inside the extent
unfoldable pub span : ℕ → ℕ → ℕ → ℕ
span extent block g = min block (extent - block * g)

-- how many entries of the table at word t are whole
abbrev pub whole_entries_of : List ℕ → ℕ → ℕ → ℕ
whole_entries_of s e t = (length s / 4 - t) / e

-- a run: voxels of a block one after another, from the number `from` on, whose packed words are whole
pub record Packed (s : List ℕ) (o first second from count : ℕ) : Type 0 where
  pub some : 0 < width_in first
  pub packed : (u : ℕ) → u < count → o + second + (u + from) * width_in first / 32 < length s / 4

-- the packed word of the last voxel inside is whole
pub record Reached (s : List ℕ) (o first second : ℕ) (b inside : Extents) : Type 0 where
  pub some : 0 < width_in first
  pub last : o + second + (inside.x - 1 + b.x * (inside.y - 1 + b.y * (inside.z - 1))) * width_in first / 32 < length s / 4

module _ (s : List ℕ) (e o first second : ℕ) where
  -- voxel u of a run
  unfoldable pub run_refusal : ℕ → ℕ → ℕ
  run_refusal from u = refusal_in (value_answer s e o first second (u + from))

  unfoldable pub place_refusal : Extents → ℕ → ℕ → ℕ → ℕ
  place_refusal b w v u = refusal_in (value_answer s e o first second (u + b.x * (v + b.y * w)))

  unfoldable pub row_refusal : Extents → Extents → ℕ → ℕ → ℕ
  row_refusal b inside w v = greatest (place_refusal b w v) inside.x

  unfoldable pub layer_refusal : Extents → Extents → ℕ → ℕ
  layer_refusal b inside w = greatest (row_refusal b inside w) inside.y

  unfoldable pub voxels_refusal : Extents → Extents → ℕ
  voxels_refusal b inside = greatest (layer_refusal b inside) inside.z

-- how much of block n lies inside the extents
unfoldable pub inside_of : Shape → ℕ → Extents
inside_of sh n =
    record {
      x = span sh.extents.x sh.block.x (n % across sh);
      y = span sh.extents.y sh.block.y (n / across sh % down sh);
      z = span sh.extents.z sh.block.z (n / across sh / down sh);
    }

unfoldable pub block_refusal : List ℕ → Shape → ℕ → ℕ → ℕ
block_refusal s sh o n = voxels_refusal s (label_words sh.wide) o (word s (o + 2 * n)) (word s (o + 2 * n + 1)) sh.block (inside_of sh n)

-- the header at word i has packed values, and its two words are those right before it
unfoldable pub repeats_header : List ℕ → ℕ → Bool
repeats_header s i = ltb 0 (width_in (word s i)) && (eqb (word s (i - 2)) (word s i) && eqb (word s (i - 1)) (word s (i + 1)))

unfoldable pub channel_refusal : List ℕ → Shape → ℕ → ℕ
channel_refusal s sh c = greatest (block_refusal s sh (word s c)) (block_count sh)

unfoldable pub blocks_refusal : List ℕ → Shape → ℕ
blocks_refusal s sh = greatest (channel_refusal s sh) sh.channels

-- ---- the map of places that a walk over the channels leaves, from one that notes none

-- one of the first n channels has its headers at word o
pub record ChannelAt (s : List ℕ) (n o : ℕ) : Type 0 where
  pub channel : ℕ
  pub below : channel < n
  pub here : o ≡ word s channel

-- it notes such places alone; and each of them that it reaches, where none of the n channels is refused
pub record Visits (s : List ℕ) (n refusal : ℕ) (map : List ℕ) : Type 0 where
  pub only : (o : ℕ) → Seen map o → ChannelAt s n o
  pub all : refusal ≡ 0 → (c : ℕ) → c < n → word s c < 64 * length map → Seen map (word s c)
