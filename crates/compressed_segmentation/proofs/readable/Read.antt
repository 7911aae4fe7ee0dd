-- What is read of a block is what its definitions say. Each law has the shape of a need.
use Prim.Native.Nat.{ℕ, ◌+◌, ◌*◌, ◌/◌, ◌%◌}
use mathlib.Core.Path.{◌≡◌}
use mathlib.Core.List.{List}
use Rattle.morton.specs.declared.grid.Extents.{Extents}
use Rattle.compressed_segmentation.specs.declared.Shape.{Shape}
use Rattle.compressed_segmentation.specs.Words.{word}
use Rattle.compressed_segmentation.specs.Layout.{across, down}
use Rattle.compressed_segmentation.specs.Labels.{label_words}
use Rattle.compressed_segmentation.specs.block.Checks.{span, inside_of, voxels_refusal, block_refusal}

module _ (sh : Shape) (n : ℕ) where
  pub inside-read : {a d x y z : ℕ} → x ≡ span sh.extents.x sh.block.x (n % a) → y ≡ span sh.extents.y sh.block.y (n / a % d)
      → z ≡ span sh.extents.z sh.block.z (n / a / d) → a ≡ across sh → d ≡ down sh → ◌≡◌ {A = Extents} (record { x = x; y = y; z = z }) (inside_of sh n)
  unfolding inside_of
  inside-read hx hy hz ha hd = cc

  pub block_read : (s : List ℕ) (o : ℕ) {f g r : ℕ} {i : Extents} → r ≡ voxels_refusal s (label_words sh.wide) o f g sh.block i
      → f ≡ word s (o + 2 * n) → g ≡ word s (o + 2 * n + 1) → i ≡ inside_of sh n → r ≡ block_refusal s sh o n
  unfolding block_refusal
  block_read s o h hf hg hi = cc
