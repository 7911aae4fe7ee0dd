-- Shapes that have voxels, and words that lie whole in a chunk.
use Prim.Native.Nat.{ℕ, ◌+◌, ◌*◌, ◌/◌, ◌<◌, ◌≤◌}
use mathlib.Core.Path.{◌≡◌}
use mathlib.Core.Bool.{Bool, true, false, ◌||◌}
use mathlib.Core.List.{List}
use native.Mathlib.Omega.{arith}
use lib.Dec.{eqb}
use lib.ListN.{length}
use borrow.Author.Tests.{eqb-false, le-leb, lt-leb}
use Rattle.refusal.proofs.Tests.{neither}
use Rattle.morton.specs.grid.Grid.{grid_size, has_zero}
use Rattle.morton.proofs.grid.Covers.{begins-inside-is-cell}
use Rattle.morton.proofs.grid.Ways.{no_zero}
use Rattle.compressed_segmentation.specs.declared.Shape.{Shape}
use Rattle.compressed_segmentation.specs.Words.{whole}
use Rattle.compressed_segmentation.specs.Layout.{no_voxels}

-- ---- shapes

pub none_is : (sh : Shape) {a b : Bool} → a ≡ has_zero sh.extents → b ≡ has_zero sh.block → a || (b || eqb sh.channels 0) ≡ no_voxels sh
unfolding no_voxels
none_is sh e f = rw (e, f)

pub record Positive (sh : Shape) : Type 0 where
  pub ex : 0 < sh.extents.x
  pub ey : 0 < sh.extents.y
  pub ez : 0 < sh.extents.z
  pub bx : 0 < sh.block.x
  pub by : 0 < sh.block.y
  pub bz : 0 < sh.block.z
  pub ch : 0 < sh.channels

pub some-voxels : (sh : Shape) → no_voxels sh ≡ false → Positive sh
unfolding no_voxels
some-voxels sh h =
    let p = neither _ _ h in
    let q = neither _ _ p.1 in
    let e = no_zero sh.extents p.0 in
    let b = no_zero sh.block q.0 in
    let n = eqb-false sh.channels 0 q.1 in
    record { ex = e.0; ey = e.1; ez = e.2; bx = b.0; by = b.1; bz = b.2; ch = omega arith }

module _ (sh : Shape) (h : no_voxels sh ≡ false) where
  pub block-x : 0 < sh.block.x
  block-x = (some-voxels sh h).bx

  pub block-y : 0 < sh.block.y
  block-y = (some-voxels sh h).by

  pub block-z : 0 < sh.block.z
  block-z = (some-voxels sh h).bz

  pub some_blocks : {g : ℕ} → g ≡ grid_size sh.extents.x sh.block.x → 0 < g
  some_blocks e =
      let p = some-voxels sh h in
      let l = begins-inside-is-cell sh.extents.x sh.block.x p.bx 0 (omega arith) in
      omega arith

  pub some-rows : {d : ℕ} → d ≡ grid_size sh.extents.y sh.block.y → 0 < d
  some-rows e =
      let p = some-voxels sh h in
      let l = begins-inside-is-cell sh.extents.y sh.block.y p.by 0 (omega arith) in
      omega arith

  pub channels_some : 0 < sh.channels
  channels_some = (some-voxels sh h).ch

-- what the code divides by
pub ruleset positive = (block-x, block-y, block-z, some_blocks, some-rows)

-- ---- words

pub whole-yes : (s : List ℕ) (i n : ℕ) → i + n ≤ length s / 4 → whole s i n ≡ true
unfolding whole
whole-yes s i n h = le-leb (4 * (i + n)) (length s) (omega arith)

pub whole-no : (s : List ℕ) (i n : ℕ) → length s / 4 < i + n → whole s i n ≡ false
unfolding whole
whole-no s i n h = lt-leb (4 * (i + n)) (length s) (omega arith)
