-- How a block lies in the extents: its coordinates from its number, and its voxels.
use Prim.Native.Nat.{ℕ, ◌+◌, ◌*◌, ◌/◌, ◌%◌, ◌<◌, ◌≤◌}
use mathlib.Core.Path.{◌≡◌, ap, ◌∙◌}
use mathlib.Core.Bool.{false}
use native.Mathlib.Omega.{arith}
use native.Mathlib.Nat.{mul_comm, mul-le-mul_left, mod-lt, mod-eq_of_lt, div-eq_of_lt, div-add-mod, div-lt_iff_lt-mul, add-mul-div_left, add-mul-mod_self_left, mul-add, mul-one}
use mir.Syntax.{w32}
use mir.Val.{Fits}
use Rattle.morton.specs.grid.Grid.{grid_size}
use Rattle.morton.proofs.grid.Covers.{grid-size-small, cell-begins-inside, begins-inside-is-cell}
use Rattle.morton.specs.declared.grid.Extents.{Extents}
use Rattle.compressed_segmentation.specs.declared.Shape.{Shape}
use Rattle.compressed_segmentation.specs.Layout.{no_voxels, across, down, deep}
use Rattle.compressed_segmentation.specs.block.Checks.{span, inside_of, block_count}
use Rattle.compressed_segmentation.proofs.Shapes.{some-voxels}

-- ---- the code's numbers

pub rest_of_fits : (n g : ℕ) → 0 < g → Fits w32 g → Fits w32 (n % g)
rest_of_fits n g h f = omega (arith, mod-lt n h)

module _ (sh : Shape) (h : no_voxels sh ≡ false) where
  -- the layer of a block's number
  layer_below : (n : ℕ) → n < block_count sh → 0 < across sh → 0 < down sh → n / across sh / down sh < deep sh
  unfolding block_count
  layer_below n l a d =
      (div-lt_iff_lt-mul d).1
      (let k : n / across sh < down sh * deep sh = (div-lt_iff_lt-mul a).1 (omega (arith, mul_comm (across sh) (down sh * deep sh))) in
      omega (arith, mul_comm (down sh) (deep sh)))

  pub layer_fits : (n : ℕ) {g d : ℕ} → n < block_count sh → g ≡ across sh → d ≡ down sh → 0 < g → 0 < d → Fits w32 sh.extents.z → Fits w32 (n / g / d)
  layer_fits n {g} {d} l ge de a b f =
      let k = layer_below n l (omega arith) (omega arith) in
      let m = grid-size-small sh.extents.z sh.block.z (some-voxels sh h).bz in
      let q : n / g / d ≡ n / across sh / down sh = ap (λ (x : ℕ). n / x / d) ge ∙ ap (λ (x : ℕ). n / across sh / x) de in
      omega arith

-- ---- one axis

module _ (extent block : ℕ) (some : 0 < block) where
  pub span-some : (g : ℕ) → g < grid_size extent block → 0 < span extent block g
  unfolding span
  span-some g h = let l = cell-begins-inside extent block some g h in omega (arith, mul_comm block g)

  module _ (g u : ℕ) (h : u < span extent block g) where
    pub voxel_in : block * g + u < extent
    unfolding span
    voxel_in = omega arith

    small : u < block
    unfolding span
    small = omega arith

    pub voxel-block : (block * g + u) / block ≡ g
    voxel-block =
        let e : block * g + u ≡ u + block * g = omega arith in
        ap (λ (x : ℕ). x / block) e ∙ add-mul-div_left u g some ∙ omega (arith, div-eq_of_lt small)

    pub voxel-place : (block * g + u) % block ≡ u
    voxel-place =
        let e : block * g + u ≡ u + block * g = omega arith in
        ap (λ (x : ℕ). x % block) e ∙ add-mul-mod_self_left u block g ∙ mod-eq_of_lt small

  module _ (x : ℕ) (h : x < extent) where
    pub block_in : x / block < grid_size extent block
    block_in = begins-inside-is-cell extent block some (x / block) (omega (arith, div-add-mod x block, mul_comm block (x / block)))

    pub place_in : x % block < span extent block (x / block)
    unfolding span
    place_in = omega (arith, div-add-mod x block, mod-lt x some)

-- ---- three axes

module _ (a d p i j k : ℕ) (ih : i < a) (jh : j < d) where
  pub number-below : k < p → i + a * (j + d * k) < a * (d * p)
  number-below h =
      let t : j + d * k + 1 ≤ d * p = omega (arith, mul-le-mul_left {m = k + 1} {n = p} d (omega arith), mul-add d k 1, mul-one d) in
      omega (arith, mul-le-mul_left {m = j + d * k + 1} {n = d * p} a t, mul-add a (j + d * k) 1, mul-one a)

  pub number-row : (i + a * (j + d * k)) / a ≡ j + d * k
  number-row = let z = div-eq_of_lt ih in add-mul-div_left i (j + d * k) {y = a} (omega arith) ∙ omega arith

  pub number_column : (i + a * (j + d * k)) % a ≡ i
  number_column = add-mul-mod_self_left i a (j + d * k) ∙ mod-eq_of_lt ih

  pub number_layer : (i + a * (j + d * k)) / a / d ≡ k
  number_layer = let z = div-eq_of_lt jh in ap (λ (x : ℕ). x / d) number-row ∙ add-mul-div_left j k {y = d} (omega arith) ∙ omega arith

  pub number_line : (i + a * (j + d * k)) / a % d ≡ j
  number_line = ap (λ (x : ℕ). x % d) number-row ∙ add-mul-mod_self_left j d k ∙ mod-eq_of_lt jh

pub number-again : (a d n : ℕ) → n % a + a * (n / a % d + d * (n / a / d)) ≡ n
number-again a d n =
    let e : n / a % d + d * (n / a / d) ≡ n / a = omega (arith, div-add-mod (n / a) d) in
    ap (λ (x : ℕ). n % a + a * x) e ∙ omega (arith, div-add-mod n a)

-- ---- the voxels of block n

module _ (sh : Shape) (h : no_voxels sh ≡ false) where
  pub across-some : 0 < across sh
  across-some =
      let p = some-voxels sh h in
      begins-inside-is-cell sh.extents.x sh.block.x p.bx 0 (omega arith)

  pub down-some : 0 < down sh
  down-some =
      let p = some-voxels sh h in
      begins-inside-is-cell sh.extents.y sh.block.y p.by 0 (omega arith)

  module _ (n : ℕ) (l : n < block_count sh) where
    pub inside-x : 0 < (inside_of sh n).x
    unfolding inside_of
    inside-x = span-some sh.extents.x sh.block.x (some-voxels sh h).bx _ (mod-lt n across-some)

    pub inside-y : 0 < (inside_of sh n).y
    unfolding inside_of
    inside-y = span-some sh.extents.y sh.block.y (some-voxels sh h).by _ (mod-lt (n / across sh) down-some)

    pub inside-z : 0 < (inside_of sh n).z
    unfolding inside_of
    inside-z = span-some sh.extents.z sh.block.z (some-voxels sh h).bz _ (layer_below sh h n l across-some down-some)

    module _ {e : Extents} (q : e ≡ inside_of sh n) where
      pub inside-x-at : 0 < e.x
      inside-x-at = rw q inside-x

      pub inside-y-at : 0 < e.y
      inside-y-at = rw q inside-y

      pub inside-z-at : 0 < e.z
      inside-z-at = rw q inside-z
