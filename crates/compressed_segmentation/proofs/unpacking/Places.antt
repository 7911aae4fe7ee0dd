-- The raw form holds, at each voxel's place, what asking for the voxel gives: said once for labels of either width.
use Prim.Native.Nat.{ℕ, ◌+◌, ◌-◌, ◌*◌, ◌<◌}
use mathlib.Core.Path.{◌≡◌, sym, ap, ◌∙◌}
use mathlib.Core.List.{List, ◌++◌}
use native.Mathlib.Omega.{arith}
use native.Mathlib.Nat.{add-zero, add-mul, mul_assoc, mul_comm}
use lib.ListN.{length}
use Rattle.endian.specs.Little.{le}
use Rattle.endian.specs.Place.{Holds}
use Rattle.endian.proofs.Holds.{holds-left, holds_right, holds_move}
use Rattle.compressed_segmentation.specs.declared.Shape.{Shape}
use Rattle.compressed_segmentation.specs.Labels.{label_answer}
use Rattle.compressed_segmentation.specs.block.Voxels.{Within}
use Rattle.compressed_segmentation.specs.raw_form.Raw.{concat_to, label_in, label_bytes, raw_voxel, raw_row, raw_layer, raw_channel, raw_form}
use Rattle.compressed_segmentation.specs.unpacking.Meaning.{before}
use Rattle.compressed_segmentation.specs.raw_form.Writing.{row_bytes, layer_bytes, channel_bytes}
use Rattle.compressed_segmentation.proofs.raw_form.Filled.{length_joined, joined_add}
use Rattle.compressed_segmentation.proofs.raw_form.Wholes.{voxel-length, row-length, layer_length, channel-length}

joined_parts : (f : ℕ → List ℕ) (n i : ℕ) → i < n → concat_to f n ≡ concat_to f i ++ (f i ++ concat_to (λ u. f (i + (1 + u))) (n - (i + 1)))
unfolding concat_to
joined_parts f n i h =
    let e : n ≡ i + (1 + (n - (i + 1))) = omega arith in
    ap (concat_to f) e ∙ joined_add f i (1 + (n - (i + 1)))
    ∙ ap (λ (l : List ℕ). concat_to f i ++ l) (joined_add (λ u. f (i + u)) 1 (n - (i + 1)) ∙ ap (λ (x : ℕ). f x ++ concat_to (λ u. f (i + (1 + u))) (n - (i + 1))) (add-zero i))

-- piece i of n pieces of length k
joined_holds : (f : ℕ → List ℕ) (k : ℕ) → ((i : ℕ) → length (f i) ≡ k) → {d : List ℕ} {p : ℕ} (n i : ℕ) → i < n → Holds d p (concat_to f n) → Holds d (p + i * k) (f i)
joined_holds f k e {d} {p} n i h r =
    let q = joined_parts f n i h in
    let b : Holds d p (concat_to f i ++ (f i ++ concat_to (λ u. f (i + (1 + u))) (n - (i + 1)))) = rw q at r in
    let l = length_joined f k e i in
    holds_move (holds-left (concat_to (λ u. f (i + (1 + u))) (n - (i + 1))) (holds_right (concat_to f i) b)) (ap (◌+◌ p) l)

module _ (s : List ℕ) (sh : Shape) {d : List ℕ} (r : Holds d 0 (raw_form s sh)) (x y z c : ℕ) (w : Within sh x y z c) where
  in_channel : Holds d (0 + c * channel_bytes sh) (raw_channel s sh c)
  unfolding raw_form
  in_channel = joined_holds (raw_channel s sh) (channel_bytes sh) (channel-length s sh) sh.channels c w.in_c r

  in_layer : Holds d (0 + c * channel_bytes sh + z * layer_bytes sh) (raw_layer s sh c z)
  unfolding raw_channel
  in_layer = joined_holds (raw_layer s sh c) (layer_bytes sh) (layer_length s sh c) sh.extents.z z w.in_z in_channel

  in_row : Holds d (0 + c * channel_bytes sh + z * layer_bytes sh + y * row_bytes sh) (raw_row s sh c z y)
  unfolding raw_layer
  in_row = joined_holds (raw_row s sh c z) (row_bytes sh) (row-length s sh c z) sh.extents.y y w.in_y in_layer

  -- an axis folded into the number of labels before
  fold : (k a n b : ℕ) → b * (n * k) + a * k ≡ (a + n * b) * k
  fold k a n b = let e : b * (n * k) ≡ n * b * k = sym (mul_assoc b n k) ∙ ap (λ (q : ℕ). q * k) (mul_comm b n) in omega (arith, add-mul a (n * b) k)

  place_is : 0 + c * channel_bytes sh + z * layer_bytes sh + y * row_bytes sh + x * label_bytes sh ≡ label_bytes sh * before sh x y z c
  place_is =
      let q = z + sh.extents.z * c in
      let p = y + sh.extents.y * q in
      let a = fold (layer_bytes sh) z sh.extents.z c in
      let b = fold (row_bytes sh) y sh.extents.y q in
      let e = fold (label_bytes sh) x sh.extents.x p in
      let f = mul_comm (before sh x y z c) (label_bytes sh) in
      omega arith

  pub label-place : Holds d (label_bytes sh * before sh x y z c) (le (label_bytes sh) (label_in (label_answer s sh x y z c)))
  unfolding raw_row raw_voxel
  label-place = holds_move (joined_holds (raw_voxel s sh c z y) (label_bytes sh) (voxel-length s sh c z y) sh.extents.x x w.in_x in_row) place_is
