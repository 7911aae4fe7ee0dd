-- Layers, channels and the whole: lengths, rooms, and what is answered.
use Prim.Native.Nat.{ℕ, ◌+◌, ◌*◌, ◌/◌, ◌<◌, ◌≤◌}
use mathlib.Core.Path.{◌≡◌, sym, ap, ◌∙◌}
use mathlib.Core.Bool.{false}
use mathlib.Core.List.{List}
use mathlib.Core.Logic.{⊎_elim}
use native.Mathlib.Omega.{arith}
use native.Mathlib.Nat.{mul_comm, mul_assoc, mul-pos, le-div_iff_mul-le}
use lib.Dec.{leb}
use lib.ListN.{length}
use borrow.Author.Tests.{le-leb, lt-leb}
use Rattle.endian.specs.Place.{paste}
use Rattle.endian.proofs.Little.{length-le}
use Rattle.compressed_segmentation.specs.declared.Shape.{Shape}
use Rattle.compressed_segmentation.specs.Layout.{no_voxels}
use Rattle.compressed_segmentation.specs.raw_form.Raw.{label_bytes, raw_voxel, raw_row, raw_layer, raw_channel, raw_form}
use Rattle.compressed_segmentation.specs.raw_form.Writing.{row_bytes, layer_bytes, channel_bytes, all_bytes}
use Rattle.compressed_segmentation.proofs.Shapes.{some-voxels}
use Rattle.compressed_segmentation.proofs.block.Greatest.{within-or-past}
use Rattle.compressed_segmentation.proofs.raw_form.Filled.{Filled, filled_end, length_joined}

-- ---- lengths

module _ (s : List ℕ) (sh : Shape) where
  pub voxel-length : (c z y x : ℕ) → length (raw_voxel s sh c z y x) ≡ label_bytes sh
  unfolding raw_voxel
  voxel-length c z y x = length-le (label_bytes sh) _

  pub row-length : (c z y : ℕ) → length (raw_row s sh c z y) ≡ row_bytes sh
  unfolding raw_row
  row-length c z y = length_joined _ (label_bytes sh) (voxel-length c z y) sh.extents.x

  pub layer_length : (c z : ℕ) → length (raw_layer s sh c z) ≡ layer_bytes sh
  unfolding raw_layer
  layer_length c z = length_joined _ (row_bytes sh) (row-length c z) sh.extents.y

  pub channel-length : (c : ℕ) → length (raw_channel s sh c) ≡ channel_bytes sh
  unfolding raw_channel
  channel-length c = length_joined _ (layer_bytes sh) (layer_length c) sh.extents.z

  pub form-length : length (raw_form s sh) ≡ all_bytes sh
  unfolding raw_form
  form-length = length_joined _ (channel_bytes sh) channel-length sh.channels

  -- ---- loops

  module _ {at i p : ℕ} {d e : List ℕ} where
    pub layer_done : (c z : ℕ) → Filled (raw_row s sh c z) (row_bytes sh) sh.extents.y at d i p e → sh.extents.y ≤ i → e ≡ paste at (raw_layer s sh c z) d
    unfolding raw_layer
    layer_done c z f h = filled_end f h

    pub channel-done : (c : ℕ) → Filled (raw_layer s sh c) (layer_bytes sh) sh.extents.z at d i p e → sh.extents.z ≤ i → e ≡ paste at (raw_channel s sh c) d
    unfolding raw_channel
    channel-done c f h = filled_end f h

    pub form-done : Filled (raw_channel s sh) (channel_bytes sh) sh.channels at d i p e → sh.channels ≤ i → e ≡ paste at (raw_form s sh) d
    unfolding raw_form
    form-done f h = filled_end f h

-- ---- room

module _ (sh : Shape) (h : no_voxels sh ≡ false) where
  pub bytes_are : all_bytes sh ≡ sh.extents.z * sh.channels * (sh.extents.x * sh.extents.y) * label_bytes sh
  bytes_are =
      let x = sh.extents.x in
      let y = sh.extents.y in
      let z = sh.extents.z in
      let c = sh.channels in
      let l = label_bytes sh in
      let a : y * (x * l) ≡ x * y * l = sym (mul_assoc y x l) ∙ ap (λ (q : ℕ). q * l) (mul_comm y x) in
      let b : c * (z * (x * y * l)) ≡ z * c * (x * y) * l =
      sym (mul_assoc c z (x * y * l)) ∙ ap (λ (q : ℕ). q * (x * y * l)) (mul_comm c z) ∙ sym (mul_assoc (z * c) (x * y) l) in
      ap (λ (q : ℕ). c * (z * q)) a ∙ b

  pub layer_some : {a : ℕ} → a ≡ 0 + sh.extents.x * sh.extents.y → 0 < a
  layer_some e = let p = some-voxels sh h in omega (arith, mul-pos p.ex p.ey)

  pub room-is : (len : ℕ) {a b l : ℕ} → a ≡ 0 + sh.extents.x * sh.extents.y → b ≡ 0 + sh.extents.z * sh.channels → l ≡ label_bytes sh → 0 < l → leb b (len / l / a) ≡ leb (all_bytes sh) len
  room-is len {a} {b} {l} ae be le ls =
      let some = layer_some ae in
      let ae' : a ≡ sh.extents.x * sh.extents.y = omega arith in
      let be' : b ≡ sh.extents.z * sh.channels = omega arith in
      let e : b * a * l ≡ all_bytes sh = sym (bytes_are ∙ cc) in
      ⊎_elim
      (λ (k : b ≤ len / l / a).
      let m = (le-div_iff_mul-le some).0 k in
      let n = (le-div_iff_mul-le ls).0 m in
      le-leb _ _ k ∙ sym (le-leb (all_bytes sh) len (omega arith)))
      (λ (k : len / l / a < b).
      lt-leb _ _ k ∙ sym (lt-leb (all_bytes sh) len
      (⊎_elim
      (λ (n : all_bytes sh ≤ len).
      let m : b * a ≤ len / l = (le-div_iff_mul-le ls).1 (omega arith) in
      let q : b ≤ len / l / a = (le-div_iff_mul-le some).1 m in
      absurd (omega arith))
      (λ n. n)
      (within-or-past (all_bytes sh) len))))
      (within-or-past b (len / l / a))
