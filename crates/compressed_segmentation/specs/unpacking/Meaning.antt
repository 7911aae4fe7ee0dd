-- What a reader believes of an unpacked chunk; `proofs/unpacking/Laws` ties it to the definitions of `Raw`.
use Rattle.std.specs.Prelude.{ℕ, ◌+◌, ◌*◌, ◌≡◌, false, List, ◌↔◌, Ok}
use Rattle.refusal.specs.Answers.{refuse}
use Rattle.endian.specs.Little.{le}
use Rattle.endian.specs.Place.{Holds}
use Rattle.compressed_segmentation.specs.declared.Shape.{Shape}
use Rattle.compressed_segmentation.specs.Layout.{no_voxels}
use Rattle.compressed_segmentation.specs.Labels.{label_answer}
use Rattle.compressed_segmentation.specs.block.Voxels.{Within}
use Rattle.compressed_segmentation.specs.raw_form.Raw.{label_bytes, unpack_answer, unpack_left}

-- "x fastest, then y, z, channel": how many labels stand before that of a voxel
abbrev pub before : Shape → ℕ → ℕ → ℕ → ℕ → ℕ
before sh x y z c = x + sh.extents.x * (y + sh.extents.y * (z + sh.extents.z * c))

-- "Unpacking equals asking for each voxel": where a chunk is unpacked, the output holds at each voxel's place the label that is answered for it,
-- for labels of either width (RULES E10)
pub record EqualsAsking (s : List ℕ) (sh : Shape) (out : List ℕ) : Type 0 where
  pub asked : (n : ℕ) → unpack_answer s sh out ≡ Ok n → (x y z c : ℕ) → Within sh x y z c
      → (v : ℕ) × (label_answer s sh x y z c ≡ Ok v) × Holds (unpack_left s sh out) (label_bytes sh * before sh x y z c) (le (label_bytes sh) v)

-- some voxel's label is refused with k
pub record SomeRefused (k : ℕ) (s : List ℕ) (sh : Shape) : Type 0 where
  pub x : ℕ
  pub y : ℕ
  pub z : ℕ
  pub c : ℕ
  pub within : Within sh x y z c
  pub refused : label_answer s sh x y z c ≡ refuse k

-- "it gives 29 if any voxel would, else 28 if any would" (RULES E9)
pub record RefusesByVoxels (s : List ℕ) (sh : Shape) (out : List ℕ) : Type 0 where
  pub refused_29 : no_voxels sh ≡ false → (unpack_answer s sh out ≡ refuse 29) ↔ SomeRefused 29 s sh
  pub refused_28 : no_voxels sh ≡ false → (unpack_answer s sh out ≡ refuse 28) ↔ (SomeRefused 28 s sh × (SomeRefused 29 s sh → ⊥))
