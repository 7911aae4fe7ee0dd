-- What order 14 promises (RULES E10): the labels inside a chunk, in the compressed segmentation encoding.
use Rattle.std.specs.Prelude.{ℕ, zero, suc, ◌^◌, ◌≤◌, ◌<◌, ◌≡◌, false, List, [], ◌∷◌, length, drop, Ok}
use Rattle.refusal.specs.Answers.{refuse}
use Rattle.morton.specs.declared.grid.Extents.{Extents}
use Rattle.compressed_segmentation.specs.declared.Shape.{Shape}
use Rattle.compressed_segmentation.specs.raw_form.Raw.{unpack_answer, unpack_left, length_answer}
use Rattle.compressed_segmentation.specs.unpacking.Meaning.{EqualsAsking, RefusesByVoxels}

-- ---- the chunk that the format's description works by hand

-- "one channel, extents 2,2,2, block 2,2,2, 32-bit"
abbrev pub cube : Extents
cube = record { x = 2; y = 2; z = 2 }

abbrev pub worked_shape : Shape
worked_shape = record { extents = cube; block = cube; channels = 1; wide = false }

-- "words 1 | 0x01000003, 2 | 0xA5 | 7, 9"
abbrev pub worked_chunk : List ℕ
worked_chunk = 1 ∷ 0 ∷ 0 ∷ 0 ∷ 3 ∷ 0 ∷ 0 ∷ 1 ∷ 2 ∷ 0 ∷ 0 ∷ 0 ∷ 165 ∷ 0 ∷ 0 ∷ 0 ∷ 7 ∷ 0 ∷ 0 ∷ 0 ∷ 9 ∷ 0 ∷ 0 ∷ 0 ∷ []

abbrev pub zeros : ℕ → List ℕ → List ℕ
zeros zero rest = rest
zeros (suc n) rest = 0 ∷ zeros n rest

-- a label of 32 bits in the raw form, before the others
abbrev pub label32 : ℕ → List ℕ → List ℕ
label32 v rest = v ∷ 0 ∷ 0 ∷ 0 ∷ rest

-- "labels of voxels 0 to 7 (x fastest) are 9 7 9 7 7 9 7 9"
abbrev pub worked_raw : List ℕ → List ℕ
worked_raw rest = label32 9 (label32 7 (label32 9 (label32 7 (label32 7 (label32 9 (label32 7 (label32 9 rest)))))))

-- Order 14: "Given extents, block size, channel count and 32- or 64-bit labels, return the label of any voxel, or unpack a whole chunk to the raw form
-- of source document 000." (RULES E10)
pub record Order14 : Type 0 where
  -- "Unpacking equals asking for each voxel, proved once over the label width": of every shape, whose labels have either width;
  pub asking : (s : List ℕ) (sh : Shape) (out : List ℕ) → EqualsAsking s sh out
  -- "it gives 29 if any voxel would, else 28 if any would."
  pub voxels : (s : List ℕ) (sh : Shape) (out : List ℕ) → RefusesByVoxels s sh out
  -- The order of each call's refusals, and that a refused unpacking leaves the output as it was, is in Demand1; otherwise it is as it was past the length
  -- that is answered.
  pub past : (s : List ℕ) (sh : Shape) (out : List ℕ) (n : ℕ) → unpack_answer s sh out ≡ Ok n → drop n (unpack_left s sh out) ≡ drop n out
  -- That length is told by the shape alone, of every output whose own length is a number of 64 bits; and with that room none is refused with 13.
  pub told : (s : List ℕ) (sh : Shape) (out : List ℕ) (n : ℕ) → length out < 2 ^ 64 → unpack_answer s sh out ≡ Ok n → length_answer sh ≡ Ok n
  pub room : (s : List ℕ) (sh : Shape) (out : List ℕ) (n : ℕ) → length_answer sh ≡ Ok n → n ≤ length out → unpack_answer s sh out ≡ refuse 13 → ⊥
  -- The chunk that is worked by hand, unpacked into an output with a byte more than it needs.
  pub worked : (unpack_answer worked_chunk worked_shape (zeros 32 (5 ∷ [])) ≡ Ok 32) × (unpack_left worked_chunk worked_shape (zeros 32 (5 ∷ [])) ≡ worked_raw (5 ∷ []))
