-- A whole chunk unpacked to the raw form of source 000: "labels little-endian, x fastest, then y, z, channel" (RULES E8).
use Rattle.std.specs.Prelude.{ℕ, zero, suc, ◌*◌, ◌^◌, List, [], ◌∷◌, ◌++◌, leb, length, Ok, Err}
use Rattle.refusal.specs.Checks.{Check, check, answered, left}
use Rattle.refusal.specs.Buffer.{room, over}
use Rattle.refusal.specs.Answers.{Answer, refuse}
use Rattle.endian.specs.Little.{le}
use Rattle.compressed_segmentation.specs.declared.Shape.{Shape}
use Rattle.compressed_segmentation.specs.Layout.{no_voxels}
use Rattle.compressed_segmentation.specs.Labels.{label_words, label_answer}
use Rattle.compressed_segmentation.specs.block.Voxels.{some_refused}

-- f 0, f 1, .., f (n - 1), one after the other
unfoldable pub concat_to : (ℕ → List ℕ) → ℕ → List ℕ
concat_to f zero = []
concat_to f (suc n) = concat_to f n ++ f n

-- an answer's label, 0 for a refusal
abbrev pub label_in : Answer ℕ → ℕ
label_in (Ok v) = v
label_in (Err k) = 0

abbrev pub label_bytes : Shape → ℕ
label_bytes sh = 4 * label_words sh.wide

-- ---- the raw form: what asking for a voxel gives, a row of voxels along x, a layer of rows, a channel of layers, all channels
unfoldable pub raw_voxel : List ℕ → Shape → ℕ → ℕ → ℕ → ℕ → List ℕ
raw_voxel s sh c z y x = le (label_bytes sh) (label_in (label_answer s sh x y z c))

unfoldable pub raw_row : List ℕ → Shape → ℕ → ℕ → ℕ → List ℕ
raw_row s sh c z y = concat_to (raw_voxel s sh c z y) sh.extents.x

unfoldable pub raw_layer : List ℕ → Shape → ℕ → ℕ → List ℕ
raw_layer s sh c z = concat_to (raw_row s sh c z) sh.extents.y

unfoldable pub raw_channel : List ℕ → Shape → ℕ → List ℕ
raw_channel s sh c = concat_to (raw_layer s sh c) sh.extents.z

-- RULES E8
unfoldable pub raw_form : List ℕ → Shape → List ℕ
raw_form s sh = concat_to (raw_channel s sh) sh.channels

-- ---- the answer, and what the output then holds

-- "it gives 29 if any voxel would, else 28 if any would"; "2 first, 29 before 28, then 13 for unpacking"
unfoldable pub unpack_checks : List ℕ → Shape → List ℕ → List Check
unpack_checks s sh out = check 2 (no_voxels sh) ∷ check 29 (some_refused 29 s sh) ∷ check 28 (some_refused 28 s sh) ∷ room (raw_form s sh) out ∷ []

-- the raw form's length (RULES E9)
unfoldable pub unpack_answer : List ℕ → Shape → List ℕ → Answer ℕ
unpack_answer s sh out = answered refuse (unpack_checks s sh out) (Ok (length (raw_form s sh)))

-- the raw form and, past it, what was there; refused, all that was there
unfoldable pub unpack_left : List ℕ → Shape → List ℕ → List ℕ
unpack_left s sh out = left (unpack_checks s sh out) (over (raw_form s sh) out) out

-- ---- the unpacked length, by the shape alone

-- as many labels as voxels and channels, each of so many bytes (RULES E11)
unfoldable pub unpacked_bytes : Shape → ℕ
unpacked_bytes sh = label_bytes sh * (sh.extents.x * (sh.extents.y * (sh.extents.z * sh.channels)))

-- 13: "the output is too short for the whole answer", here each output, whose length is a number of 64 bits
unfoldable pub unpacked_length_checks : Shape → List Check
unpacked_length_checks sh = check 2 (no_voxels sh) ∷ check 13 (leb (2 ^ 64) (unpacked_bytes sh)) ∷ []

-- RULES E11
unfoldable pub length_answer : Shape → Answer ℕ
length_answer sh = answered refuse (unpacked_length_checks sh) (Ok (unpacked_bytes sh))
