-- A mesh manifest as source 001 lists its parts ("Encoded manifest format"), one after the other (RULES M1, M6, M7). The definitions that the contracts
-- cite read a manifest by places; this one lays it out, and has no place in it.
use Rattle.std.specs.Prelude.{ℕ, ◌+◌, ◌^◌, ◌<◌, length, get_or, Ok}
use Rattle.refusal.specs.Answers.{Answer}
use mathlib.Core.List.{List, [], ◌∷◌, ◌++◌, map, flat_map}
use Rattle.std.specs.Float.{binary32}
use Rattle.std.specs.Float.Ieee.{of_bits}
use Rattle.endian.specs.Little.{row32}
use Rattle.mesh_manifest.specs.declared.Field.{Field}
use Rattle.mesh_manifest.specs.declared.Field.TheVariants.{Real, Whole}

-- an item of a manifest: "float32le", by the pattern of its bits, or "uint32le"
pub data Entry : Type 0 where
  float32 : ℕ → Entry
  uint32 : ℕ → Entry

-- the number that its four bytes are, and what it says
abbrev pub number_of : Entry → ℕ
number_of (float32 n) = n
number_of (uint32 n) = n

abbrev pub field_of : Entry → Field
field_of (float32 n) = Real (of_bits binary32 n)
field_of (uint32 n) = Whole n

-- as an answer
abbrev pub field_said : Entry → Answer Field
field_said e = Ok (field_of e)

-- x, y and z of a real
pub record Axes : Type 0 where
  pub x : ℕ
  pub y : ℕ
  pub z : ℕ

abbrev pub axes : Axes → List Entry
axes a = float32 a.x ∷ float32 a.y ∷ float32 a.z ∷ []

-- a fragment: the position of its node, and its size, which source 001 names fragment_offsets
pub record Fragment : Type 0 where
  pub x : ℕ
  pub y : ℕ
  pub z : ℕ
  pub size : ℕ

-- a level of detail
pub record Level : Type 0 where
  pub scale : ℕ
  pub offset : Axes
  pub fragments : List Fragment

pub record Manifest : Type 0 where
  pub shape : Axes
  pub origin : Axes
  pub levels : List Level

-- "fragment_positions: [..] C order [3, numFragments_per_lod[lod]] array", then "fragment_offsets"
unfoldable pub level_entries : Level → List Entry
level_entries l =
    map (λ f. uint32 f.x) l.fragments
    ++ (map (λ f. uint32 f.y) l.fragments ++ (map (λ f. uint32 f.z) l.fragments ++ map (λ f. uint32 f.size) l.fragments))

-- chunk_shape, grid_origin, num_lods, lod_scales, vertex_offsets, num_fragments_per_lod, and then "for each lod"
unfoldable pub entries_of : Manifest → List Entry
entries_of m =
    axes m.shape
    ++ (axes m.origin
    ++ (uint32 (length m.levels)
    ∷ (map (λ l. float32 l.scale) m.levels
    ++ (flat_map (λ l. axes l.offset) m.levels
    ++ (map (λ l. uint32 (length l.fragments)) m.levels
    ++ flat_map level_entries m.levels)))))

-- its bytes, four for each
unfoldable pub bytes_of : Manifest → List ℕ
bytes_of m = row32 (map number_of (entries_of m))

-- each of the numbers is a u32
pub record Fits (m : Manifest) : Type 0 where
  pub each : (i : ℕ) → get_or (map number_of (entries_of m)) i 0 < 2 ^ 32

-- how many bytes fragments have together
abbrev pub total : List ℕ → ℕ
total [] = 0
total (n ∷ ns) = n + total ns

abbrev pub sizes_of : List Fragment → ℕ
sizes_of fs = total (map (λ f. f.size) fs)
