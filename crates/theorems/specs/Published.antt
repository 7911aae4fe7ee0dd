-- Demand 2's first sentence: "Keys, shard and minishard numbers, file names, byte ranges and manifest fields are those of the published format." Each field
-- says it of one thing, in the words of sources 000, 001 and 002, from another side than the definition that the contracts cite: the bits of a key are
-- told by their places, a place is put together, a name is read back, a manifest is laid out.
use Rattle.std.specs.Prelude.{ℕ, suc, ◌+◌, ◌*◌, ◌^◌, ◌≤◌, ◌<◌, ◌≡◌, true, false, ◌⊎◌, eqb, ℤ, pos, negsuc, Float, length, get_or, take, Ok}
use mathlib.Core.List.{List, ◌∷◌, ◌++◌, map, flat_map}
use Rattle.std.specs.Float.{fin, binary32}
use Rattle.std.specs.Float.Ieee.{add, mul, of_int, of_bits}
use Rattle.refusal.specs.Choice.{pick}
use Rattle.refusal.specs.Result.{success}
use Rattle.refusal.specs.Answers.{refuse}
use Rattle.morton.specs.declared.grid.Volume.{Volume}
use Rattle.endian.specs.Range.{sum_to}
use Rattle.morton.specs.declared.grid.Cell.{Cell}
use Rattle.morton.specs.declared.grid.Extents.{Extents}
use Rattle.morton.specs.grid.Grid.{grid_of}
use Rattle.morton.specs.axis.Axis.{bit_of, used, count}
use Rattle.morton.specs.Answers.{key_answer, key_result}
use Rattle.morton.specs.declared.bounds.Bounds.{Bounds}
use Rattle.morton.specs.bounds.Bounds.{bounds_of}
use Rattle.murmur3.specs.Murmur.{murmur_hash}
use Rattle.sharding.specs.declared.Sharding.{Sharding}
use Rattle.sharding.specs.Specification.{murmur, allowed, minishard_bits_of, shard_bits_of}
use Rattle.sharding.specs.placement.Place.{place_answer, place_result}
use Rattle.names.specs.digits.Digits.{value}
use Rattle.names.specs.chunks.Chunks.{chunk_name_answer, chunk_name_left}
use Rattle.names.specs.Shards.{suffix_of, file_name_answer, file_name_left}
use Rattle.names.specs.declared.FileKind.{FileKind}
use Rattle.shard.specs.File.{index_length_of}
use Rattle.lookup.specs.Find.{lookup_answer, part_bytes}
use Rattle.lookup.specs.fragments.Fragment.{fragment_answer}
use Rattle.split_shard.specs.Answers.{pair_lookup, pair_fragment, in_data}
use Rattle.mesh_manifest.specs.sound.Verdict.{manifest_answer}
use Rattle.mesh_manifest.specs.Fields.{header_answer, header_result, field_answer}
use Rattle.mesh_manifest.specs.nodes.Nodes.{node_answer, node_result}
use Rattle.mesh_manifest.specs.declared.corners.Corner.{Corner}
use Rattle.mesh_manifest.specs.declared.corners.Corners.{Corners}
use Rattle.mesh_manifest.specs.corners.Boxes.{corners_answer, corners_result}
use Rattle.theorems.specs.Manifests.{field_said, Fragment, Level, Manifest, entries_of, bytes_of, Fits, sizes_of}

-- ---- keys

-- how many output bits the turns before turn i give: "If 2**i < grid_size[dim]", an axis gives one
abbrev pub bits_before : Extents → ℕ → ℕ
bits_before g i = sum_to (λ k. count (used g.x k) + (count (used g.y k) + count (used g.z k))) i

-- bit i of each coordinate is the output bit that comes next in turn i, "for dim in 0, 1, 2 (corresponding to x, y, z)", and there is no bit above all of these
pub record HasBits (g : Extents) (c : Cell) (key : ℕ) : Type 0 where
  pub x : (i : ℕ) → i < 32 → used g.x i ≡ true → bit_of key (bits_before g i) ≡ bit_of c.x i
  pub y : (i : ℕ) → i < 32 → used g.y i ≡ true → bit_of key (bits_before g i + count (used g.x i)) ≡ bit_of c.y i
  pub z : (i : ℕ) → i < 32 → used g.z i ≡ true → bit_of key (bits_before g i + (count (used g.x i) + count (used g.y i))) ≡ bit_of c.z i
  pub below : key < 2 ^ bits_before g 32

-- ---- places

-- "hash": "identity", or "murmurhash3_x86_128"
abbrev pub hash_of : Sharding → ℕ → ℕ
hash_of spec n = pick (eqb spec.hash murmur) (murmur_hash n) n

-- ---- names, read back

-- `0` to `9` are bytes 48 to 57, `a` to `f` bytes 97 to 102
abbrev pub IsDecimal : ℕ → Type 0
IsDecimal b = (48 ≤ b) × (b ≤ 57)

abbrev pub IsHexadecimal : ℕ → Type 0
IsHexadecimal b = IsDecimal b ⊎ ((97 ≤ b) × (b ≤ 102))

-- the name of a shard's file: digits that read as the number, then the ending
pub record NamesFile (kind : FileKind) (spec : Sharding) (shard : ℕ) (name : List ℕ) : Type 0 where
  pub digits : List ℕ
  pub parts : name ≡ digits ++ suffix_of kind
  -- "the lowercase base-16 shard number"
  pub lower : (i : ℕ) → i < length digits → IsHexadecimal (get_or digits i 0)
  pub reads : value 16 digits ≡ shard
  -- "zero padded to ceil(shard_bits/4) digits", "and never empty"
  pub enough : shard_bits_of spec ≤ 4 * length digits
  pub few : (4 * length digits < shard_bits_of spec + 4) ⊎ (length digits ≡ 1)
  pub some : 0 < length digits

-- a number "in base 10", with no zero in front but 0 itself
pub record SaysNumber (text : List ℕ) (n : ℕ) : Type 0 where
  pub some : 0 < length text
  pub digits : (i : ℕ) → i < length text → IsDecimal (get_or text i 0)
  pub reads : value 10 text ≡ n
  pub plain : get_or text 0 0 ≡ 48 → length text ≡ 1

-- "minus sign where negative": byte 45
pub data SaysInteger : List ℕ → ℤ → Type 0 where
  plain : {text : List ℕ} {n : ℕ} → SaysNumber text n → SaysInteger text (pos n)
  minus : {text : List ℕ} {n : ℕ} → SaysNumber text (suc n) → SaysInteger (45 ∷ text) (negsuc n)

-- "xBegin-xEnd_yBegin-yEnd_zBegin-zEnd": `-` is byte 45, `_` byte 95
pub record NamesChunk (b : Bounds) (name : List ℕ) : Type 0 where
  pub x_begin : List ℕ
  pub x_end : List ℕ
  pub y_begin : List ℕ
  pub y_end : List ℕ
  pub z_begin : List ℕ
  pub z_end : List ℕ
  pub parts : name ≡ x_begin ++ (45 ∷ (x_end ++ (95 ∷ (y_begin ++ (45 ∷ (y_end ++ (95 ∷ (z_begin ++ (45 ∷ z_end)))))))))
  pub says_x_begin : SaysInteger x_begin b.begin.x
  pub says_x_end : SaysInteger x_end b.end.x
  pub says_y_begin : SaysInteger y_begin b.begin.y
  pub says_y_end : SaysInteger y_end b.end.y
  pub says_z_begin : SaysInteger z_begin b.begin.z
  pub says_z_end : SaysInteger z_end b.end.z

-- ---- manifests

-- the manifest is sound, as it is laid out
pub record Laid (m : Manifest) : Type 0 where
  pub fits : Fits m
  pub sound : manifest_answer (bytes_of m) ≡ Ok tt

abbrev pub real : ℕ → Float
real n = of_bits binary32 n

-- 2^l
abbrev pub two_to : ℕ → Float
two_to l = fin false 1 (pos l)

-- on one axis, of origin o and shape e: the corners of the node at position p of level l. "grid_origin + [x, y, z] * chunk_shape * (2**lod) and a shape of
-- chunk_shape * (2**lod)", "in f32, each operation rounded once in that order"
abbrev pub near_end : Float → Float → ℕ → ℕ → Float
near_end o e p l = add binary32 o (mul binary32 (mul binary32 (of_int binary32 (pos p)) e) (two_to l))

abbrev pub far_end : Float → Float → ℕ → ℕ → Float
far_end o e p l = add binary32 (near_end o e p l) (mul binary32 e (two_to l))

abbrev pub corner : (Float → Float → ℕ → ℕ → Float) → Manifest → ℕ → Fragment → Corner
corner end m l f = record { x = end (real m.origin.x) (real m.shape.x) f.x l; y = end (real m.origin.y) (real m.shape.y) f.y l; z = end (real m.origin.z) (real m.shape.z) f.z l }

-- fragment i of level l, with its start among all fragments
pub record Stands (m : Manifest) (l i : ℕ) (f : Fragment) (start : ℕ) : Type 0 where
  pub before : List Level
  pub level : Level
  pub after : List Level
  pub earlier : List Fragment
  pub later : List Fragment
  pub levels : m.levels ≡ before ++ (level ∷ after)
  pub fragments : level.fragments ≡ earlier ++ (f ∷ later)
  pub level_number : l ≡ length before
  pub fragment_number : i ≡ length earlier
  -- "the sum of all prior fragment_offsets values"
  pub starts : start ≡ sizes_of (flat_map (λ level. level.fragments) before ++ earlier)

-- ---- The byte ranges of listed chunks and fragments are `found`, `fragment` and `listed` of Demand2. What an opened shard or pair is asked has no field: it is
-- answered by the plain calls' definitions, on the bytes that were lent. The contracts of crates/opened/src/lib.rt and crates/opened/src/pair.rt are equations
-- with them; those of `lookup_in` and `part_in` say it of opening and asking together.
-- (RULES D2, G5, S2, S5, S6, G8, M1, M6, M7, M8, P3)
pub record Published : Type 0 where
  -- The key of a cell has each bit of the cell where the steps of source 000 put it, and no other.
  pub key : (v : Volume) (c : Cell) (k : ℕ) → key_result (key_answer v c) ≡ success k → HasBits (grid_of v) c k
  -- "The hashed chunk ID is computed as hash(chunk_id >> preshift_bits)"; "the minishard number is equal to bits [0, minishard_bits)" of it, and "the shard number
  -- is equal to bits [minishard_bits, minishard_bits+shard_bits)". So of an id put together from these bits, as every id is:
  pub place : (spec : Sharding) (shifted low minishard shard rest : ℕ) → allowed spec ≡ true → low < 2 ^ spec.preshift → minishard < 2 ^ minishard_bits_of spec → shard < 2 ^ shard_bits_of spec
      → hash_of spec shifted ≡ minishard + 2 ^ minishard_bits_of spec * (shard + 2 ^ shard_bits_of spec * rest)
      → place_result (place_answer spec (shifted * 2 ^ spec.preshift + low)) ≡ success (record { shard = shard; minishard = minishard })
  -- What a call that names a file leaves at the front of the output is the file's name,
  pub file_name : (kind : FileKind) (spec : Sharding) (shard : ℕ) (out : List ℕ) (n : ℕ) → file_name_answer kind spec shard out ≡ Ok n → NamesFile kind spec shard (take n (file_name_left kind spec shard out))
  -- and what one that names a chunk leaves there is the name of the chunk's bounds.
  pub chunk_name : (v : Volume) (c : Cell) (out : List ℕ) (n : ℕ) → chunk_name_answer v c out ≡ Ok n → NamesChunk (bounds_of v c) (take n (chunk_name_left v c out))
  -- Every sound manifest is one that is laid out as source 001 says,
  pub manifest : (s : List ℕ) → ((i : ℕ) → get_or s i 0 < 256) → manifest_answer s ≡ Ok tt → (m : Manifest) × Laid m × (bytes_of m ≡ s)
  -- and of one that is laid out so: the header is its chunk shape and its grid origin;
  pub header : (m : Manifest) → Laid m
      → header_result (header_answer (bytes_of m)) ≡ success (record {
        shape_x = real m.shape.x;
        shape_y = real m.shape.y;
        shape_z = real m.shape.z;
        origin_x = real m.origin.x;
        origin_y = real m.origin.y;
        origin_z = real m.origin.z;
      })
  -- the fields, counted from 0, are its items, a float32 as a real and a uint32 as a whole number, and past the last there is none;
  pub field : (m : Manifest) → Laid m → (i : ℕ) → field_answer (bytes_of m) i ≡ get_or (map field_said (entries_of m)) i (refuse 18)
  -- a node has its fragment's position, start and size;
  pub node : (m : Manifest) → Laid m → (l i start : ℕ) (f : Fragment) → Stands m l i f start
      → node_result (node_answer (bytes_of m) l i) ≡ success (record { x = f.x; y = f.y; z = f.z; start = start; size = f.size })
  -- its corners, where they are given, are those of source 001.
  pub corners : (m : Manifest) → Laid m → (l i start : ℕ) (f : Fragment) → Stands m l i f start → (c : Corners) → corners_result (corners_answer (bytes_of m) l i) ≡ success c
      → (c.near ≡ corner near_end m l f) × (c.far ≡ corner far_end m l f)
  -- "the <shard>.shard file is equivalent to the concatenation of the <shard>.index and <shard>.data files": the part of the data file that a pair's lookup hands
  -- out has the bytes that the joined file's hands out, and so has a fragment.
  pub pair_part : (spec : Sharding) (shard : ℕ) (index d : List ℕ) (id : ℕ) → length index ≡ index_length_of spec
      → part_bytes (in_data (length index) (pair_lookup spec shard index d id)) d ≡ part_bytes (lookup_answer spec shard (index ++ d) id) (index ++ d)
  pub pair_fragment_part : (spec : Sharding) (shard : ℕ) (index d : List ℕ) (id level node : ℕ) → length index ≡ index_length_of spec
      → part_bytes (in_data (length index) (pair_fragment spec shard index d id level node)) d ≡ part_bytes (fragment_answer spec shard (index ++ d) id level node) (index ++ d)
