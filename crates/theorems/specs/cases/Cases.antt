-- The cases of RULES W1, as one table: what is asked, and the answer that is given there.
use Rattle.std.specs.Prelude.{ℕ, zero, suc, ◌-◌, ◌^◌, Bool, true, false, List, [], ◌∷◌, ◌++◌, eqb, ℤ, pos, negsuc, Float}
use Rattle.std.specs.Float.{binary32}
use Rattle.std.specs.Float.Ieee.{of_int, to_bits}
use Rattle.refusal.specs.Choice.{pick}
use Rattle.refusal.specs.Result.{Result, success, refused, written_result, count_result}
use Rattle.endian.specs.Little.{row, row32}
use Rattle.morton.specs.declared.grid.Extents.{Extents}
use Rattle.morton.specs.declared.grid.Cell.{Cell}
use Rattle.morton.specs.declared.bounds.Point.{Point}
use Rattle.morton.specs.declared.bounds.Bounds.{Bounds}
use Rattle.morton.specs.declared.grid.Volume.{Volume}
use Rattle.morton.specs.grid.Grid.{grid_of}
use Rattle.morton.specs.Key.{key_bits_of}
use Rattle.morton.specs.grid.Answers.{grid_answer, grid_result}
use Rattle.morton.specs.Answers.{key_answer, cell_answer, key_result, cell_result}
use Rattle.morton.specs.bounds.Answers.{bounds_answer, bounds_result}
use Rattle.sharding.specs.declared.Sharding.{Sharding}
use Rattle.sharding.specs.declared.placement.Place.{Place}
use Rattle.sharding.specs.Specification.{identity, volume}
use Rattle.sharding.specs.placement.Place.{place_answer, place_result}
use Rattle.names.specs.Shards.{shard_name_answer, shard_name_left}
use Rattle.lookup.specs.Find.{lookup_answer, lookup_result}
use Rattle.shard.specs.Items.{Item}
use Rattle.settled_form.specs.Content.{file_content, file_form, file_form_length}
use Rattle.settle.specs.answers.Answers.{settle_answer, settle_left}
use Rattle.mesh_manifest.specs.declared.corners.Corner.{Corner}
use Rattle.mesh_manifest.specs.declared.corners.Corners.{Corners}
use Rattle.mesh_manifest.specs.corners.Boxes.{corners_answer, corners_result}

-- ---- what a case asks and what it expects

pub data Case : Type 0 where
  -- of a volume: its grid, how many bits its keys have, a cell's key, a key's cell, that of every key, a cell's bounds
  grid : Volume → Result Extents → Case
  bits : Volume → ℕ → Case
  key : Volume → Cell → Result ℕ → Case
  cell : Volume → ℕ → Result Cell → Case
  cells : Volume → (ℕ → Result Cell) → Case
  bounds : Volume → Cell → Result Bounds → Case
  -- of a specification: the place of an id; the name of a shard's file in a lent buffer, and the buffer then
  place : Sharding → ℕ → Result Place → Case
  name : Sharding → ℕ → List ℕ → Result ℕ → List ℕ → Case
  -- of a specification and a shard's file: what it lists, minishard by minishard; its settled form and that form's length;
  -- settling it as that shard number, dropping what is unlisted or not, into a lent output, and the output then; the lookup of an id
  lists : Sharding → List ℕ → List (List Item) → Case
  form : Sharding → List ℕ → List ℕ → ℕ → Case
  settles : Sharding → ℕ → List ℕ → Bool → List ℕ → Result ℕ → List ℕ → Case
  lookup : Sharding → ℕ → List ℕ → ℕ → Result (ℕ × ℕ) → Case
  -- of a manifest: the corners of a level's node
  corners : List ℕ → ℕ → ℕ → Result Corners → Case

-- the case with what the answer tells that the contracts' definitions give
unfoldable pub answered : Case → Case
answered (grid v a) = grid v (grid_result (grid_answer v))
answered (bits v n) = bits v (key_bits_of (grid_of v))
answered (key v c a) = key v c (key_result (key_answer v c))
answered (cell v k a) = cell v k (cell_result (cell_answer v k))
answered (cells v a) = cells v (λ k. cell_result (cell_answer v k))
answered (bounds v c a) = bounds v c (bounds_result (bounds_answer v c))
answered (place spec id a) = place spec id (place_result (place_answer spec id))
answered (name spec shard out a left) = name spec shard out (written_result (shard_name_answer spec shard out)) (shard_name_left spec shard out)
answered (lists spec file l) = lists spec file (file_content spec file)
answered (form spec file s n) = form spec file (file_form spec file) (file_form_length spec file)
answered (settles spec shard file dropping out a left) = settles spec shard file dropping out (count_result (settle_answer spec shard file dropping out)) (settle_left spec shard file dropping out)
answered (lookup spec shard file id a) = lookup spec shard file id (lookup_result (lookup_answer spec shard file id))
answered (corners s l i a) = corners s l i (corners_result (corners_answer s l i))

-- ---- the inputs

abbrev pub extents : ℕ → ℕ → ℕ → Extents
extents x y z = record { x = x; y = y; z = z }

abbrev pub at : ℕ → ℕ → ℕ → Cell
at x y z = record { x = x; y = y; z = z }

-- the same on each axis
abbrev pub point : ℤ → Point
point c = record { x = c; y = c; z = c }

-- a volume whose chunks are one voxel, so that its size is its grid
unfoldable pub voxels : ℕ → ℕ → ℕ → Volume
voxels x y z = record { size = extents x y z; chunk = extents 1 1 1; offset = record { x = pos 0; y = pos 0; z = pos 0 } }

-- size 100, chunk 64, offset -64 on each axis
unfoldable pub shifted : Volume
shifted = record { size = extents 100 100 100; chunk = extents 64 64 64; offset = record { x = negsuc 63; y = negsuc 63; z = negsuc 63 } }

-- a volume under identity, with this preshift, these minishard bits and shard bits
abbrev pub plain : ℕ → ℕ → ℕ → Sharding
plain preshift minishard shard = record { preshift = preshift; hash = identity; minishard_bits = minishard; shard_bits = shard; kind = volume }

-- ten bytes `?`
unfoldable pub buffer : List ℕ
buffer = 63 ∷ 63 ∷ 63 ∷ 63 ∷ 63 ∷ 63 ∷ 63 ∷ 63 ∷ 63 ∷ 63 ∷ []

-- ids 4 and 10 with bytes `ab` and `cde`, both in minishard 0
unfoldable pub content : List (List Item)
content = (record { id = 4; lead = []; body = 97 ∷ 98 ∷ [] } ∷ record { id = 10; lead = []; body = 99 ∷ 100 ∷ 101 ∷ [] } ∷ []) ∷ [] ∷ []

-- the settled shard: entries 5,53 and 0,0; `ab` and `cde`; rows 4,6 and 0,0 and 2,3
unfoldable pub settled_file : List ℕ
settled_file = row (5 ∷ 53 ∷ 0 ∷ 0 ∷ []) ++ (97 ∷ 98 ∷ 99 ∷ 100 ∷ 101 ∷ [] ++ row (4 ∷ 6 ∷ 0 ∷ 0 ∷ 2 ∷ 3 ∷ []))

-- another layout of the same: the minishard index first, a byte between the chunks, an empty entry that points past the file
unfoldable pub other_file : List ℕ
other_file = row (0 ∷ 48 ∷ 99 ∷ 99 ∷ []) ++ (row (4 ∷ 6 ∷ 48 ∷ 1 ∷ 2 ∷ 3 ∷ []) ++ 97 ∷ 98 ∷ 255 ∷ 99 ∷ 100 ∷ 101 ∷ [])

-- an output of n bytes, each 0
unfoldable pub zeros : ℕ → List ℕ
zeros zero = []
zeros (suc n) = 0 ∷ zeros n

-- the f32 that is this whole number
unfoldable pub real : ℕ → Float
real n = of_int binary32 (pos n)

-- shape 8, origin 10, three levels with scale 1 and vertex offset 0, and one node, in level 2, at position 3, on each axis
unfoldable pub manifest : List ℕ
manifest =
    let eight = to_bits binary32 (real 8) in
    let ten = to_bits binary32 (real 10) in
    let one = to_bits binary32 (real 1) in
    row32
    (eight ∷ eight ∷ eight ∷ ten ∷ ten ∷ ten ∷ 3
    ∷ one ∷ one ∷ one
    ∷ 0 ∷ 0 ∷ 0 ∷ 0 ∷ 0 ∷ 0 ∷ 0 ∷ 0 ∷ 0
    ∷ 0 ∷ 0 ∷ 1
    ∷ 3 ∷ 3 ∷ 3 ∷ 0 ∷ [])

abbrev pub corner : ℕ → Corner
corner n = record { x = real n; y = real n; z = real n }

-- ---- the table

-- ".shard"
abbrev pub dot_shard : List ℕ → List ℕ
dot_shard rest = 46 ∷ 115 ∷ 104 ∷ 97 ∷ 114 ∷ 100 ∷ rest

-- RULES W1
unfoldable pub table : List Case
table =
    -- grid 1,1,1: only key 0
    cells (voxels 1 1 1) (λ k. pick (eqb k 0) (success (at 0 0 0)) (refused 4))
    ∷ grid (voxels 1 1 1) (success (extents 1 1 1))
    ∷ key (voxels 1 1 1) (at 0 0 0) (success 0)
    ∷ cell (voxels 1 1 1) 0 (success (at 0 0 0))
    ∷ cell (voxels 1 1 1) 1 (refused 4)
    -- grid 5,3,1: cell 4,2,0 has key 24; 3,1,0 has key 7; keys 20 and 32 give 4
    ∷ grid (voxels 5 3 1) (success (extents 5 3 1))
    ∷ key (voxels 5 3 1) (at 4 2 0) (success 24)
    ∷ key (voxels 5 3 1) (at 3 1 0) (success 7)
    ∷ cell (voxels 5 3 1) 24 (success (at 4 2 0))
    ∷ cell (voxels 5 3 1) 7 (success (at 3 1 0))
    ∷ cell (voxels 5 3 1) 20 (refused 4)
    ∷ cell (voxels 5 3 1) 32 (refused 4)
    -- (z after y, by the steps of source 000) grid 1,4,4: y gives bits 0 and 2 of the key, z bits 1 and 3, so cell 0,1,2 has key 1 + 8
    ∷ key (voxels 1 4 4) (at 0 1 2) (success 9)
    ∷ cell (voxels 1 4 4) 9 (success (at 0 1 2))
    -- (from the case of `locate`) grid 2,2,2: x, y and z give bits 0, 1 and 2, so cell 1,0,1 has key 1 + 4
    ∷ key (voxels 2 2 2) (at 1 0 1) (success 5)
    ∷ cell (voxels 2 2 2) 5 (success (at 1 0 1))
    -- grid 2^22,2^21,2^21 needs 64 bits; 2^22,2^22,2^21 gives 3
    ∷ grid (voxels (2 ^ 22) (2 ^ 21) (2 ^ 21)) (success (extents (2 ^ 22) (2 ^ 21) (2 ^ 21)))
    ∷ bits (voxels (2 ^ 22) (2 ^ 21) (2 ^ 21)) 64
    ∷ key (voxels (2 ^ 22) (2 ^ 21) (2 ^ 21)) (at (2 ^ 22 - 1) (2 ^ 21 - 1) (2 ^ 21 - 1)) (success (2 ^ 64 - 1))
    ∷ cell (voxels (2 ^ 22) (2 ^ 21) (2 ^ 21)) (2 ^ 64 - 1) (success (at (2 ^ 22 - 1) (2 ^ 21 - 1) (2 ^ 21 - 1)))
    ∷ grid (voxels (2 ^ 22) (2 ^ 22) (2 ^ 21)) (success (extents (2 ^ 22) (2 ^ 22) (2 ^ 21)))
    ∷ key (voxels (2 ^ 22) (2 ^ 22) (2 ^ 21)) (at 0 0 0) (refused 3)
    ∷ cell (voxels (2 ^ 22) (2 ^ 22) (2 ^ 21)) 0 (refused 3)
    -- size 100, chunk 64, offset -64: cell 0 spans -64 to 0, cell 1 spans 0 to 36
    ∷ bounds shifted (at 0 0 0) (success (record { begin = point (negsuc 63); end = point (pos 0) }))
    ∷ bounds shifted (at 1 1 1) (success (record { begin = point (pos 0); end = point (pos 36) }))
    -- identity, preshift 1, minishard bits 1: ids 2 and 3 go to minishard 1, id 4 to 0
    ∷ place (plain 1 1 0) 2 (success (record { shard = 0; minishard = 1 }))
    ∷ place (plain 1 1 0) 3 (success (record { shard = 0; minishard = 1 }))
    ∷ place (plain 1 1 0) 4 (success (record { shard = 0; minishard = 0 }))
    -- (from the case of `locate`: the shard bits follow the minishard bits)
    ∷ place (plain 0 1 2) 5 (success (record { shard = 2; minishard = 1 }))
    -- shard 10 is `a.shard` at 4 shard bits, `0a.shard` at 5; 0 bits gives `0.shard`
    ∷ name (plain 0 0 4) 10 buffer (success 7) (97 ∷ dot_shard (63 ∷ 63 ∷ 63 ∷ []))
    ∷ name (plain 0 0 5) 10 buffer (success 8) (48 ∷ 97 ∷ dot_shard (63 ∷ 63 ∷ []))
    ∷ name (plain 0 0 0) 0 buffer (success 7) (48 ∷ dot_shard (63 ∷ 63 ∷ 63 ∷ []))
    -- identity, preshift 0, minishard bits 1, shard bits 0, ids 4 and 10 with bytes `ab` and `cde`: settled length 85, entries 5,53 and 0,0, rows 4,6 / 0,0 / 2,3
    ∷ lists (plain 0 1 0) other_file content
    ∷ lists (plain 0 1 0) settled_file content
    ∷ form (plain 0 1 0) other_file settled_file 85
    ∷ form (plain 0 1 0) settled_file settled_file 85
    ∷ settles (plain 0 1 0) 0 other_file true (zeros 87) (success 85) (settled_file ++ 0 ∷ 0 ∷ [])
    ∷ settles (plain 0 1 0) 0 settled_file false (zeros 85) (success 85) settled_file
    -- (order 8) one byte of the other layout is unlisted: 22, also before 13
    ∷ settles (plain 0 1 0) 0 other_file false (zeros 87) (refused 22) (zeros 87)
    ∷ settles (plain 0 1 0) 0 other_file false [] (refused 22) []
    -- id 10 is bytes 34 up to 37, end excluded; ids 6 and 7 give 12
    ∷ lookup (plain 0 1 0) 0 settled_file 10 (success (34, 3))
    ∷ lookup (plain 0 1 0) 0 settled_file 6 (refused 12)
    ∷ lookup (plain 0 1 0) 0 settled_file 7 (refused 12)
    -- origin 10, shape 8, position 3, level 2: corners 106 and 138
    ∷ corners manifest 2 0 (success (record { near = corner 106; far = corner 138 }))
    ∷ []
