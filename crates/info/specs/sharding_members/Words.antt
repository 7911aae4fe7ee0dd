-- The names of the members that settings use, and the texts that they may hold, in ASCII (source 002, 'Sharding specification').
use Rattle.std.specs.Prelude.{ℕ, List, [], ◌∷◌}

-- scales
abbrev pub scales_name : List ℕ
scales_name = 115 ∷ 99 ∷ 97 ∷ 108 ∷ 101 ∷ 115 ∷ []

-- size
abbrev pub size_name : List ℕ
size_name = 115 ∷ 105 ∷ 122 ∷ 101 ∷ []

-- chunk_sizes
abbrev pub chunks_name : List ℕ
chunks_name = 99 ∷ 104 ∷ 117 ∷ 110 ∷ 107 ∷ 95 ∷ 115 ∷ 105 ∷ 122 ∷ 101 ∷ 115 ∷ []

-- voxel_offset
abbrev pub offset_name : List ℕ
offset_name = 118 ∷ 111 ∷ 120 ∷ 101 ∷ 108 ∷ 95 ∷ 111 ∷ 102 ∷ 102 ∷ 115 ∷ 101 ∷ 116 ∷ []

-- sharding
abbrev pub sharding_name : List ℕ
sharding_name = 115 ∷ 104 ∷ 97 ∷ 114 ∷ 100 ∷ 105 ∷ 110 ∷ 103 ∷ []

-- @type
abbrev pub type_name : List ℕ
type_name = 64 ∷ 116 ∷ 121 ∷ 112 ∷ 101 ∷ []

-- preshift_bits
abbrev pub preshift_name : List ℕ
preshift_name = 112 ∷ 114 ∷ 101 ∷ 115 ∷ 104 ∷ 105 ∷ 102 ∷ 116 ∷ 95 ∷ 98 ∷ 105 ∷ 116 ∷ 115 ∷ []

-- hash
abbrev pub hash_name : List ℕ
hash_name = 104 ∷ 97 ∷ 115 ∷ 104 ∷ []

-- minishard_bits
abbrev pub minishard_bits_name : List ℕ
minishard_bits_name = 109 ∷ 105 ∷ 110 ∷ 105 ∷ 115 ∷ 104 ∷ 97 ∷ 114 ∷ 100 ∷ 95 ∷ 98 ∷ 105 ∷ 116 ∷ 115 ∷ []

-- shard_bits
abbrev pub shard_bits_name : List ℕ
shard_bits_name = 115 ∷ 104 ∷ 97 ∷ 114 ∷ 100 ∷ 95 ∷ 98 ∷ 105 ∷ 116 ∷ 115 ∷ []

-- minishard_index_encoding
abbrev pub index_name : List ℕ
index_name = 109 ∷ 105 ∷ 110 ∷ 105 ∷ 115 ∷ 104 ∷ 97 ∷ 114 ∷ 100 ∷ 95 ∷ 105 ∷ 110 ∷ 100 ∷ 101 ∷ 120 ∷ 95 ∷ 101 ∷ 110 ∷ 99 ∷ 111 ∷ 100 ∷ 105 ∷ 110 ∷ 103 ∷ []

-- data_encoding
abbrev pub data_name : List ℕ
data_name = 100 ∷ 97 ∷ 116 ∷ 97 ∷ 95 ∷ 101 ∷ 110 ∷ 99 ∷ 111 ∷ 100 ∷ 105 ∷ 110 ∷ 103 ∷ []

-- neuroglancer_uint64_sharded_v1
abbrev pub type_text : List ℕ
type_text = 110 ∷ 101 ∷ 117 ∷ 114 ∷ 111 ∷ 103 ∷ 108 ∷ 97 ∷ 110 ∷ 99 ∷ 101 ∷ 114 ∷ 95 ∷ 117 ∷ 105 ∷ 110 ∷ 116 ∷ 54 ∷ 52 ∷ 95 ∷ 115 ∷ 104 ∷ 97 ∷ 114 ∷ 100 ∷ 101 ∷ 100 ∷ 95 ∷ 118 ∷ 49 ∷ []

-- raw
abbrev pub raw_text : List ℕ
raw_text = 114 ∷ 97 ∷ 119 ∷ []

-- identity
abbrev pub identity_text : List ℕ
identity_text = 105 ∷ 100 ∷ 101 ∷ 110 ∷ 116 ∷ 105 ∷ 116 ∷ 121 ∷ []

-- murmurhash3_x86_128
abbrev pub murmur_text : List ℕ
murmur_text = 109 ∷ 117 ∷ 114 ∷ 109 ∷ 117 ∷ 114 ∷ 104 ∷ 97 ∷ 115 ∷ 104 ∷ 51 ∷ 95 ∷ 120 ∷ 56 ∷ 54 ∷ 95 ∷ 49 ∷ 50 ∷ 56 ∷ []
