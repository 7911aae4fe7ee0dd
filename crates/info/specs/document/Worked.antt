-- Worked cases of the info file, as one table.
use Rattle.std.specs.Prelude.{ℕ, zero, suc, List, [], ◌∷◌, ◌++◌, ℤ, pos, negsuc, Ok}
use Rattle.sharding.specs.Specification.{volume}
use Rattle.card.specs.declared.Card.{Card}
use Rattle.refusal.specs.Answers.{Answer, refuse}
use Rattle.info.specs.sharding_members.Words.{scales_name, size_name, chunks_name, offset_name, sharding_name, type_name, preshift_name, hash_name, minishard_bits_name, shard_bits_name, index_name, data_name, type_text, raw_text, identity_text}

-- ---- writing JSON: strings, objects and arrays of what is given as text

abbrev pub quoted : List ℕ → List ℕ
quoted words = 0x22 ∷ (words ++ (0x22 ∷ []))

abbrev pub pair : List ℕ → List ℕ → List ℕ
pair name value = quoted name ++ (0x3A ∷ value)

abbrev pub commas : List (List ℕ) → List ℕ
commas [] = []
commas (x ∷ []) = x
commas (x ∷ y ∷ l) = x ++ (0x2C ∷ commas (y ∷ l))

abbrev pub object : List (List ℕ) → List ℕ
object l = 0x7B ∷ (commas l ++ (0x7D ∷ []))

abbrev pub array : List (List ℕ) → List ℕ
array l = 0x5B ∷ (commas l ++ (0x5D ∷ []))

-- x in n brackets
abbrev pub nested : ℕ → List ℕ → List ℕ
nested zero x = x
nested (suc n) x = 0x5B ∷ (nested n x ++ (0x5D ∷ []))

-- the digits 0, 1 and 2
abbrev pub d0 : List ℕ
d0 = 48 ∷ []

abbrev pub d1 : List ℕ
d1 = 49 ∷ []

abbrev pub d2 : List ℕ
d2 = 50 ∷ []

-- ---- an info file

abbrev pub file : List (List ℕ) → List ℕ
file scales = object (pair scales_name (array scales) ∷ [])

abbrev pub size_text : List ℕ → List ℕ
size_text n = pair size_name (array (n ∷ n ∷ n ∷ []))

abbrev pub chunks : List ℕ
chunks = pair chunks_name (array (array (d1 ∷ d1 ∷ d1 ∷ []) ∷ []))

-- a sharding specification with this type, preshift and hash, and these further members
abbrev pub sharding_by : List (List ℕ) → List ℕ → List ℕ → List (List ℕ) → List ℕ
sharding_by type preshift hash more =
    pair sharding_name (object (type ++ (pair preshift_name preshift ∷ pair hash_name hash ∷ pair minishard_bits_name d0 ∷ pair shard_bits_name d0 ∷ more)))

-- of the type that 002 names
abbrev pub sharding_text : List ℕ → List ℕ → List (List ℕ) → List ℕ
sharding_text preshift hash more = sharding_by (pair type_name (quoted type_text) ∷ []) preshift (quoted hash) more

-- a file of one scale, of size and chunk size 1,1,1, with this sharding
abbrev pub sharded : List ℕ → List ℕ
sharded x = file (object (size_text d1 ∷ chunks ∷ x ∷ []) ∷ [])

abbrev pub sharding : List ℕ
sharding = sharding_text d0 identity_text []

-- with this offset along x
abbrev pub shifted : List ℕ → List ℕ
shifted n = file (object (size_text d1 ∷ chunks ∷ sharding ∷ pair offset_name (array (n ∷ d0 ∷ d0 ∷ [])) ∷ []) ∷ [])

abbrev pub plain : List ℕ
plain = file (object (size_text d1 ∷ chunks ∷ sharding ∷ []) ∷ [])

-- the record of size 1,1,1 and chunk size 1,1,1, of this preshift and hash, with this offset along x
abbrev pub said_hashed : ℕ → ℕ → ℤ → Answer Card
said_hashed preshift hash x =
    Ok (record {
      sharding = record { preshift = preshift; hash = hash; minishard_bits = 0; shard_bits = 0; kind = volume };
      volume = record { size = record { x = 1; y = 1; z = 1 }; chunk = record { x = 1; y = 1; z = 1 }; offset = record { x = x; y = pos 0; z = pos 0 } };
    })

-- under the identity hash
abbrev pub said : ℕ → ℤ → Answer Card
said preshift x = said_hashed preshift 0 x

-- all numbers different, so that none stands for another: size 7,11,13, chunk size 2,3,5, offset -1,2,-3, preshift 1, minishard bits 2, shard bits 3
abbrev pub different : List ℕ
different =
    file (object (
    pair size_name (array ((55 ∷ []) ∷ (49 ∷ 49 ∷ []) ∷ (49 ∷ 51 ∷ []) ∷ []))
    ∷ pair chunks_name (array (array ((50 ∷ []) ∷ (51 ∷ []) ∷ (53 ∷ []) ∷ []) ∷ []))
    ∷ pair offset_name (array ((45 ∷ 49 ∷ []) ∷ (50 ∷ []) ∷ (45 ∷ 51 ∷ []) ∷ []))
    ∷ pair sharding_name (object (pair type_name (quoted type_text) ∷ pair preshift_name (49 ∷ []) ∷ pair hash_name (quoted identity_text) ∷ pair minishard_bits_name (50 ∷ []) ∷ pair shard_bits_name (51 ∷ []) ∷ []))
    ∷ []
    ) ∷ [])

abbrev pub said_different : Answer Card
said_different =
    Ok (record {
      sharding = record { preshift = 1; hash = 0; minishard_bits = 2; shard_bits = 3; kind = volume };
      volume = record { size = record { x = 7; y = 11; z = 13 }; chunk = record { x = 2; y = 3; z = 5 }; offset = record { x = negsuc 0; y = pos 2; z = negsuc 2 } };
    })

-- ---- the table

pub record Case : Type 0 where
  pub text : List ℕ
  pub scale : ℕ
  pub answer : Answer Card

abbrev pub case : List ℕ → ℕ → Answer Card → Case
case text scale answer = record { text = text; scale = scale; answer = answer }

-- si\u007ae, which says size
abbrev pub escaped : List ℕ
escaped = 115 ∷ 105 ∷ 92 ∷ 117 ∷ 48 ∷ 48 ∷ 55 ∷ 97 ∷ 101 ∷ []

-- gzip
abbrev pub gzip : List ℕ
gzip = 103 ∷ 122 ∷ 105 ∷ 112 ∷ []

-- a whole file spelt out, byte by byte:
-- {"scales":[{"size":[1,1,1],"voxel_offset":[-1,0,0],"chunk_sizes":[[1,1,1]]
-- ,"sharding":{"@type":"neuroglancer_uint64_sharded_v1","preshift_bits":1,"hash":"murmurhash3_x86_128","minishard_bits":0,"shard_bits":0,"minishard_index_encoding":"raw","data_encoding":"raw"}}]}
abbrev pub spelt : List ℕ
spelt =
    123 ∷ 34 ∷ 115 ∷ 99 ∷ 97 ∷ 108 ∷ 101 ∷ 115 ∷ 34 ∷ 58 ∷ 91 ∷ 123 ∷ 34 ∷ 115 ∷ 105 ∷ 122 ∷ 101 ∷ 34 ∷ 58 ∷ 91 ∷ 49 ∷ 44 ∷ 49 ∷ 44 ∷ 49 ∷ 93 ∷ 44 ∷ 34 ∷ 118 ∷ 111
    ∷ 120 ∷ 101 ∷ 108 ∷ 95 ∷ 111 ∷ 102 ∷ 102 ∷ 115 ∷ 101 ∷ 116 ∷ 34 ∷ 58 ∷ 91 ∷ 45 ∷ 49 ∷ 44 ∷ 48 ∷ 44 ∷ 48 ∷ 93 ∷ 44 ∷ 34 ∷ 99 ∷ 104 ∷ 117 ∷ 110 ∷ 107 ∷ 95 ∷ 115 ∷ 105
    ∷ 122 ∷ 101 ∷ 115 ∷ 34 ∷ 58 ∷ 91 ∷ 91 ∷ 49 ∷ 44 ∷ 49 ∷ 44 ∷ 49 ∷ 93 ∷ 93 ∷ 44 ∷ 34 ∷ 115 ∷ 104 ∷ 97 ∷ 114 ∷ 100 ∷ 105 ∷ 110 ∷ 103 ∷ 34 ∷ 58 ∷ 123 ∷ 34 ∷ 64 ∷ 116
    ∷ 121 ∷ 112 ∷ 101 ∷ 34 ∷ 58 ∷ 34 ∷ 110 ∷ 101 ∷ 117 ∷ 114 ∷ 111 ∷ 103 ∷ 108 ∷ 97 ∷ 110 ∷ 99 ∷ 101 ∷ 114 ∷ 95 ∷ 117 ∷ 105 ∷ 110 ∷ 116 ∷ 54 ∷ 52 ∷ 95 ∷ 115 ∷ 104 ∷ 97 ∷ 114
    ∷ 100 ∷ 101 ∷ 100 ∷ 95 ∷ 118 ∷ 49 ∷ 34 ∷ 44 ∷ 34 ∷ 112 ∷ 114 ∷ 101 ∷ 115 ∷ 104 ∷ 105 ∷ 102 ∷ 116 ∷ 95 ∷ 98 ∷ 105 ∷ 116 ∷ 115 ∷ 34 ∷ 58 ∷ 49 ∷ 44 ∷ 34 ∷ 104 ∷ 97 ∷ 115
    ∷ 104 ∷ 34 ∷ 58 ∷ 34 ∷ 109 ∷ 117 ∷ 114 ∷ 109 ∷ 117 ∷ 114 ∷ 104 ∷ 97 ∷ 115 ∷ 104 ∷ 51 ∷ 95 ∷ 120 ∷ 56 ∷ 54 ∷ 95 ∷ 49 ∷ 50 ∷ 56 ∷ 34 ∷ 44 ∷ 34 ∷ 109 ∷ 105 ∷ 110 ∷ 105
    ∷ 115 ∷ 104 ∷ 97 ∷ 114 ∷ 100 ∷ 95 ∷ 98 ∷ 105 ∷ 116 ∷ 115 ∷ 34 ∷ 58 ∷ 48 ∷ 44 ∷ 34 ∷ 115 ∷ 104 ∷ 97 ∷ 114 ∷ 100 ∷ 95 ∷ 98 ∷ 105 ∷ 116 ∷ 115 ∷ 34 ∷ 58 ∷ 48 ∷ 44 ∷ 34
    ∷ 109 ∷ 105 ∷ 110 ∷ 105 ∷ 115 ∷ 104 ∷ 97 ∷ 114 ∷ 100 ∷ 95 ∷ 105 ∷ 110 ∷ 100 ∷ 101 ∷ 120 ∷ 95 ∷ 101 ∷ 110 ∷ 99 ∷ 111 ∷ 100 ∷ 105 ∷ 110 ∷ 103 ∷ 34 ∷ 58 ∷ 34 ∷ 114 ∷ 97 ∷ 119
    ∷ 34 ∷ 44 ∷ 34 ∷ 100 ∷ 97 ∷ 116 ∷ 97 ∷ 95 ∷ 101 ∷ 110 ∷ 99 ∷ 111 ∷ 100 ∷ 105 ∷ 110 ∷ 103 ∷ 34 ∷ 58 ∷ 34 ∷ 114 ∷ 97 ∷ 119 ∷ 34 ∷ 125 ∷ 125 ∷ 93 ∷ 125 ∷ []

unfoldable pub cases : List Case
cases =
    case plain 0 (said 0 (pos 0))
    ∷ case different 0 said_different
    -- there is no scale 1
    ∷ case plain 1 (refuse 20)
    -- scale 1 is the second
    ∷ case (file (object (size_text d2 ∷ chunks ∷ sharding ∷ []) ∷ object (size_text d1 ∷ chunks ∷ sharding_text d1 identity_text [] ∷ []) ∷ [])) 1 (said 1 (pos 0))
    -- a byte behind the text
    ∷ case (plain ++ d0) 0 (refuse 19)
    -- strings compare unescaped
    ∷ case (file (object (pair escaped (array (d1 ∷ d1 ∷ d1 ∷ [])) ∷ chunks ∷ sharding ∷ []) ∷ [])) 0 (said 0 (pos 0))
    -- a used member twice
    ∷ case (file (object (size_text d1 ∷ chunks ∷ size_text d1 ∷ sharding ∷ []) ∷ [])) 0 (refuse 20)
    -- 1.0 is no whole number
    ∷ case (file (object (size_text (49 ∷ 46 ∷ 48 ∷ []) ∷ chunks ∷ sharding ∷ []) ∷ [])) 0 (refuse 20)
    -- an encoding other than raw, and raw
    ∷ case (file (object (size_text d1 ∷ chunks ∷ sharding_text d0 identity_text (pair data_name (quoted gzip) ∷ []) ∷ []) ∷ [])) 0 (refuse 20)
    ∷ case (file (object (size_text d1 ∷ chunks ∷ sharding_text d0 identity_text (pair data_name (quoted raw_text) ∷ []) ∷ []) ∷ [])) 0 (said 0 (pos 0))
    -- an unknown hash name
    ∷ case (file (object (size_text d1 ∷ chunks ∷ sharding_text d0 raw_text [] ∷ []) ∷ [])) 0 (refuse 1)
    -- a size of 0
    ∷ case (file (object (size_text d0 ∷ chunks ∷ sharding ∷ []) ∷ [])) 0 (refuse 2)
    -- another order, a space, a member that is not used, an offset of -1,0,0
    ∷ case (32 ∷ file (object (sharding ∷ chunks ∷ pair gzip (nested 2 (object (pair size_name d0 ∷ []))) ∷ size_text d1 ∷ pair offset_name (array ((45 ∷ d1) ∷ d0 ∷ d0 ∷ [])) ∷ []) ∷ [])) 0 (said 0 (negsuc 0))
    -- a number at depth 32 is JSON, at depth 33 it is none
    ∷ case (nested 31 d0) 0 (refuse 20)
    ∷ case (nested 32 d0) 0 (refuse 19)
    -- all names and texts, spelt out
    ∷ case spelt 0 (said_hashed 1 1 (negsuc 0))
    -- a preshift of 64 fits its field and is 1, one of 256 does not and is 20
    ∷ case (sharded (sharding_text (54 ∷ 52 ∷ []) identity_text [])) 0 (refuse 1)
    ∷ case (sharded (sharding_text (50 ∷ 53 ∷ 54 ∷ []) identity_text [])) 0 (refuse 20)
    -- a hash that is no string, another @type, none
    ∷ case (sharded (sharding_by (pair type_name (quoted type_text) ∷ []) d0 d0 [])) 0 (refuse 20)
    ∷ case (sharded (sharding_by (pair type_name (quoted raw_text) ∷ []) d0 (quoted identity_text) [])) 0 (refuse 20)
    ∷ case (sharded (sharding_by [] d0 (quoted identity_text) [])) 0 (refuse 20)
    -- minishard indexes in another encoding than raw
    ∷ case (sharded (sharding_text d0 identity_text (pair index_name (quoted gzip) ∷ []))) 0 (refuse 20)
    -- two chunk sizes
    ∷ case (file (object (size_text d1 ∷ pair chunks_name (array (array (d1 ∷ d1 ∷ d1 ∷ []) ∷ array (d1 ∷ d1 ∷ d1 ∷ []) ∷ [])) ∷ sharding ∷ []) ∷ [])) 0 (refuse 20)
    -- offsets of -0, of -2^31, and of 2^31, which no field holds
    ∷ case (shifted (45 ∷ d0)) 0 (said 0 (pos 0))
    ∷ case (shifted (45 ∷ 50 ∷ 49 ∷ 52 ∷ 55 ∷ 52 ∷ 56 ∷ 51 ∷ 54 ∷ 52 ∷ 56 ∷ [])) 0 (said 0 (negsuc 2147483647))
    ∷ case (shifted (50 ∷ 49 ∷ 52 ∷ 55 ∷ 52 ∷ 56 ∷ 51 ∷ 54 ∷ 52 ∷ 56 ∷ [])) 0 (refuse 20)
    -- 4294967295 cells along each axis need 96 key bits
    ∷ case (file (object (size_text (52 ∷ 50 ∷ 57 ∷ 52 ∷ 57 ∷ 54 ∷ 55 ∷ 50 ∷ 57 ∷ 53 ∷ []) ∷ chunks ∷ sharding ∷ []) ∷ [])) 0 (refuse 3)
    ∷ []
