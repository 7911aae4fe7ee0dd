-- Sound shards that share bytes and are shorter than their settled forms.
use Rattle.std.specs.Prelude.{ℕ, List, [], ◌∷◌, ◌++◌}
use Rattle.endian.specs.Little.{row, row32}
use Rattle.sharding.specs.declared.Sharding.{Sharding}
use Rattle.sharding.specs.Specification.{identity}

-- one shard with two minishards, of even and of odd ids
abbrev pub one_bit : ℕ → Sharding
one_bit kind = record { preshift = 0; hash = identity; minishard_bits = 1; shard_bits = 0; kind = kind }

-- of a volume: the chunk `ab`, and two minishard indexes, whose only entries, of ids 4 and 5, both are that chunk (RULES F6)
abbrev pub twins : List ℕ
twins = row (2 ∷ 26 ∷ 26 ∷ 50 ∷ []) ++ (97 ∷ 98 ∷ [] ++ row (4 ∷ 0 ∷ 2 ∷ 5 ∷ 0 ∷ 2 ∷ []))

-- the pattern of the real 1
abbrev pub one : ℕ
one = 1065353216

-- a manifest of one node, at 0, with a fragment of this size: shape 1 and origin 0 on each axis; one level, of scale 1 and vertex offset 0
unfoldable pub manifest : ℕ → List ℕ
manifest size = row32 (one ∷ one ∷ one ∷ 0 ∷ 0 ∷ 0 ∷ 1 ∷ one ∷ 0 ∷ 0 ∷ 0 ∷ 1 ∷ 0 ∷ 0 ∷ 0 ∷ size ∷ [])

-- of a mesh: the fragment `ab` with its manifest, and a manifest whose fragment is all of these 66 bytes; ids 4 and 5
abbrev pub nested : List ℕ
nested = row (130 ∷ 154 ∷ 154 ∷ 178 ∷ []) ++ (97 ∷ 98 ∷ [] ++ (manifest 2 ++ (manifest 66 ++ row (4 ∷ 2 ∷ 64 ∷ 5 ∷ 66 ∷ 64 ∷ []))))
