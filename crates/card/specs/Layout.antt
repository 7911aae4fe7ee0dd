-- The bytes of a deposit card (RULES C1).
use Rattle.std.specs.Prelude.{ℕ, ◌<◌, List, [], ◌∷◌, ◌++◌, length, get_or}
use Rattle.refusal.specs.Choice.{pick}
use Rattle.endian.specs.Little.{le}
use Rattle.morton.specs.grid.Grid.{InU32}
use Rattle.morton.specs.declared.grid.Extents.{Extents}
use Rattle.morton.specs.declared.grid.Offset.{Offset}
use Rattle.morton.specs.declared.grid.Volume.{Volume}
use Rattle.sharding.specs.Specification.{mesh, is_mesh, minishard_bits_of, shard_bits_of}
use Rattle.sharding.specs.declared.Sharding.{Sharding}
use Rattle.card.specs.fields.Twos.{bits32, no_offset, InI32}
use Rattle.card.specs.declared.Card.{Card}

-- "a one-byte tag, a two-byte little-endian length"
unfoldable pub head : ℕ → ℕ → List ℕ
head tag n = tag ∷ le 2 n

-- "and the body"
unfoldable pub field : ℕ → List ℕ → List ℕ
field tag body = head tag (length body) ++ body

-- a field "one byte each"
unfoldable pub one_byte : ℕ → ℕ → List ℕ
one_byte tag n = field tag (n ∷ [])

-- the body of a field of "three 32-bit little-endian numbers"
unfoldable pub three : ℕ → ℕ → ℕ → List ℕ
three x y z = le 4 x ++ (le 4 y ++ le 4 z)

-- tags 1 to 4
unfoldable pub sharding_bytes : Sharding → List ℕ
sharding_bytes s =
    one_byte 1 s.preshift ++ (one_byte 2 s.hash ++ (one_byte 3 (minishard_bits_of s) ++ one_byte 4 (shard_bits_of s)))

-- tags 5 and 6
unfoldable pub extents_bytes : ℕ → Extents → List ℕ
extents_bytes tag e = field tag (three e.x e.y e.z)

-- tag 7
unfoldable pub offset_tag : Offset → List ℕ
offset_tag o = field 7 (three (bits32 o.x) (bits32 o.y) (bits32 o.z))

-- "Tag 7 is absent when the offset is 0,0,0"
unfoldable pub offset_bytes : Offset → List ℕ
offset_bytes o = pick (no_offset o) [] (offset_tag o)

-- tags 5 to 7
unfoldable pub volume_bytes : Volume → List ℕ
volume_bytes v = extents_bytes 5 v.size ++ (extents_bytes 6 v.chunk ++ offset_bytes v.offset)

-- "card tag 8, one byte of 1, means mesh and is absent for volume" (RULES C1)
unfoldable pub kind_bytes : Sharding → List ℕ
kind_bytes s = pick (is_mesh s) (one_byte 8 mesh) []

-- "tags rising, each once" (RULES C1)
unfoldable pub card_bytes : Card → List ℕ
card_bytes c = sharding_bytes c.sharding ++ (volume_bytes c.volume ++ kind_bytes c.sharding)

-- ---- a record that a card can hold: each number has the width of its field; that the kind is one of the two is for 1 to say
pub record Ranged (c : Card) : Type 0 where
  pub preshift : c.sharding.preshift < 256
  pub hash : c.sharding.hash < 256
  pub minishard : minishard_bits_of c.sharding < 256
  pub shard : shard_bits_of c.sharding < 256
  pub size : InU32 c.volume.size
  pub chunk : InU32 c.volume.chunk
  pub x : InI32 c.volume.offset.x
  pub y : InI32 c.volume.offset.y
  pub z : InI32 c.volume.offset.z

-- a list of bytes
abbrev pub Bytes : List ℕ → Type 0
Bytes s = (i : ℕ) → get_or s i 0 < 256
