-- What the bytes of a deposit card say (RULES C3).
use Rattle.std.specs.Prelude.{ℕ, ◌+◌, ◌||◌, List, eqb, pos, length, get_or}
use Rattle.refusal.specs.Choice.{pick}
use Rattle.endian.specs.Little.{le_at}
use Rattle.morton.specs.declared.grid.Extents.{Extents}
use Rattle.morton.specs.declared.grid.Offset.{Offset}
use Rattle.morton.specs.declared.grid.Volume.{Volume}
use Rattle.sharding.specs.Specification.{volume, mesh}
use Rattle.sharding.specs.declared.Sharding.{Sharding}
use Rattle.card.specs.fields.Fields.{card_offset_at}
use Rattle.card.specs.declared.Card.{Card}

unfoldable pub card_extents_at : List ℕ → ℕ → Extents
card_extents_at s p = record { x = le_at 4 s p; y = le_at 4 s (p + 4); z = le_at 4 s (p + 8) }

-- tag 8 is there in the lengths of mesh cards
unfoldable pub kind_in : List ℕ → ℕ
kind_in s = pick (eqb (length s) 50 || eqb (length s) 65) mesh volume

-- the bodies of tags 1 to 4, and the kind
unfoldable pub card_sharding : List ℕ → Sharding
card_sharding s = record { preshift = get_or s 3 0; hash = get_or s 7 0; minishard_bits = get_or s 11 0; shard_bits = get_or s 15 0; kind = kind_in s }

abbrev pub zeros : Offset
zeros = record { x = pos 0; y = pos 0; z = pos 0 }

-- the body of tag 7, or 0,0,0 where it is absent
unfoldable pub offset_in : List ℕ → Offset
offset_in s = pick (eqb (length s) 46 || eqb (length s) 50) zeros (card_offset_at s 49)

-- the bodies of tags 5 to 7
unfoldable pub card_volume : List ℕ → Volume
card_volume s = record { size = card_extents_at s 19; chunk = card_extents_at s 34; offset = offset_in s }

-- what a card says (RULES C3)
unfoldable pub card_in : List ℕ → Card
card_in s = record { sharding = card_sharding s; volume = card_volume s }
