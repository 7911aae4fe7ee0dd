-- The fields of a deposit card, each at its place (RULES C2).
use Rattle.std.specs.Prelude.{ℕ, ◌+◌, Bool, not, ◌&&◌, List, eqb, get_or}
use Rattle.endian.specs.Little.{le_at}
use Rattle.morton.specs.declared.grid.Offset.{Offset}
use Rattle.sharding.specs.Specification.{mesh}
use Rattle.card.specs.fields.Twos.{signed32, no_offset}

-- a field begins at p: its tag, and the length of its body
unfoldable pub field_at : ℕ → ℕ → List ℕ → ℕ → Bool
field_at tag k s p = eqb (get_or s p 0) tag && eqb (le_at 2 s (p + 1)) k

-- the fields that are required: tags 1 to 6, rising, each after the body of the one before
unfoldable pub six_fields : List ℕ → Bool
six_fields s =
    field_at 1 1 s 0 && (field_at 2 1 s 4 && (field_at 3 1 s 8 && (field_at 4 1 s 12 && (field_at 5 12 s 16 && field_at 6 12 s 31))))

unfoldable pub card_offset_at : List ℕ → ℕ → Offset
card_offset_at s p = record { x = signed32 (le_at 4 s p); y = signed32 (le_at 4 s (p + 4)); z = signed32 (le_at 4 s (p + 8)) }

-- tag 7, which "is refused if it says" 0,0,0
unfoldable pub offset_field : List ℕ → Bool
offset_field s = field_at 7 12 s 46 && not (no_offset (card_offset_at s 49))

-- "card tag 8, one byte of 1, means mesh" (RULES C1, C2): the last field, so its place is the end of the others
unfoldable pub kind_field : List ℕ → ℕ → Bool
kind_field s p = field_at 8 1 s p && eqb (get_or s (p + 3) 0) mesh
