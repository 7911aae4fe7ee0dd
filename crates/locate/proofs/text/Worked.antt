-- The worked case of `locate` (RULES W3): the whole input and the whole output. The same card of a mesh gives the same.
use Prim.Native.Nat.{ℕ}
use mathlib.Core.Path.{◌≡◌, refl}
use mathlib.Core.List.{List, [], ◌∷◌, ◌++◌}
use Rattle.endian.specs.Little.{le, le_at}
use Rattle.morton.specs.grid.Grid.{grid_size, grid_of, has_zero, zero_extent, in_grid}
use Rattle.morton.specs.axis.Axis.{bit_of, used}
use Rattle.morton.specs.Key.{step, steps, key_of, key_bits_of, too_many_bits}
use Rattle.morton.specs.grid.Answers.{no_cell}
use Rattle.morton.specs.Answers.{key_checks, key_answer}
use Rattle.names.specs.digits.Digits.{digit_byte, digits, count_to, digit_count, decimal}
use Rattle.names.specs.Shards.{shard_digits, file_name}
use Rattle.sharding.specs.Specification.{volume, mesh, allowed}
use Rattle.sharding.specs.placement.Place.{hashed_id, minishard_of, shard_of}
use Rattle.refusal.specs.Checks.{first_number, unless}
use Rattle.card.specs.declared.Card.{Card}
use Rattle.card.specs.Layout.{head, field, one_byte, three, sharding_bytes, extents_bytes, offset_bytes, volume_bytes, kind_bytes, card_bytes}
use Rattle.card.specs.fields.Twos.{is_zero, no_offset}
use Rattle.card.specs.Reading.{zeros, card_extents_at, kind_in, card_sharding, offset_in, card_volume, card_in}
use Rattle.card.specs.fields.Fields.{field_at, six_fields, kind_field}
use Rattle.card.specs.form.Form.{well_formed}
use Rattle.card.specs.Answers.{record_checks, read_checks, read_answer}
use Rattle.locate.specs.lines.Lines.{ending, refused_line, filed, keyed, line_for, line_of}
use Rattle.locate.specs.lines.Cells.{cell_at, lines_by}
use Rattle.locate.specs.text.Output.{cut_after, text_by, cells_text, framed, printed, output}

-- of this kind: volume 100,100,100, chunk 64,64,64, identity, preshift 0, minishard bits 1, shard bits 2, no offset
unfoldable pub card : ℕ → Card
card kind = record {
  sharding = record { preshift = 0; hash = 0; minishard_bits = 1; shard_bits = 2; kind = kind };
  volume = record { size = record { x = 100; y = 100; z = 100 }; chunk = record { x = 64; y = 64; z = 64 }; offset = zeros };
}

-- its length, the card, and cells 1,0,1 then 1,1,0 then 2,0,0
unfoldable pub input : ℕ → ℕ → List ℕ
input kind n = le 2 n ++ (card_bytes (card kind) ++ (three 1 0 1 ++ (three 1 1 0 ++ three 2 0 0)))

-- `5 2.shard 1`, `3 1.shard 1`, `refused 2`, a line each
unfoldable pub lines : List ℕ
lines =
    53 ∷ 32 ∷ 50 ∷ 46 ∷ 115 ∷ 104 ∷ 97 ∷ 114 ∷ 100 ∷ 32 ∷ 49 ∷ 10
    ∷ 51 ∷ 32 ∷ 49 ∷ 46 ∷ 115 ∷ 104 ∷ 97 ∷ 114 ∷ 100 ∷ 32 ∷ 49 ∷ 10
    ∷ 114 ∷ 101 ∷ 102 ∷ 117 ∷ 115 ∷ 101 ∷ 100 ∷ 32 ∷ 50 ∷ 10 ∷ []

pub paper_case : (output (input volume 46) ≡ lines) × (output (input mesh 50) ≡ lines)
unfolding input lines card head field one_byte three is_zero sharding_bytes extents_bytes no_offset offset_bytes volume_bytes kind_bytes card_bytes field_at six_fields kind_field card_extents_at well_formed kind_in card_sharding offset_in card_volume card_in first_number unless record_checks read_checks read_answer ending refused_line filed keyed line_for line_of cell_at lines_by cut_after text_by cells_text framed printed output le le_at grid_size grid_of has_zero zero_extent in_grid bit_of used step steps key_of key_bits_of too_many_bits no_cell key_checks key_answer digit_byte digits count_to digit_count decimal shard_digits file_name allowed hashed_id minishard_of shard_of
paper_case = (refl, refl)
