-- The readers of cards as they were before order 7 and before order 4, in the old reading rooms, and the bytes of a card as they were.
-- No code uses them. They are kept to say what these readers answer to the cards that are written now (RULES C6).
use Rattle.std.specs.Prelude.{ℕ, ◌<◌, ◌≤◌, ◌≡◌, Bool, true, false, not, ◌&&◌, List, [], ◌∷◌, ◌++◌, eqb, length, get_or, Ok}
use Rattle.refusal.specs.Choice.{pick}
use Rattle.refusal.specs.Checks.{Check, check, answered}
use Rattle.morton.specs.grid.Grid.{grid_of, zero_extent}
use Rattle.morton.specs.Key.{too_many_bits}
use Rattle.morton.specs.declared.grid.Offset.{Offset}
use Rattle.sharding.specs.declared.Sharding.{Sharding}
use Rattle.sharding.specs.Specification.{volume, mesh, most_minishard_bits, minishard_bits_of}
use Rattle.sharding.specs.Before.{most_minishard_bits_before, allowed_before}
use Rattle.card.specs.declared.Card.{Card}
use Rattle.refusal.specs.Answers.{Answer, refuse}
use Rattle.card.specs.Layout.{sharding_bytes, volume_bytes}
use Rattle.card.specs.fields.Fields.{six_fields, offset_field, card_offset_at}
use Rattle.card.specs.Reading.{card_extents_at, zeros, kind_in, card_sharding}
use Rattle.card.specs.form.Form.{well_formed}
use Rattle.card.specs.Answers.{record_checks}

-- ---- before order 7: seven tags, and volumes, since there was no other kind

unfoldable pub card_bytes_before_mesh : Card → List ℕ
card_bytes_before_mesh c = sharding_bytes c.sharding ++ volume_bytes c.volume

-- "A card has 46 or 61 bytes", without an offset or with one; "all else is refused"
unfoldable pub well_formed_before_mesh : List ℕ → Bool
well_formed_before_mesh s = pick (eqb (length s) 46) (six_fields s) (pick (eqb (length s) 61) (six_fields s && offset_field s) false)

unfoldable pub sharding_in_before_mesh : List ℕ → Sharding
sharding_in_before_mesh s =
    record { preshift = get_or s 3 0; hash = get_or s 7 0; minishard_bits = get_or s 11 0; shard_bits = get_or s 15 0; kind = volume }

unfoldable pub offset_in_before_mesh : List ℕ → Offset
offset_in_before_mesh s = pick (eqb (length s) 46) zeros (card_offset_at s 49)

unfoldable pub card_in_before_mesh : List ℕ → Card
card_in_before_mesh s =
    record {
      sharding = sharding_in_before_mesh s;
      volume = record { size = card_extents_at s 19; chunk = card_extents_at s 34; offset = offset_in_before_mesh s };
    }

unfoldable pub read_checks_before_mesh : List ℕ → List Check
read_checks_before_mesh s = check 14 (not (well_formed_before_mesh s)) ∷ record_checks (card_in_before_mesh s)

-- RULES C6
unfoldable pub read_answer_before_mesh : List ℕ → Answer Card
read_answer_before_mesh s = answered refuse (read_checks_before_mesh s) (Ok (card_in_before_mesh s))

-- what that reader did not know: a card with tag 8
pub record MeshCard (s : List ℕ) : Type 0 where
  pub formed : well_formed s ≡ true
  pub kind : kind_in s ≡ mesh

-- ---- before order 4: the same form, and 1 above 12 minishard bits

unfoldable pub record_checks_before : Card → List Check
record_checks_before c =
    check 1 (not (allowed_before c.sharding))
    ∷ check 2 (zero_extent c.volume)
    ∷ check 3 (too_many_bits (grid_of c.volume))
    ∷ []

unfoldable pub read_checks_before : List ℕ → List Check
read_checks_before s = check 14 (not (well_formed_before_mesh s)) ∷ record_checks_before (card_in_before_mesh s)

-- RULES C6
unfoldable pub read_answer_before : List ℕ → Answer Card
read_answer_before s = answered refuse (read_checks_before s) (Ok (card_in_before_mesh s))

-- what that reader did not know of volumes: a card with 13 to 16 minishard bits
pub record NewCard (s : List ℕ) : Type 0 where
  pub formed : well_formed s ≡ true
  pub kind : kind_in s ≡ volume
  pub above : most_minishard_bits_before < minishard_bits_of (card_sharding s)
  pub within : minishard_bits_of (card_sharding s) ≤ most_minishard_bits
