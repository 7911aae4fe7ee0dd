-- What reading and writing a deposit card answer.
use Rattle.std.specs.Prelude.{ℕ, not, List, [], ◌∷◌, ◌++◌, length, Ok, Err}
use Rattle.refusal.specs.Checks.{Check, check, first_number, answered, left}
use Rattle.refusal.specs.Result.{Result, success, refused}
use Rattle.refusal.specs.Buffer.{room, over}
use Rattle.refusal.specs.Answers.{Answer, refuse}
use Rattle.refusal.specs.Table.{number_of}
use Rattle.morton.specs.grid.Grid.{grid_of, zero_extent}
use Rattle.morton.specs.Key.{too_many_bits}
use Rattle.sharding.specs.Specification.{allowed}
use Rattle.card.specs.declared.Card.{Card}
use Rattle.card.specs.Layout.{card_bytes}
use Rattle.card.specs.form.Form.{well_formed}
use Rattle.card.specs.Reading.{card_in}

-- 1, 2 and 3 of what a card says (RULES C4)
unfoldable pub record_checks : Card → List Check
record_checks c =
    check 1 (not (allowed c.sharding))
    ∷ check 2 (zero_extent c.volume)
    ∷ check 3 (too_many_bits (grid_of c.volume))
    ∷ []

-- the first of them that holds, or 0
abbrev pub fault : Card → ℕ
fault c = first_number (record_checks c)

-- "In a card, 14 precedes 1 and 2, and 3 comes after them." (RULES C4)
unfoldable pub read_checks : List ℕ → List Check
read_checks s = check 14 (not (well_formed s)) ∷ record_checks (card_in s)

unfoldable pub read_answer : List ℕ → Answer Card
read_answer s = answered refuse (read_checks s) (Ok (card_in s))

abbrev pub card_result : Answer Card → Result Card
card_result (Ok card) = success card
card_result (Err k) = refused (number_of k)

-- writing: 1, 2, 3, then 13 (RULES C4)
unfoldable pub write_checks : Card → List ℕ → List Check
write_checks c out = record_checks c ++ (room (card_bytes c) out ∷ [])

-- it answers the card's length
unfoldable pub write_answer : Card → List ℕ → Answer ℕ
write_answer c out = answered refuse (write_checks c out) (Ok (length (card_bytes c)))

-- and leaves the card at the front of the buffer
unfoldable pub write_left : Card → List ℕ → List ℕ
write_left c out = left (write_checks c out) (over (card_bytes c) out) out
