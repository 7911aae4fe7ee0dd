-- What the program `locate` prints for its whole input (RULES C7).
use Rattle.std.specs.Prelude.{ℕ, ◌+◌, ◌/◌, ◌%◌, List, [], ◌∷◌, ◌++◌, eqb, length, take, drop, Ok, Err}
use Rattle.refusal.specs.Choice.{pick}
use Rattle.endian.specs.Little.{le_at}
use Rattle.morton.specs.declared.grid.Cell.{Cell}
use Rattle.card.specs.declared.Card.{Card}
use Rattle.refusal.specs.Answers.{Answer, refuse}
use Rattle.refusal.specs.Table.{number_of}
use Rattle.card.specs.Answers.{read_answer}
use Rattle.locate.specs.lines.Lines.{refused_line, line_of}
use Rattle.locate.specs.lines.Cells.{lines_by}

-- `cut` and the line's end
abbrev pub cut_line : List ℕ
cut_line = 99 ∷ 117 ∷ 116 ∷ 10 ∷ []

-- "a leftover of 1 to 11 bytes prints `cut`"
unfoldable pub cut_after : List ℕ → List ℕ
cut_after s = pick (eqb (length s % 12) 0) [] cut_line

-- what is printed for all that follows a card
unfoldable pub text_by : (Cell → List ℕ) → List ℕ → List ℕ
text_by line s = lines_by line (length s / 12) s 0 ++ cut_after s

unfoldable pub cells_text : Card → List ℕ → List ℕ
cells_text card s = text_by (line_of card) s

-- the card of n bytes, n as the input gives it: "a card [..] cut short counts as 14"
unfoldable pub framed : ℕ → List ℕ → Answer Card
framed n s = pick (eqb (length s) n) (read_answer s) (refuse 14)

-- "A refused card prints one such line and ends"
unfoldable pub printed : Answer Card → List ℕ → List ℕ
printed (Ok card) rest = cells_text card rest
printed (Err n) rest = refused_line (number_of n)

-- what the program prints for its whole input: "a two-byte little-endian card length, the card, then cells"; where the
-- length is cut short, no byte of a card is left (RULES C7)
unfoldable pub output : List ℕ → List ℕ
output s =
    let n = le_at 2 s 0 in
    printed (framed n (take n (drop 2 s))) (drop (2 + n) s)
