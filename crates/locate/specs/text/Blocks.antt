-- The same, part by part as the program reads it: the card's length, the card, then blocks of cells.
use Rattle.std.specs.Prelude.{ℕ, zero, suc, ◌+◌, ◌/◌, ◌<◌, ◌≡◌, Bool, ◌||◌, ltb, eqb, length, take, drop, Ok, Err}
use mathlib.Core.List.{List, [], ◌∷◌, flat_map}
use Rattle.card.specs.declared.Card.{Card}
use Rattle.refusal.specs.Choice.{pick}
use Rattle.endian.specs.Little.{le_at}
use Rattle.refusal.specs.Answers.{Answer}
use Rattle.refusal.specs.Table.{number_of}
use Rattle.locate.specs.lines.Lines.{refused_line}
use Rattle.locate.specs.text.Output.{cells_text, framed, output}

-- "A card has 46 or 61 bytes", and "a mesh card has 50 or 65" (RULES C1)
unfoldable pub is_card_length : ℕ → Bool
is_card_length n = eqb n 46 || (eqb n 61 || (eqb n 50 || eqb n 65))

-- how many bytes to read as a card: as many as the length says where a card can have these, else none
unfoldable pub card_length : List ℕ → ℕ
card_length s = pick (ltb (length s) 2) 0 (pick (is_card_length (le_at 2 s 0)) (le_at 2 s 0) 0)

-- a block: a thousand cells
abbrev pub block_bytes : ℕ
block_bytes = 12000

-- n whole blocks, and the rest
unfoldable pub cut_into : ℕ → List ℕ → List (List ℕ)
cut_into zero s = s ∷ []
cut_into (suc n) s = take block_bytes s ∷ cut_into n (drop block_bytes s)

-- what follows the card as it is read: all whole blocks, and then a short one, which may be empty
unfoldable pub blocks_of : List ℕ → List (List ℕ)
blocks_of s = cut_into (length s / block_bytes) s

-- all blocks but the last are whole, and the last is short
abbrev pub LastIsShort : List (List ℕ) → Type 0
LastIsShort [] = ⊥
LastIsShort (b ∷ []) = length b < block_bytes
LastIsShort (b ∷ (c ∷ bs)) = (length b ≡ block_bytes) × LastIsShort (c ∷ bs)

-- the blocks' texts one after the other, or the line of the card's refusal
unfoldable pub printed_blocks : Answer Card → List (List ℕ) → List ℕ
printed_blocks (Ok card) blocks = flat_map (cells_text card) blocks
printed_blocks (Err n) blocks = refused_line (number_of n)

-- the input cut into the card's length, the card and blocks, and what is printed for these
unfoldable pub printed_parts : List ℕ → List ℕ
printed_parts s =
    let n = card_length (take 2 s) in
    printed_blocks (framed n (take n (drop 2 s))) (blocks_of (drop (2 + n) s))

-- What its parts print, whatever the input: one after the other it is `output`. The blocks are the bytes after the card,
-- none left out, and only the last is short. What no contract can say is that io hands over the input's bytes and prints
-- those that it is handed.
pub record Prints : Type 0 where
  pub parts : (s : List ℕ) → printed_parts s ≡ output s
  pub all : (s : List ℕ) → flat_map (λ b. b) (blocks_of s) ≡ s
  pub last : (s : List ℕ) → LastIsShort (blocks_of s)
