-- What the functions that read promise.
use Rattle.std.specs.Prelude.{ℕ, ◌≤◌, ◌≡◌, Bool, true, ◌&&◌, List, eqb, length, take, Option}
use Rattle.refusal.specs.Choice.{pick}
use Rattle.refusal.specs.Buffer.{over}
use Rattle.card.specs.declared.Card.{Card}
use Rattle.locate.specs.text.Output.{cells_text, framed}
use Rattle.locate.specs.text.Blocks.{card_length, block_bytes}
use Rattle.reading.specs.End.{is_end}
use Rattle.locate.specs.text.Ends.{told_bytes}
use Rattle.locate.specs.declared.Came.{Came}
use Rattle.locate.specs.declared.Block.{Block}
use Rattle.locate.specs.declared.Start.{Start}

-- the input could be read: all bytes came that were asked for, or one read more answered that there is none (RULES C7)
pub record Readable (got asked : ℕ) (r : Bool) : Type 0 where
  pub answer : Option ℕ
  pub made : r ≡ pick (eqb got asked) true (is_end answer)

-- of the bytes of a block: how many came, and how many of them are told
pub record CameInto (cells : List ℕ) (r : Came) : Type 0 where
  pub came : ℕ
  pub within : came ≤ length cells
  pub readable : Readable came block_bytes r.readable
  pub told : r.got ≡ told_bytes came r.readable
  pub most : r.got ≤ length cells

-- of a block: how many bytes of `cells` are told, how many of `text` are their lines, and that these stand there
pub record Located (card : Card) (cells before after : List ℕ) (b : Block) : Type 0 where
  pub came : CameInto cells (record { got = b.got; readable = b.readable })
  pub long : b.len ≡ length (cells_text card (take b.got cells))
  pub text : after ≡ over (cells_text card (take b.got cells)) before

-- and after a block there is another only where it was whole
pub record Printed (card : Card) (cells before after : List ℕ) (more : Bool) : Type 0 where
  pub block : Block
  pub located : Located card cells before after block
  pub whole : more ≡ true → block.got ≡ block_bytes

-- of a card of as many bytes as `body` has: it is what those of them say that were read
pub record Said (body : List ℕ) (r : Start) : Type 0 where
  pub got : ℕ
  pub within : got ≤ length body
  pub readable : Readable got (length body) r.readable
  pub said : r.card ≡ framed (length body) (take got body)

-- of the card whose length comes first: it has as many bytes as those that were read of `head` ask for
pub record Started (head body : List ℕ) (r : Start) : Type 0 where
  pub asked : ℕ
  pub got : ℕ
  pub said : r.card ≡ framed (card_length (take asked head)) (take got body)
  -- both parts could be read
  pub head_readable : Bool
  pub body_readable : Bool
  pub first : Readable asked 2 head_readable
  pub second : Readable got (card_length (take asked head)) body_readable
  pub readable : r.readable ≡ head_readable && body_readable
