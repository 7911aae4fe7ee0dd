-- The line that `locate` prints for a cell (RULES C7).
use Rattle.std.specs.Prelude.{ℕ, List, [], ◌∷◌, ◌++◌, Ok, Err}
use Rattle.refusal.specs.Choice.{pick}
use Rattle.morton.specs.Answers.{key_answer}
use Rattle.morton.specs.grid.Grid.{in_grid}
use Rattle.morton.specs.Key.{key_of}
use Rattle.morton.specs.declared.grid.Cell.{Cell}
use Rattle.morton.specs.declared.grid.Extents.{Extents}
use Rattle.refusal.specs.Answers.{Answer}
use Rattle.refusal.specs.Table.{number_of}
use Rattle.names.specs.digits.Digits.{decimal}
use Rattle.names.specs.Shards.{shard_name}
use Rattle.sharding.specs.placement.Place.{place_of}
use Rattle.sharding.specs.declared.placement.Place.{Place}
use Rattle.sharding.specs.declared.Sharding.{Sharding}
use Rattle.card.specs.declared.Card.{Card}

-- a number that ends a line: byte 10 is the line's end
unfoldable pub ending : ℕ → List ℕ
ending n = decimal n ++ (10 ∷ [])

-- `refused N`
abbrev pub refused_word : List ℕ
refused_word = 114 ∷ 101 ∷ 102 ∷ 117 ∷ 115 ∷ 101 ∷ 100 ∷ 32 ∷ []

unfoldable pub refused_line : ℕ → List ℕ
refused_line n = refused_word ++ ending n

-- "key, shard file and minishard", with a space, byte 32, between
unfoldable pub filed : Sharding → Place → List ℕ
filed spec p = shard_name spec p.shard ++ (32 ∷ ending p.minishard)

unfoldable pub keyed : Sharding → ℕ → Place → List ℕ
keyed spec key p = decimal key ++ (32 ∷ filed spec p)

-- "or `refused N`"
unfoldable pub line_for : Sharding → Answer ℕ → List ℕ
line_for spec (Ok key) = keyed spec key (place_of spec key)
line_for spec (Err n) = refused_line (number_of n)

unfoldable pub line_of : Card → Cell → List ℕ
line_of card cell = line_for card.sharding (key_answer card.volume cell)

-- ---- what the functions compute, of a card that was judged

-- a cell's line, given the grid
unfoldable pub line_in : Sharding → Extents → Cell → List ℕ
line_in spec g cell = pick (in_grid g cell) (keyed spec (key_of g cell) (place_of spec (key_of g cell))) (refused_line 2)

-- the most that a line needs
abbrev pub line_room : ℕ
line_room = 64
