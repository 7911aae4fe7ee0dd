-- Shards whose ranges share no byte (RULES U9).
use Rattle.std.specs.Prelude.{ℕ, ◌≡◌, List}
use Rattle.sharding.specs.declared.Sharding.{Sharding}
use Rattle.shard.specs.File.{index_part, data_part}
use Rattle.unlisted.specs.ranges.Ranges.{Range, LiesIn}

-- "listed chunks, fragments and nonempty minishard indexes share no byte": no position lies in two different ones. None lies in an empty one, which so
-- shares with nobody
pub record RangesApart (spec : Sharding) (index d : List ℕ) : Type 0 where
  pub never : (one other : Range) → (one ≡ other → ⊥) → (p : ℕ) → LiesIn spec index d one p → LiesIn spec index d other p → ⊥

-- those of a file (RULES U9)
abbrev pub SharesNone : Sharding → List ℕ → Type 0
SharesNone spec file = RangesApart spec (index_part spec file) (data_part spec file)
