-- The place of an id across the C border: what the two lent numbers hold afterwards.
use Rattle.std.specs.Prelude.{ℕ}
use Rattle.sharding.specs.declared.placement.Place.{Place}
use Rattle.refusal.specs.Answers.{Answer}
use Rattle.sharding.specs.placement.Place.{place_result}
use Rattle.coronagamba.specs.word.Word.{after}

unfoldable pub shard_after : Answer Place → ℕ → ℕ
shard_after a before = after (λ (place : Place). place.shard) (place_result a) before

unfoldable pub minishard_after : Answer Place → ℕ → ℕ
minishard_after a before = after (λ (place : Place). place.minishard) (place_result a) before
