-- What the count of unlisted bytes answers: the refusals of the check, those of a minishard with their position, or the count (RULES U4).
use Rattle.std.specs.Prelude.{ℕ, List}
use Rattle.refusal.specs.Checks.{answered_at}
use Rattle.sharding.specs.declared.Sharding.{Sharding}
use Rattle.shard.specs.File.{shard_checks}
use Rattle.refusal.specs.declared.CountAnswer.{CountAnswer}
use Rattle.refusal.specs.declared.CountAnswer.TheVariants.{Count, Refused, Faulty}
use Rattle.unlisted.specs.ranges.Covered.{file_unlisted}

unfoldable pub unlisted_answer : Sharding → ℕ → List ℕ → CountAnswer
unlisted_answer spec shard file = answered_at Refused Faulty (shard_checks spec shard file) (Count (file_unlisted spec file))
