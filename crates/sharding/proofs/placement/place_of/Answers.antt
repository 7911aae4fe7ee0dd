-- By the answer of the test.
use Rattle.sharding.proofs.Allowed.{told-allowed}
use Rattle.sharding.proofs.placement.Placed.{answer_at, answer-refused}
use Rattle.sharding.proofs.placement.place_of.Goals as goal

pub place-requires : goal.place-requires
place-requires c = search told-allowed

pub returns-then-is_allowed : goal.returns-then-is_allowed
returns-then-is_allowed c = search answer_at

pub returns-else-is_allowed : goal.returns-else-is_allowed
returns-else-is_allowed c = search answer-refused
