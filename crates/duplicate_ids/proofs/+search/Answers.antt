use Rattle.std.proofs.Common.{arith}
use Rattle.duplicate_ids.proofs.Soon.{twice_soon}
use Rattle.duplicate_ids.proofs.+search.Goals as goal

pub returns-then-soon-few : goal.returns-then-soon-few
returns-then-soon-few t c = twice_soon _ _ _ c.search-soon.ensures c.if-soon-few.true (omega arith)
