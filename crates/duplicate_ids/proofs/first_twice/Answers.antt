-- None where the ids rise; the first that stays; else the passes.
use Rattle.duplicate_ids.proofs.ids.Rises.{none-twice, stays_twice}
use Rattle.duplicate_ids.proofs.first_twice.Goals as goal

pub returns-then-n-k : goal.returns-then-n-k
returns-then-n-k c = search none-twice

pub returns-then-stays : goal.returns-then-stays
returns-then-stays c = search stays_twice
