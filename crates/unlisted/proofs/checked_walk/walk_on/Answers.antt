use Rattle.unlisted.proofs.rising_walk.Runs.{extends_broken}
use Rattle.unlisted.proofs.checked_walk.walk_on.Goals as goal

pub returns-then-run-eq-BROKEN : goal.returns-then-run-eq-BROKEN
returns-then-run-eq-BROKEN c = search extends_broken
