use Rattle.unlisted.proofs.rising_walk.Parts.{stretch_over}
use Rattle.unlisted.proofs.rising_walk.over_items.Goals as goal

pub returns-then-stretch : goal.returns-then-stretch
returns-then-stretch c = search stretch_over
