use Rattle.unlisted.proofs.stretches.Walk.{lead-none}
use Rattle.unlisted.proofs.stretches.item_start.Goals as goal

pub returns-then-not-has_leads : goal.returns-then-not-has_leads
returns-then-not-has_leads c = search lead-none
