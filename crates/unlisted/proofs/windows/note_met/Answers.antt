use Rattle.unlisted.proofs.windows.Noting.{item_early, item_late}
use Rattle.unlisted.proofs.windows.note_met.Goals as goal

pub returns-then-start-lo : goal.returns-then-start-lo
returns-then-start-lo c = search item_early

pub returns : goal.returns
returns c = search item_late
