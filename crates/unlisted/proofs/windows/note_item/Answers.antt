use Rattle.unlisted.proofs.windows.Noting.{item-apart}
use Rattle.unlisted.proofs.windows.note_item.Goals as goal

pub returns-else-meets : goal.returns-else-meets
returns-else-meets c = search item-apart
