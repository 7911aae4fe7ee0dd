use Rattle.unlisted.proofs.windows.Noting.{window_some, window_none}
use Rattle.unlisted.proofs.windows.note_range.Goals as goal

pub returns-then-x-y : goal.returns-then-x-y
returns-then-x-y c = search window_some

pub returns-else-x-y : goal.returns-else-x-y
returns-else-x-y c = search window_none
