use borrow.Author.Rules.{rules}
use Rattle.bitmap.proofs.window.Windows.{group_none, group_some}
use Rattle.bitmap.proofs.window.open_in.Goals as goal

pub returns-then-is_marked : goal.returns-then-is_marked
returns-then-is_marked c = (search group_none, search rules)

pub returns : goal.returns
returns c = (search group_some, search rules)
