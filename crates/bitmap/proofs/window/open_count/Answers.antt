use borrow.Author.Rules.{rules}
use Rattle.bitmap.proofs.window.Windows.{tally_fits}
use Rattle.bitmap.proofs.window.open_count.Goals as goal

pub overflow_add-total : goal.overflow_add-total
overflow_add-total c = search (tally_fits, rules)
