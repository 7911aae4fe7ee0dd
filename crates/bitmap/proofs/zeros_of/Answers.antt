use borrow.Author.Rules.{rules}
use Rattle.bitmap.proofs.Marks.{open_fits}
use Rattle.bitmap.proofs.zeros_of.Goals as goal

pub overflow_add-total : goal.overflow_add-total
overflow_add-total c = search (open_fits, rules)
