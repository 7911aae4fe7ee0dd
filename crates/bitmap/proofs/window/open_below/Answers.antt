use borrow.Author.Rules.{rules}
use Rattle.bitmap.proofs.window.Windows.{below-counted}
use Rattle.bitmap.proofs.window.open_below.Goals as goal

pub returns : goal.returns
returns c = (search below-counted, search rules)
