use mathlib.Core.Path.{◌∙◌}
use borrow.Author.Rules.{rules}
use Rattle.bitmap.proofs.Words.{zeros_turned}
use Rattle.bitmap.proofs.zeros.Goals as goal

pub returns : goal.returns
returns c = (c.from.ensures ∙ c.count_zeros.ensures.value ∙ zeros_turned 64 c.args.word c.ranges.word.fits, search rules)
