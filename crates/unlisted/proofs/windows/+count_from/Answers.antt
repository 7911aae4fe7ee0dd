use Rattle.std.proofs.Common.{arith, rules}
use Rattle.unlisted.proofs.windows.Noting.{halves_counted, counted-most}
use Rattle.unlisted.proofs.windows.+count_from.Goals as goal

pub returns-then-w-le-SPAN : goal.returns-then-w-le-SPAN
returns-then-w-le-SPAN t c = (search rules, search counted-most)

pub returns : goal.returns
returns t c = (search halves_counted, omega arith)
