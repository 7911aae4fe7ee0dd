-- A number of the rows, at its place.
use Rattle.std.proofs.Common.{ap, ◌∙◌, arith, rules}
use Rattle.endian.specs.Little.{le_at}
use Rattle.lookup.proofs.row_judge.size_of.Goals as goal

pub returns : goal.returns
returns c = (c.read_u64.ensures.0 ∙ ap (le_at 8 _) (omega arith), search rules)
