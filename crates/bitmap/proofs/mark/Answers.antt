use Rattle.bitmap.proofs.Marks.{range-one, range-some}
use Rattle.bitmap.proofs.mark.Goals as goal

pub returns-then-first-last : goal.returns-then-first-last
returns-then-first-last c = search range-one

pub returns : goal.returns
returns c = search range-some
