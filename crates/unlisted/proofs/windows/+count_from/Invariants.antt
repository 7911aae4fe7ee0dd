-- The measure is the number of bytes.
use Rattle.unlisted.proofs.windows.+count_from.Given as goal

abbrev pub decreases-count_from : goal.decreases-count_from
decreases-count_from l = l.w
