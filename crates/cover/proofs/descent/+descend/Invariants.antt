-- The measure is how many key bits are left: one fewer at each call.
use Rattle.cover.proofs.descent.+descend.Given as goal

abbrev pub decreases-descend : goal.decreases-descend
decreases-descend l = l.bits
