-- The measure is the number of entries: only the first 2^16 of more are searched by a call of itself.
use Rattle.duplicate_ids.proofs.+search.Given as goal

abbrev pub decreases-search : goal.decreases-search
decreases-search l = l.n
