use Rattle.unlisted.specs.ranges.Ranges.{count_in}
use Rattle.holdings.proofs.chunk_sums.Counting.{Adding}
use Rattle.holdings.proofs.chunk_sums.chunk_count.Given as goal

abbrev pub invariant-loop-m : goal.invariant-loop-m
invariant-loop-m l = Adding (count_in l.index) l.n l.m l.sum
