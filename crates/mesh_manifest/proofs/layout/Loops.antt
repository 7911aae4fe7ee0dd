-- What the loops need: laws of tests and sums over a range.
use borrow.Author.Rules.{rules}
use Rattle.endian.proofs.Ranges.{every-none, every_more, every-fails, every-done, sum-none, sum_more, sum_done}

pub ruleset loops = (every-none, every_more, every-fails, every-done, sum-none, sum_more, sum_done, rules)
