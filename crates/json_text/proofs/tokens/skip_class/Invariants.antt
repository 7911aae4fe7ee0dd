-- What is kept: the bytes from `at` up to i are in the class.
use Rattle.std.proofs.Common.{ℕ, ◌≤◌, ◌<◌, true, get_or}
use Rattle.json_text.proofs.tokens.skip_class.Given as goal

abbrev pub invariant-loop-i : goal.invariant-loop-i
invariant-loop-i g l = (k : ℕ) → l.at ≤ k → k < l.i → goal.F-post g l.class (get_or l.s k 0) true
