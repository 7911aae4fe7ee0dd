-- Numbers that may pass 64 bits, below a limit that does not.
use Rattle.std.specs.Prelude.{ℕ, ltb, Option, Some, None}
use Rattle.refusal.specs.Choice.{pick}

unfoldable pub sum_below : ℕ → ℕ → Option ℕ
sum_below n limit = pick (ltb n limit) (Some n) None
