-- The end of an input, as a read tells it (RULES C7, H5).
use Rattle.std.specs.Prelude.{ℕ, Bool, false, eqb, Option, Some, None}

-- what a read of one byte more answers at the input's end: that none came; a read that fails answers nothing
abbrev pub is_end : Option ℕ → Bool
is_end (Some n) = eqb n 0
is_end None = false
