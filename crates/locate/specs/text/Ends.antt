-- What is told of an input that could not be read on (RULES C7).
use Rattle.std.specs.Prelude.{ℕ, ◌-◌, ◌%◌, Bool}
use Rattle.refusal.specs.Choice.{pick}

-- how many of a block's bytes are told: where the input could not be read on, those of whole cells, so that no `cut` is printed
unfoldable pub told_bytes : ℕ → Bool → ℕ
told_bytes got readable = pick readable got (got - got % 12)
