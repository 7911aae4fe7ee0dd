-- A range of a pair across the C border: what the lent numbers hold afterwards.
use Rattle.std.specs.Prelude.{ℕ}
use Rattle.split_shard.specs.declared.held_range.RangeAnswer.{RangeAnswer}
use Rattle.split_shard.specs.seam.Range.{range_result}
use Rattle.coronagamba.specs.word.Word.{after}

unfoldable pub file_after : RangeAnswer → ℕ → ℕ
file_after a before = after (λ (v : ℕ × ℕ × ℕ). v.0) (range_result a) before

unfoldable pub place_after : RangeAnswer → ℕ → ℕ
place_after a before = after (λ (v : ℕ × ℕ × ℕ). v.1) (range_result a) before

unfoldable pub range_after : RangeAnswer → ℕ → ℕ
range_after a before = after (λ (v : ℕ × ℕ × ℕ). v.2) (range_result a) before
