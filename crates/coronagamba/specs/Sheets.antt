-- Measures and sheets across the C border: what the lent numbers hold afterwards.
use Rattle.std.specs.Prelude.{ℕ, List, [], ◌∷◌}
use Rattle.holdings.specs.declared.measures.Counts.{Counts}
use Rattle.holdings.specs.declared.measures.MeasureAnswer.{MeasureAnswer}
use Rattle.holdings.specs.declared.one_shard.Sheet.{Sheet}
use Rattle.refusal.specs.Answers.{Answer}
use Rattle.holdings.specs.measures.Answers.{measure_result}
use Rattle.holdings.specs.one_shard.Sheet.{rows}
use Rattle.holdings.specs.Answers.{sheet_result}
use Rattle.coronagamba.specs.word.Word.{after}

-- ---- the measure of a shard

-- chunks, their bytes, unlisted bytes, settled length
abbrev pub counts_of : Counts → List ℕ
counts_of counts = counts.chunks ∷ counts.bytes ∷ counts.unlisted ∷ counts.settled ∷ []

unfoldable pub counts_after_of : MeasureAnswer → List ℕ → List ℕ
counts_after_of a before = after counts_of (measure_result a) before

-- ---- the sheet

unfoldable pub rows_after : Answer Sheet → List ℕ → List ℕ
rows_after a before = after rows (sheet_result a) before
