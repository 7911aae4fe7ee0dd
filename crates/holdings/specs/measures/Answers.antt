-- What the measuring call answers: the refusals of the check, 27 where the sizes of the chunks together pass 2^64 - 1, or the measure (RULES H1).
use Rattle.std.specs.Prelude.{ℕ, List, [], ◌∷◌}
use Rattle.refusal.specs.Checks.{check, answered}
use Rattle.refusal.specs.Result.{Result, success, refused, faulty_in}
use Rattle.sharding.specs.declared.Sharding.{Sharding}
use Rattle.shard.specs.declared.CheckAnswer.{CheckAnswer}
use Rattle.shard.specs.declared.CheckAnswer.TheVariants as C
use Rattle.shard.specs.File.{index_part, data_part, check_answer}
use Rattle.split_shard.specs.Answers.{pair_check}
use Rattle.holdings.specs.chunk_sums.Totals.{passes}
use Rattle.holdings.specs.declared.measures.Counts.{Counts}
use Rattle.holdings.specs.declared.measures.MeasureAnswer.{MeasureAnswer}
use Rattle.holdings.specs.declared.measures.MeasureAnswer.TheVariants.{Sound, Refused, Faulty}
use Rattle.holdings.specs.measures.Measures.{chunk_bytes, measure_of}

-- of a shard of two parts that passed the check
unfoldable pub measured_in : Sharding → List ℕ → List ℕ → MeasureAnswer
measured_in spec index d = answered Refused (check 27 (passes (chunk_bytes spec index d)) ∷ []) (Sound (measure_of spec index d))

-- what the check refuses is refused; else what follows
unfoldable pub after_verdict : CheckAnswer → MeasureAnswer → MeasureAnswer
after_verdict C.Sound a = a
after_verdict (C.Refused k) a = Refused k
after_verdict (C.Faulty k m p) a = Faulty k m p

-- of a file (RULES H1)
unfoldable pub measure_answer : Sharding → ℕ → List ℕ → MeasureAnswer
measure_answer spec shard file = after_verdict (check_answer spec shard file) (measured_in spec (index_part spec file) (data_part spec file))

-- of a pair: the index file is the shard index where the check passes, else 23 (RULES P1) (RULES H1)
unfoldable pub pair_measure : Sharding → ℕ → List ℕ → List ℕ → MeasureAnswer
pair_measure spec shard index d = after_verdict (pair_check spec shard index d) (measured_in spec index d)

abbrev pub measure_result : MeasureAnswer → Result Counts
measure_result (Sound counts) = success counts
measure_result (Refused k) = refused k
measure_result (Faulty k m p) = faulty_in k m p
