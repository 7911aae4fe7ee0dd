-- What adding to a sheet and joining two sheets answer: the new sheet, or "27 a total would pass 2^64-1" (RULES H2, H3). The caller keeps the sheet
-- that was: refused, it "stays as before that shard".
use Rattle.std.specs.Prelude.{ℕ, List, [], ◌∷◌, eqb, Ok, Err}
use Rattle.refusal.specs.Choice.{pick}
use Rattle.refusal.specs.Checks.{check, answered}
use Rattle.refusal.specs.Result.{Result, success, refused}
use Rattle.sharding.specs.declared.Sharding.{Sharding}
use Rattle.shard.specs.File.{check_answer}
use Rattle.split_shard.specs.Answers.{pair_check}
use Rattle.holdings.specs.declared.measures.MeasureAnswer.{MeasureAnswer}
use Rattle.holdings.specs.declared.measures.MeasureAnswer.TheVariants as M
use Rattle.holdings.specs.measures.Measures.{measure_of, file_measure}
use Rattle.holdings.specs.declared.one_shard.Sheet.{Sheet}
use Rattle.refusal.specs.Answers.{Answer, refuse}
use Rattle.refusal.specs.Table.{number_of}
use Rattle.holdings.specs.one_shard.Sheet.{rows, sound_sheet, refused_sheet, shard_sheet}
use Rattle.holdings.specs.totals.Totals.{any_passes, both}

-- two sheets together (RULES H3)
unfoldable pub join_answer : Sheet → Sheet → Answer Sheet
join_answer a b = answered refuse (check 27 (any_passes (rows (both a b))) ∷ []) (Ok (both a b))

abbrev pub sheet_result : Answer Sheet → Result Sheet
sheet_result (Ok sheet) = success sheet
sheet_result (Err k) = refused (number_of k)

-- the sheet of one shard, and a sheet with it
unfoldable pub sheet_of : Sharding → ℕ → List ℕ → Sheet
sheet_of spec shard file = shard_sheet (check_answer spec shard file) (file_measure spec file)

-- RULES H2, H3
unfoldable pub add_answer : Sheet → Sharding → ℕ → List ℕ → Answer Sheet
add_answer sheet spec shard file = join_answer sheet (sheet_of spec shard file)

-- the same of a pair
unfoldable pub pair_sheet : Sharding → ℕ → List ℕ → List ℕ → Sheet
pair_sheet spec shard index d = shard_sheet (pair_check spec shard index d) (measure_of spec index d)

-- RULES H2
unfoldable pub pair_add_answer : Sheet → Sharding → ℕ → List ℕ → List ℕ → Answer Sheet
pair_add_answer sheet spec shard index d = join_answer sheet (pair_sheet spec shard index d)

-- ---- as the code has it: a sheet with a shard of this measure

unfoldable pub measured_answer : Sheet → MeasureAnswer → Answer Sheet
measured_answer sheet (M.Sound counts) = join_answer sheet (sound_sheet counts)
measured_answer sheet (M.Refused number) = pick (eqb number 27) (refuse 27) (join_answer sheet (refused_sheet number))
measured_answer sheet (M.Faulty number minishard position) = join_answer sheet (refused_sheet number)
