-- Measures and sheets across the border. Each law has the shape of a need.
use Prim.Native.Nat.{ℕ, ◌+◌, ◌<◌}
use mathlib.Core.Path.{◌≡◌, refl, sym, ◌∙◌}
use mathlib.Core.List.{List}
use mathlib.Core.Option.{some}
use borrow.Author.Rules.{rules}
use Rattle.sharding.specs.declared.Sharding.{Sharding}
use Rattle.shard.specs.declared.CheckAnswer.TheVariants as C
use Rattle.shard.specs.File.{index_part, data_part, check_answer}
use Rattle.split_shard.specs.Answers.{pair_check}
use Rattle.holdings.specs.declared.measures.Counts.{Counts}
use Rattle.holdings.specs.declared.measures.MeasureAnswer.{MeasureAnswer}
use Rattle.holdings.specs.declared.measures.MeasureAnswer.TheVariants as M
use Rattle.holdings.specs.measures.Answers.{measure_answer, pair_measure, measure_result}
use Rattle.holdings.proofs.measures.Answered.{named-fault}
use Rattle.holdings.specs.declared.one_shard.Sheet.{Sheet}
use Rattle.std.specs.Prelude.{Ok, Err}
use Rattle.refusal.specs.declared.Refusal.{Refusal}
use Rattle.refusal.specs.Table.{number_of}
use Rattle.refusal.specs.Answers.{Answer}
use Rattle.holdings.specs.one_shard.Sheet.{rows}
use Rattle.holdings.specs.Answers.{sheet_result}
use Rattle.coronagamba.specs.word.Word.{word, word_of}
use Rattle.coronagamba.specs.Sheets.{counts_of, counts_after_of, rows_after}
use Rattle.coronagamba.proofs.Told.{word-success, word-refused, word_in, after}
use Rattle.coronagamba.proofs.Checked.{minishard-fits, check-fits}
use Rattle.coronagamba.proofs.Paired.{pair-minishard-fits, pair-check-fits}

-- ---- the measure

-- a fault that it names is the check's
module _ (spec : Sharding) (shard : ℕ) {a : MeasureAnswer} {k m p : ℕ} where
  module _ (file : List ℕ) (e : a ≡ measure_answer spec shard file) (h : a ≡ M.Faulty k m p) where
    named : check_answer spec shard file ≡ C.Faulty k m p
    unfolding measure_answer
    named = named-fault spec (index_part spec file) (data_part spec file) (check_answer spec shard file) (sym e ∙ h)

    pub measure-minishard-fits : m + 1 < 16777216
    measure-minishard-fits = minishard-fits spec shard file refl named

    pub measure-fits : p + 1 < 4294967296
    measure-fits = check-fits spec shard file refl named

  module _ (index d : List ℕ) (e : a ≡ pair_measure spec shard index d) (h : a ≡ M.Faulty k m p) where
    pair-named : pair_check spec shard index d ≡ C.Faulty k m p
    unfolding pair_measure
    pair-named = named-fault spec index d (pair_check spec shard index d) (sym e ∙ h)

    pub pair-measure-minishard-fits : m + 1 < 16777216
    pair-measure-minishard-fits = pair-minishard-fits spec shard index d refl pair-named

    pub pair-measure-fits : p + 1 < 4294967296
    pair-measure-fits = pair-check-fits spec shard index d refl pair-named

pub ruleset fitting = (measure-minishard-fits, measure-fits, pair-measure-minishard-fits, pair-measure-fits, rules)

module _ {a b : MeasureAnswer} (e : b ≡ a) where
  pub measure-given : {k : Counts} → b ≡ M.Sound k → 0 ≡ word_of (measure_result a)
  measure-given h = word-success measure_result e h refl

  pub measure-refused : {k : ℕ} → b ≡ M.Refused k → k ≡ word_of (measure_result a)
  measure-refused h = word-refused measure_result e h refl

  pub measure-faulty : {k m p r : ℕ} → r ≡ word k (some m) (some p) → b ≡ M.Faulty k m p → r ≡ word_of (measure_result a)
  measure-faulty w h = word_in measure_result e h w refl

  pub counts-given : (x : List ℕ) {k : Counts} {s : List ℕ} → s ≡ counts_of k → b ≡ M.Sound k → s ≡ counts_after_of a x
  unfolding counts_after_of
  counts-given x q h = q ∙ after counts_after_of x e h

  pub counts-refused : (x : List ℕ) {k : ℕ} → b ≡ M.Refused k → x ≡ counts_after_of a x
  unfolding counts_after_of
  counts-refused x h = after counts_after_of x e h

  pub counts-faulty : (x : List ℕ) {k m p : ℕ} → b ≡ M.Faulty k m p → x ≡ counts_after_of a x
  unfolding counts_after_of
  counts-faulty x h = after counts_after_of x e h

pub ruleset measuring = (measure-given, measure-refused, measure-faulty, counts-given, counts-refused, counts-faulty, rules)

-- ---- the sheet

module _ {a b : Answer Sheet} (e : b ≡ a) where
  pub sheet-given : {s : Sheet} → b ≡ Ok s → 0 ≡ word_of (sheet_result a)
  sheet-given h = word-success sheet_result e h refl

  pub sheet-refused : {k : Refusal} {n : ℕ} → b ≡ Err k → n ≡ number_of k → n ≡ word_of (sheet_result a)
  sheet-refused h m = m ∙ word-refused sheet_result e h refl

  pub rows-given : (x : List ℕ) {s : Sheet} {r : List ℕ} → r ≡ rows s → b ≡ Ok s → r ≡ rows_after a x
  unfolding rows_after
  rows-given x q h = q ∙ after rows_after x e h

  pub rows-refused : (x : List ℕ) {k : Refusal} → b ≡ Err k → x ≡ rows_after a x
  unfolding rows_after
  rows-refused x h = after rows_after x e h

pub ruleset adding = (sheet-given, sheet-refused, rows-given, rows-refused, rules)
