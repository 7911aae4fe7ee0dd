-- What joining and adding answer.
use Prim.Native.Nat.{ℕ, ◌+◌}
use mathlib.Core.Path.{◌≡◌, refl, sym, ◌∙◌}
use mathlib.Core.Bool.{Bool, true, false, or-true, false≢true}
use mathlib.Core.List.{List}
use borrow.Author.Rules.{rules}
use native.Mathlib.Omega.{arith}
use borrow.Author.Tests.{eq-eqb, ne_eqb, lt-ltb, ltb-true}
use Rattle.refusal.specs.Choice.{pick}
use Rattle.refusal.specs.Checks.{first_number, unless}
use Rattle.sharding.specs.declared.Sharding.{Sharding}
use Rattle.shard.specs.declared.CheckAnswer.{CheckAnswer}
use Rattle.shard.specs.declared.CheckAnswer.TheVariants as C
use Rattle.shard.specs.File.{index_part, data_part, check_answer}
use Rattle.split_shard.specs.Answers.{pair_check}
use Rattle.holdings.specs.declared.measures.Counts.{Counts}
use Rattle.holdings.specs.declared.measures.MeasureAnswer.{MeasureAnswer}
use Rattle.holdings.specs.declared.measures.MeasureAnswer.TheVariants as M
use Rattle.holdings.specs.measures.Measures.{chunk_bytes, measure_of}
use Rattle.holdings.specs.chunk_sums.Totals.{most_total, passes}
use Rattle.holdings.specs.measures.Answers.{measured_in, after_verdict, measure_answer, pair_measure}
use Rattle.holdings.proofs.measures.Answered.{measured-pick}
use Rattle.holdings.specs.declared.one_shard.Sheet.{Sheet}
use Rattle.std.specs.Prelude.{Ok}
use Rattle.refusal.specs.Answers.{Answer, refuse}
use Rattle.holdings.specs.one_shard.Sheet.{rows, from_rows_of, reporting, has_row, sound_sheet, refused_sheet, shard_sheet}
use Rattle.holdings.specs.totals.Totals.{added, any_passes, both, Totals}
use Rattle.holdings.specs.Answers.{join_answer, sheet_of, add_answer, pair_sheet, pair_add_answer, measured_answer}
use Rattle.holdings.proofs.one_shard.Numbers.{Told, check-told, pair-told}

-- ---- joining

module _ (a b : Sheet) where
  pub join_pick : join_answer a b ≡ pick (any_passes (rows (both a b))) (refuse 27) (Ok (both a b))
  unfolding join_answer first_number
  join_pick = go (any_passes (rows (both a b)))
    where
      go : (t : Bool) → unless refuse (pick t 27 0) (Ok (both a b)) ≡ pick t (refuse 27) (Ok (both a b))
      go true = unfold unless in refl
      go false = unfold unless in refl

pub rows_both : (a b : Sheet) → rows (both a b) ≡ added (rows a) (rows b)
unfolding both added rows from_rows_of
rows_both a b = refl

pub from-rows : (s : Sheet) → from_rows_of (rows s) ≡ s
unfolding rows from_rows_of
from-rows s = refl

module _ (a b : Sheet) {xs ys after : List ℕ} {t : Bool} (h : Totals xs ys after t) (p : xs ≡ rows a) (q : ys ≡ rows b) where
  same : added xs ys ≡ rows (both a b)
  same = rw (p, q) (sym (rows_both a b))

  pub join_refused : t ≡ true → refuse 27 ≡ join_answer a b
  join_refused e = rw (join_pick a b, ← same, ← h.test, e)

  pub join_total : t ≡ false → {s : Sheet} → s ≡ from_rows_of after → Ok s ≡ join_answer a b
  join_total e k = rw (join_pick a b, ← same, ← h.test, e, k, h.exact e, same, from-rows (both a b))

pub ruleset joining = (join_refused, join_total, rules)

-- ---- a shard, by its measure

module _ (a : Sheet) {found : MeasureAnswer} {r : Answer Sheet} where
  pub measured-sound : {k : Counts} {s : Sheet} → found ≡ M.Sound k → s ≡ sound_sheet k → r ≡ join_answer a s → r ≡ measured_answer a found
  unfolding measured_answer
  measured-sound e q p = rw e (p ∙ rw q)

  pub measured-refused : {k : ℕ} {s : Sheet} → found ≡ M.Refused k → (k ≡ 27 → ⊥) → s ≡ refused_sheet k → r ≡ join_answer a s → r ≡ measured_answer a found
  unfolding measured_answer
  measured-refused {k} e n q p = rw (e, ne_eqb k 27 n) (p ∙ rw q)

  pub measured-faulty : {k m at : ℕ} {s : Sheet} → found ≡ M.Faulty k m at → s ≡ refused_sheet k → r ≡ join_answer a s → r ≡ measured_answer a found
  unfolding measured_answer
  measured-faulty e q p = rw e (p ∙ rw q)

pub measured-past : (a : Sheet) {found : MeasureAnswer} {k : ℕ} → found ≡ M.Refused k → k ≡ 27 → refuse 27 ≡ measured_answer a found
unfolding measured_answer
measured-past a {found} {k} e q = rw (e, eq-eqb k 27 q)

pub ruleset measuring = (measured-sound, measured-refused, measured-faulty, measured-past, rules)

-- ---- a shard, by its bytes

-- where the sizes of its chunks pass together, a total does
more-passes : (a b : ℕ) → passes b ≡ true → passes (a + b) ≡ true
unfolding passes
more-passes a b h = lt-ltb most_total (a + b) (omega (arith, ltb-true most_total b h))

bytes_past : (s : Sheet) (k : Counts) → passes k.bytes ≡ true → any_passes (rows (both s (sound_sheet k))) ≡ true
unfolding any_passes passes added rows from_rows_of reporting both sound_sheet
bytes_past s k h = rw (more-passes s.bytes k.bytes h) (simp or-true)

no_row : (k : ℕ) → has_row k ≡ true → k ≡ 27 → ⊥
unfolding has_row
no_row k h e = false≢true (rw e at h)

module _ (s : Sheet) (spec : Sharding) (index d : List ℕ) where
  measured-sheet : (b : Bool) → passes (chunk_bytes spec index d) ≡ b
      → measured_answer s (pick b (M.Refused 27) (M.Sound (measure_of spec index d))) ≡ join_answer s (sound_sheet (measure_of spec index d))
  unfolding measured_answer
  measured-sheet true e = rw (join_pick s (sound_sheet (measure_of spec index d)), bytes_past s (measure_of spec index d) (unfold measure_of in e))
  measured-sheet false e = refl

  by_measure : (a : CheckAnswer) → Told a → measured_answer s (after_verdict a (measured_in spec index d)) ≡ join_answer s (shard_sheet a (measure_of spec index d))
  unfolding after_verdict shard_sheet
  by_measure C.Sound t = rw (measured-pick spec index d) (measured-sheet (passes (chunk_bytes spec index d)) refl)
  by_measure (C.Refused k) t = unfold measured_answer in rw (ne_eqb k 27 (no_row k t))
  by_measure (C.Faulty k m p) t = unfold measured_answer in refl

module _ (s : Sheet) (spec : Sharding) (shard : ℕ) {found : MeasureAnswer} {r : Answer Sheet} where
  pub add_is : (file : List ℕ) → found ≡ measure_answer spec shard file → r ≡ measured_answer s found → r ≡ add_answer s spec shard file
  unfolding measure_answer add_answer sheet_of
  add_is file e p = p ∙ rw e (by_measure s spec (index_part spec file) (data_part spec file) (check_answer spec shard file) (check-told spec shard file))

  pub add-pair-is : (index d : List ℕ) → found ≡ pair_measure spec shard index d → r ≡ measured_answer s found → r ≡ pair_add_answer s spec shard index d
  unfolding pair_measure pair_add_answer pair_sheet
  add-pair-is index d e p = p ∙ rw e (by_measure s spec index d (pair_check spec shard index d) (pair-told spec shard index d))

pub ruleset adding = (add_is, add-pair-is, rules)
