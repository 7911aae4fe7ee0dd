-- What measuring a shard and adding to a sheet refuse, by their checks.
use Prim.Native.Nat.{ℕ, zero, suc}
use mathlib.Core.Path.{◌≡◌, refl, sym, ◌∙◌}
use mathlib.Core.Bool.{Bool}
use mathlib.Core.List.{List, [], ◌∷◌, ◌++◌}
use mathlib.Core.Logic.{◌↔◌}
use native.Mathlib.Omega.{arith}
use lib.ListN.{length}
use Rattle.refusal.specs.Checks.{Check, check, first_number, unless, answered_at}
use Rattle.refusal.specs.Result.{Result, refused, DecidedBy}
use Rattle.refusal.proofs.Picks.{all_in_lem, all_in_both}
use Rattle.refusal.proofs.Positions.{at_both, at_plain}
use Rattle.refusal.specs.Table.{InTable}
use Rattle.refusal.proofs.Results.{told, decided, decided_after, decided_at}
use Rattle.sharding.specs.declared.Sharding.{Sharding}
use Rattle.sharding.specs.Specification.{no_such_shard}
use Rattle.shard.specs.declared.CheckAnswer.TheVariants as C
use Rattle.shard.specs.Faults.{shard_fault}
use Rattle.shard.specs.File.{index_length_of, index_part, data_part, file_checks, shard_checks, check_answer, check_result}
use Rattle.shard.specs.Sound.{FirstFaultIs}
use Rattle.shard.proofs.Numbers.{shard_in, shard-answer}
use Rattle.shard.proofs.Whole.{check_decided, check-names}
use Rattle.split_shard.specs.seam.Pair.{pair_checks, pair_answer}
use Rattle.split_shard.proofs.seam.Pairs.{checks_seamed, seamed_front, seamed_back}
use Rattle.split_shard.specs.Answers.{pair_check}
use Rattle.split_shard.proofs.Laws.{check_as_joined}
use Rattle.holdings.specs.declared.measures.MeasureAnswer.{MeasureAnswer}
use Rattle.holdings.specs.declared.measures.MeasureAnswer.TheVariants.{Sound, Refused, Faulty}
use Rattle.holdings.specs.measures.Measures.{chunk_bytes, file_measure}
use Rattle.holdings.specs.chunk_sums.Totals.{passes}
use Rattle.holdings.specs.measures.Answers.{measured_in, after_verdict, measure_answer, pair_measure, measure_result}
use Rattle.holdings.proofs.measures.Answered.{measure-faulty, measure_as_joined, named-fault}
use Rattle.holdings.specs.declared.one_shard.Sheet.{Sheet}
use Rattle.refusal.specs.Answers.{refuse}
use Rattle.holdings.specs.Answers.{join_answer, sheet_of, add_answer, pair_sheet, pair_add_answer, sheet_result}
use Rattle.theorems.specs.Demands.{measure_checks, join_checks}

-- ---- a measure

-- its refusal with a position names, as the check's does, the first minishard that has a fault
abbrev faulty_at : Sharding → ℕ → List ℕ → ℕ → ℕ → MeasureAnswer
faulty_at spec shard file number position = Faulty number (shard_fault spec shard (index_part spec file) (data_part spec file)).minishard position

-- after the check: its refusal, with n or with the fault k of minishard m, or else a
after_check_lem : (n k m p : ℕ) (a : MeasureAnswer) → after_verdict (unless C.Refused n (unless (λ j. C.Faulty j m p) k C.Sound)) a ≡ unless Refused n (unless (λ j. Faulty j m p) k a)
unfolding unless after_verdict
after_check_lem zero zero m p a = refl
after_check_lem zero (suc k) m p a = refl
after_check_lem (suc n) k m p a = refl

module _ (spec : Sharding) (shard : ℕ) (file : List ℕ) where
  abbrev past : List Check
  past = check 27 (passes (chunk_bytes spec (index_part spec file) (data_part spec file))) ∷ []

  measured : measured_in spec (index_part spec file) (data_part spec file) ≡ answered_at Refused (faulty_at spec shard file) past (Sound (file_measure spec file))
  unfolding measured_in
  measured = sym (at_plain Refused (faulty_at spec shard file) past (Sound (file_measure spec file)) (refl, tt))

  measure-is : measure_answer spec shard file ≡ answered_at Refused (faulty_at spec shard file) (measure_checks spec shard file) (Sound (file_measure spec file))
  unfolding measure_answer check_answer
  measure-is =
      let f = shard_fault spec shard (index_part spec file) (data_part spec file) in
      after_check_lem (first_number (file_checks spec (no_such_shard spec shard) file)) f.number f.minishard f.position (measured_in spec (index_part spec file) (data_part spec file))
      ∙ sym (shard-answer spec shard file Refused (faulty_at spec shard file) (measured_in spec (index_part spec file) (data_part spec file)))
      ∙ rw measured (sym (at_both Refused (faulty_at spec shard file) (shard_checks spec shard file) past (Sound (file_measure spec file)) (shard_in spec shard file)))

  pub measure_decided : DecidedBy (measure_checks spec shard file) (measure_result (measure_answer spec shard file))
  measure_decided =
      rw measure-is
      (decided_at measure_result Refused (λ k t. refl) (faulty_at spec shard file) (λ k p. (refl, refl, refl)) (measure_checks spec shard file) _ refl
      (all_in_both (shard_checks spec shard file) past (shard_in spec shard file) (all_in_lem past refl)))

  pub measure-names : (k m p : ℕ) → (measure_answer spec shard file ≡ Faulty k m p) ↔ FirstFaultIs spec shard file k m p
  measure-names k m p = (
    λ e. (check-names spec shard file k m p).0 (named-fault spec (index_part spec file) (data_part spec file) (check_answer spec shard file) (unfold measure_answer in e)),
    λ g. sym (measure-faulty spec shard file refl ((check-names spec shard file k m p).1 g)),
  )

-- ---- a pair: 1, 5, 23, then what decides the joined file

pub pair_decided : {A B : Type 0} (f : A → Result B) (r : ℕ → A) → ((k : ℕ) → InTable k → f (r k) ≡ refused k) → (spec : Sharding) (five : Bool) (index : List ℕ) {cs : List Check} {x : A}
    → DecidedBy cs (f x) → DecidedBy (pair_checks spec five index ++ cs) (f (pair_answer r spec five index x))
unfolding pair_checks
pair_decided f r plain spec five index {cs} {x} h =
    decided_after f r plain (pair_checks spec five index) cs x (all_in_lem (pair_checks spec five index) refl) (refl, (refl, (refl, tt))) h

module _ (spec : Sharding) (shard : ℕ) (index d : List ℕ) where
  pair_is : pair_measure spec shard index d ≡ pair_answer Refused spec (no_such_shard spec shard) index (measure_answer spec shard (index ++ d))
  unfolding pair_measure pair_check
  pair_is = go (first_number (pair_checks spec (no_such_shard spec shard) index)) refl
    where
      go : (n : ℕ) → first_number (pair_checks spec (no_such_shard spec shard) index) ≡ n
          → after_verdict (unless C.Refused n (check_answer spec shard (index ++ d))) (measured_in spec index d) ≡ unless Refused n (measure_answer spec shard (index ++ d))
      go zero z =
          let e = checks_seamed spec (no_such_shard spec shard) index z in
          unfold unless measure_answer in rw (seamed_front spec index d e, seamed_back spec index d e)
      go (suc n) z = unfold unless after_verdict in refl

  pub check_decided_pair : DecidedBy (pair_checks spec (no_such_shard spec shard) index ++ shard_checks spec shard (index ++ d)) (check_result (pair_check spec shard index d))
  unfolding pair_check
  check_decided_pair = pair_decided check_result C.Refused (λ k t. refl) spec (no_such_shard spec shard) index (check_decided spec shard (index ++ d))

  pub check-names-pair : (k m p : ℕ) → (pair_check spec shard index d ≡ C.Faulty k m p) ↔ ((length index ≡ index_length_of spec) × FirstFaultIs spec shard (index ++ d) k m p)
  unfolding pair_check
  check-names-pair k m p = (
    λ e. go (first_number (pair_checks spec (no_such_shard spec shard) index)) refl e,
    λ g. check_as_joined spec shard index d g.0 ∙ (check-names spec shard (index ++ d) k m p).1 g.1,
  )
    where
      go : (n : ℕ) → first_number (pair_checks spec (no_such_shard spec shard) index) ≡ n → unless C.Refused n (check_answer spec shard (index ++ d)) ≡ C.Faulty k m p
          → (length index ≡ index_length_of spec) × FirstFaultIs spec shard (index ++ d) k m p
      go zero z e = unfold unless in (checks_seamed spec (no_such_shard spec shard) index z, (check-names spec shard (index ++ d) k m p).0 e)
      go (suc n) z e = unfold unless in (let y : ◌≡◌ {A = ℕ} 0 1 = cc in absurd (omega arith))

  pub measure-names-pair : (k m p : ℕ) → (pair_measure spec shard index d ≡ Faulty k m p) ↔ ((length index ≡ index_length_of spec) × FirstFaultIs spec shard (index ++ d) k m p)
  measure-names-pair k m p = (
    λ e. (check-names-pair k m p).0 (named-fault spec index d (pair_check spec shard index d) (unfold pair_measure in e)),
    λ g. measure_as_joined spec shard index d g.0 ∙ (measure-names spec shard (index ++ d) k m p).1 g.1,
  )

  pub measure_decided_pair : DecidedBy (pair_checks spec (no_such_shard spec shard) index ++ measure_checks spec shard (index ++ d)) (measure_result (pair_measure spec shard index d))
  measure_decided_pair = rw pair_is (pair_decided measure_result Refused (λ k t. refl) spec (no_such_shard spec shard) index (measure_decided spec shard (index ++ d)))

-- ---- a sheet

pub join_decided : (a b : Sheet) → DecidedBy (join_checks a b) (sheet_result (join_answer a b))
unfolding join_answer
join_decided a b = decided sheet_result refuse told (join_checks a b) _ refl refl refl

pub add_decided : (sheet : Sheet) (spec : Sharding) (shard : ℕ) (file : List ℕ) → DecidedBy (join_checks sheet (sheet_of spec shard file)) (sheet_result (add_answer sheet spec shard file))
unfolding add_answer
add_decided sheet spec shard file = join_decided sheet (sheet_of spec shard file)

pub add-pair_decided : (sheet : Sheet) (spec : Sharding) (shard : ℕ) (index d : List ℕ) → DecidedBy (join_checks sheet (pair_sheet spec shard index d)) (sheet_result (pair_add_answer sheet spec shard index d))
unfolding pair_add_answer
add-pair_decided sheet spec shard index d = join_decided sheet (pair_sheet spec shard index d)
