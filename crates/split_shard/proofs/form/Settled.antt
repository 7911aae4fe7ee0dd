-- Counting unlisted bytes and settling, by what the check of the pair said.
use Prim.Native.Nat.{ℕ, zero, suc}
use mathlib.Core.Path.{◌≡◌, refl, sym, ap, ◌∙◌}
use mathlib.Core.Bool.{Bool}
use mathlib.Core.List.{List, ◌++◌}
use lib.ListN.{length}
use borrow.Author.Rules.{rules}
use Rattle.refusal.specs.Checks.{first_number, unless}
use Rattle.refusal.specs.Answers.{Answer}
use Rattle.sharding.specs.declared.Sharding.{Sharding}
use Rattle.sharding.specs.Specification.{no_such_shard}
use Rattle.shard.specs.declared.CheckAnswer.{CheckAnswer}
use Rattle.shard.specs.declared.CheckAnswer.TheVariants as C
use Rattle.shard.specs.File.{index_length_of, index_part, data_part, check_answer}
use Rattle.shard.specs.Sound.{SoundShard}
use Rattle.shard.proofs.AfterCheck.{after_check}
use Rattle.shard.proofs.Whole.{check-passes-sound}
use Rattle.unlisted.specs.ranges.Covered.{unlisted_bytes, file_unlisted}
use Rattle.refusal.specs.declared.CountAnswer.TheVariants as U
use Rattle.unlisted.specs.stretches.Reading.{RangedShard}
use Rattle.unlisted.proofs.Counted.{sound_ranged, unlisted_by_check}
use Rattle.split_shard.specs.seam.Pair.{pair_checks}
use Rattle.split_shard.proofs.seam.Pairs.{seamed_front, seamed_back}
use Rattle.split_shard.specs.Answers.{pair_check}
use Rattle.split_shard.proofs.Laws.{sound_seamed}
use Rattle.refusal.specs.declared.CountAnswer.{CountAnswer}
use Rattle.settle.specs.answers.Answers.{answer_of, length_in, settle_in, left_in}
use Rattle.settle.specs.length.Settleable.{SettleableShard}
use Rattle.settle.proofs.answers.Answered.{length_by_check, settle_by_check, left_by_check}
use Rattle.settle.proofs.two_parts.WriteAnswers.{sound_settleable}
use Rattle.split_shard.specs.form.Answers.{pair_unlisted, pair_length, pair_settle, pair_settle_left}

-- 1, 5 and 23 go before the check, or before what goes on after it
through : {A : Type 0} (r : ℕ → A) (at : ℕ → ℕ → A) (n : ℕ) (c : CheckAnswer) (a : A) → unless r n (after_check r at c a) ≡ after_check r at (unless C.Refused n c) a
unfolding unless
through r at zero c a = refl
through r at (suc n) c a = refl

module _ (spec : Sharding) (shard : ℕ) (index d : List ℕ) where
  abbrev first : ℕ
  first = first_number (pair_checks spec (no_such_shard spec shard) index)

  unlisted-after : pair_unlisted spec shard index d ≡ after_check U.Refused U.Faulty (pair_check spec shard index d) (U.Count (file_unlisted spec (index ++ d)))
  unfolding pair_unlisted pair_check
  unlisted-after = rw (unlisted_by_check spec shard (index ++ d)) (through U.Refused U.Faulty first (check_answer spec shard (index ++ d)) _)

  module _ (dropping : Bool) where
    length-after : pair_length spec shard index d dropping
        ≡ after_check U.Refused U.Faulty (pair_check spec shard index d) (answer_of (length_in spec (index_part spec (index ++ d)) (data_part spec (index ++ d)) dropping))
    unfolding pair_length pair_check
    length-after = rw (length_by_check spec shard (index ++ d) dropping) (through U.Refused U.Faulty first (check_answer spec shard (index ++ d)) _)

    settle-after : (out : List ℕ) → pair_settle spec shard index d dropping out
        ≡ after_check U.Refused U.Faulty (pair_check spec shard index d) (answer_of (settle_in spec (index_part spec (index ++ d)) (data_part spec (index ++ d)) dropping out))
    unfolding pair_settle pair_check
    settle-after out = rw (settle_by_check spec shard (index ++ d) dropping out) (through U.Refused U.Faulty first (check_answer spec shard (index ++ d)) _)

    left_after : (out : List ℕ) → pair_settle_left spec shard index d dropping out
        ≡ after_check (λ k. out) (λ k p. out) (pair_check spec shard index d) (left_in spec (index_part spec (index ++ d)) (data_part spec (index ++ d)) dropping out)
    unfolding pair_settle_left pair_check
    left_after out = rw (left_by_check spec shard (index ++ d) dropping out) (through (λ k. out) (λ k p. out) first (check_answer spec shard (index ++ d)) _)

  -- as the code has it: a is what the check said
  module _ {a : CheckAnswer} (e : a ≡ pair_check spec shard index d) where
    module _ {k : ℕ} (q : a ≡ C.Refused k) where
      pub unlisted_stopped : U.Refused k ≡ pair_unlisted spec shard index d
      unlisted_stopped = rw (unlisted-after, ← e, q)

      module _ (dropping : Bool) where
        pub length_stopped : U.Refused k ≡ pair_length spec shard index d dropping
        length_stopped = rw (length-after dropping, ← e, q)

        pub settle_stopped : (out : List ℕ) → U.Refused k ≡ pair_settle spec shard index d dropping out
        settle_stopped out = rw (settle-after dropping out, ← e, q)

        pub left_stopped : (out : List ℕ) → out ≡ pair_settle_left spec shard index d dropping out
        left_stopped out = rw (left_after dropping out, ← e, q)

    module _ {k m p : ℕ} (q : a ≡ C.Faulty k m p) where
      pub unlisted-faulty : U.Faulty k p ≡ pair_unlisted spec shard index d
      unlisted-faulty = rw (unlisted-after, ← e, q)

      module _ (dropping : Bool) where
        pub length-faulty : U.Faulty k p ≡ pair_length spec shard index d dropping
        length-faulty = rw (length-after dropping, ← e, q)

        pub settle-faulty : (out : List ℕ) → U.Faulty k p ≡ pair_settle spec shard index d dropping out
        settle-faulty out = rw (settle-after dropping out, ← e, q)

        pub left-faulty : (out : List ℕ) → out ≡ pair_settle_left spec shard index d dropping out
        left-faulty out = rw (left_after dropping out, ← e, q)

    module _ (q : a ≡ C.Sound) where
      measured : length index ≡ index_length_of spec
      measured = (sound_seamed spec shard index d (sym e ∙ q)).0

      sound : SoundShard spec shard (index ++ d)
      sound = check-passes-sound spec shard (index ++ d) (sound_seamed spec shard index d (sym e ∙ q)).1

      pub passed_ranges : RangedShard spec index d
      passed_ranges = rw (seamed_front spec index d measured, seamed_back spec index d measured) at (sound_ranged sound)

      pub passed_parts : SettleableShard spec index d
      passed_parts = rw (seamed_front spec index d measured, seamed_back spec index d measured) at (sound_settleable sound)

      pub unlisted-given : {n : ℕ} → n ≡ unlisted_bytes spec index d → U.Count n ≡ pair_unlisted spec shard index d
      unlisted-given h = rw (unlisted-after, ← e, q, seamed_front spec index d measured, seamed_back spec index d measured) (ap (λ (k : ℕ). U.Count k) h)

      module _ (dropping : Bool) {w : Answer ℕ} {r : CountAnswer} (g : r ≡ answer_of w) where
        pub length-given : w ≡ length_in spec index d dropping → r ≡ pair_length spec shard index d dropping
        length-given h =
            rw (length-after dropping, ← e, q, seamed_front spec index d measured, seamed_back spec index d measured)
            (g ∙ ap (λ (x : Answer ℕ). answer_of x) h)

        pub settle-given : (out : List ℕ) → w ≡ settle_in spec index d dropping out → r ≡ pair_settle spec shard index d dropping out
        settle-given out h =
            rw (settle-after dropping out, ← e, q, seamed_front spec index d measured, seamed_back spec index d measured)
            (g ∙ ap (λ (x : Answer ℕ). answer_of x) h)

      pub left-given : (dropping : Bool) (out : List ℕ) {o : List ℕ} → o ≡ left_in spec index d dropping out → o ≡ pair_settle_left spec shard index d dropping out
      left-given dropping out h = rw (left_after dropping out, ← e, q, seamed_front spec index d measured, seamed_back spec index d measured) h

pub ruleset settling = (unlisted_stopped, length_stopped, settle_stopped, left_stopped, unlisted-faulty, length-faulty, settle-faulty, left-faulty, passed_ranges, passed_parts, unlisted-given, length-given, settle-given, left-given, rules)
