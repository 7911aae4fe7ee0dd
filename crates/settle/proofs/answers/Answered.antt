-- What settling answers and leaves: by what the check said, and of a sound shard by the two cases, that the form is too long or that it is written.
use Rattle.std.proofs.Common.{◌≡◌, ℕ, zero, suc, ◌<◌, ◌≤◌, Bool, true, false, not, ltb, ◌⊎◌, List, [], ◌∷◌, length, sym, refl, ◌∙◌, inl, inr, arith, ltb-true, le-ltb, lt-ltb}
use mathlib.Core.Bool.{or-true, and-false}
use mathlib.Core.Option.{Option, none, some}
use Rattle.refusal.specs.Choice.{pick}
use Rattle.refusal.specs.Checks.{Check, first_number, first_position, unless, answered, left, refusal, answered_at}
use Rattle.refusal.specs.Buffer.{over}
use Rattle.std.specs.Prelude.{Ok}
use Rattle.refusal.specs.Answers.{Answer, refuse}
use Rattle.std.proofs.Common.{ap}
use Rattle.refusal.specs.Table.{last}
use Rattle.refusal.proofs.Table.{number-refusal}
use Rattle.refusal.proofs.Picks.{all_in, all_in_lem, by_picks}
use Rattle.refusal.proofs.Refusing.{answered-both, first-most}
use Rattle.refusal.proofs.Positions.{Plain, at_both, at_plain}
use Rattle.sharding.specs.declared.Sharding.{Sharding}
use Rattle.shard.specs.index.Index.{most_shard_bytes}
use Rattle.shard.specs.File.{index_part, data_part, shard_checks, check_answer}
use Rattle.shard.specs.Sound.{SoundShard}
use Rattle.shard.proofs.Numbers.{shard_in}
use Rattle.shard.proofs.Whole.{sound-passes-check}
use Rattle.shard.proofs.AfterCheck.{after_check, by_check}
use Rattle.unlisted.specs.ranges.Covered.{unlisted_bytes, file_unlisted}
use Rattle.settled_form.specs.Content.{form_of, form_length, file_form, file_form_length}
use Rattle.settled_form.proofs.Demand3.{file-form-length}
use Rattle.refusal.specs.declared.CountAnswer.TheVariants.{Count, Refused, Faulty}
use Rattle.settle.specs.answers.Answers.{answer_of, loses_bytes, unlisted_check, length_check, length_in, too_long, settle_check, settle_in, left_in, settled_length_checks, length_answer, settle_checks, settle_answer, settle_left}

-- ---- 13

pub long_out : (n : ℕ) (out : List ℕ) → length out < n → too_long n out ≡ true
unfolding too_long
long_out n out h = rw (lt-ltb (length out) n h)

pub long-file : (n : ℕ) (out : List ℕ) → most_shard_bytes < n → too_long n out ≡ true
unfolding too_long
long-file n out h = rw (lt-ltb most_shard_bytes n h) (or-true (ltb (length out) n))

too_long_lem : (n : ℕ) (out : List ℕ) → (length out < n) ⊎ (most_shard_bytes < n) → too_long n out ≡ true
too_long_lem n out (inl h) = long_out n out h
too_long_lem n out (inr h) = long-file n out h

long-cases : (n : ℕ) (out : List ℕ) → too_long n out ≡ true → (length out < n) ⊎ (most_shard_bytes < n)
unfolding too_long
long-cases n out e = either (ltb (length out) n) refl
  where
    either : (b : Bool) → ltb (length out) n ≡ b → (length out < n) ⊎ (most_shard_bytes < n)
    either true f = inl (ltb-true _ _ f)
    either false f = inr (ltb-true _ _ (rw f at e))

pub not-long : (n : ℕ) (out : List ℕ) → n ≤ length out → n ≤ most_shard_bytes → too_long n out ≡ false
unfolding too_long
not-long n out h g = rw (le-ltb (length out) n h, le-ltb most_shard_bytes n g)

-- a shard of two parts
module _ (spec : Sharding) (index d : List ℕ) (dropping : Bool) where
  pub length-in : length_in spec index d dropping
      ≡ pick (loses_bytes spec index d dropping) (refuse 22) (pick (ltb most_shard_bytes (form_length spec index d)) (refuse 13) (Ok (form_length spec index d)))
  unfolding length_in unlisted_check length_check
  length-in = by_picks refuse (unlisted_check spec index d dropping ∷ length_check spec index d ∷ []) (Ok (form_length spec index d)) refl

  pub settle-in : (out : List ℕ) → settle_in spec index d dropping out
      ≡ pick (loses_bytes spec index d dropping) (refuse 22) (pick (too_long (form_length spec index d) out) (refuse 13) (Ok (form_length spec index d)))
  unfolding settle_in unlisted_check settle_check
  settle-in out = by_picks refuse (unlisted_check spec index d dropping ∷ settle_check spec index d out ∷ []) (Ok (form_length spec index d)) refl

  pub left_in_lem : (out : List ℕ) → left_in spec index d dropping out
      ≡ pick (loses_bytes spec index d dropping) out (pick (too_long (form_length spec index d) out) out (over (form_of spec index d) out))
  unfolding left_in unlisted_check settle_check
  left_in_lem out = by_picks (λ k. out) (unlisted_check spec index d dropping ∷ settle_check spec index d out ∷ []) (over (form_of spec index d) out) refl

-- ---- 22

-- no byte is lost where the caller asks to drop them, or where there is none
pub none_lost : (spec : Sharding) (index d : List ℕ) {dropping : Bool} → (dropping ≡ true) ⊎ (unlisted_bytes spec index d ≡ 0) → loses_bytes spec index d dropping ≡ false
unfolding loses_bytes
none_lost spec index d (inl e) = rw e
none_lost spec index d {dropping} (inr e) = rw e (and-false (not dropping))

pub some_lost : (spec : Sharding) (index d : List ℕ) → 0 < unlisted_bytes spec index d → loses_bytes spec index d false ≡ true
unfolding loses_bytes
some_lost spec index d l = lt-ltb 0 (unlisted_bytes spec index d) l

-- ---- after the check

-- what is left is the same, with a position or without
left_at : {B : Type 0} (checks : List Check) (after before : B) → left checks after before ≡ answered_at (λ k. before) (λ k p. before) checks after
left_at checks after before = go (first_position checks)
  where
    go : (p : Option ℕ) → unless (λ k. before) (first_number checks) after ≡ unless (λ k. refusal (λ k. before) (λ k p. before) k p) (first_number checks) after
    go none = refl
    go (some p) = refl

-- 22 and 13, which have none
answer-unless : (k : ℕ) (w : Answer ℕ) → k ≤ last → unless Refused k (answer_of w) ≡ answer_of (unless refuse k w)
unfolding unless
answer-unless zero w l = refl
answer-unless (suc k) w l = ap Refused (sym (number-refusal (suc k) (omega arith, l)))

last-answer : (cs : List Check) (n : ℕ) → all_in cs ≡ true → Plain cs → answered_at Refused Faulty cs (Count n) ≡ answer_of (answered refuse cs (Ok n))
last-answer cs n i e = at_plain Refused Faulty cs (Count n) e ∙ answer-unless (first_number cs) (Ok n) (first-most cs (all_in_lem cs i))

module _ (spec : Sharding) (shard : ℕ) (file : List ℕ) (dropping : Bool) where
  pub length_by_check : length_answer spec shard file dropping
      ≡ after_check Refused Faulty (check_answer spec shard file) (answer_of (length_in spec (index_part spec file) (data_part spec file) dropping))
  unfolding length_answer settled_length_checks length_in unlisted_check length_check
  length_by_check =
      let cs = unlisted_check spec (index_part spec file) (data_part spec file) dropping ∷ length_check spec (index_part spec file) (data_part spec file) ∷ [] in
      at_both Refused Faulty (shard_checks spec shard file) cs _ (shard_in spec shard file)
      ∙ rw (last-answer cs (file_form_length spec file) refl (refl, (refl, tt))) (by_check Refused Faulty _ spec shard file)

  pub settle_by_check : (out : List ℕ) → settle_answer spec shard file dropping out
      ≡ after_check Refused Faulty (check_answer spec shard file) (answer_of (settle_in spec (index_part spec file) (data_part spec file) dropping out))
  unfolding settle_answer settle_checks settle_in unlisted_check settle_check
  settle_by_check out =
      let cs = unlisted_check spec (index_part spec file) (data_part spec file) dropping ∷ settle_check spec (index_part spec file) (data_part spec file) out ∷ [] in
      at_both Refused Faulty (shard_checks spec shard file) cs _ (shard_in spec shard file)
      ∙ rw (last-answer cs (file_form_length spec file) refl (refl, (refl, tt))) (by_check Refused Faulty _ spec shard file)

  pub left_by_check : (out : List ℕ) → settle_left spec shard file dropping out
      ≡ after_check (λ k. out) (λ k p. out) (check_answer spec shard file) (left_in spec (index_part spec file) (data_part spec file) dropping out)
  unfolding settle_left settle_checks left_in
  left_by_check out =
      let cs = unlisted_check spec (index_part spec file) (data_part spec file) dropping ∷ settle_check spec (index_part spec file) (data_part spec file) out ∷ [] in
      answered-both (λ k. out) (shard_checks spec shard file) cs _ (shard_in spec shard file)
      ∙ left_at (shard_checks spec shard file) _ out
      ∙ by_check (λ k. out) (λ k p. out) _ spec shard file

-- ---- a sound shard

-- settling does not refuse it for its unlisted bytes
abbrev pub Ready : Sharding → List ℕ → Bool → Type 0
Ready spec file dropping = (dropping ≡ true) ⊎ (file_unlisted spec file ≡ 0)

module _ {spec : Sharding} {shard : ℕ} {file : List ℕ} (sound : SoundShard spec shard file) where
  goes_on : {A : Type 0} (r : ℕ → A) (at : ℕ → ℕ → A) (a : A) → after_check r at (check_answer spec shard file) a ≡ a
  goes_on r at a = rw (sound-passes-check spec shard file sound)

  pick-answer : (b : Bool) (n : ℕ) → answer_of (pick b (refuse 13) (Ok n)) ≡ pick b (Refused 13) (Count n)
  pick-answer true n = refl
  pick-answer false n = refl

  -- 22
  module _ (l : 0 < file_unlisted spec file) where
    pub length_lost : length_answer spec shard file false ≡ Refused 22
    length_lost = length_by_check spec shard file false ∙ goes_on Refused Faulty _ ∙ rw (length-in spec (index_part spec file) (data_part spec file) false, some_lost spec (index_part spec file) (data_part spec file) l)

    pub answer_lost : (out : List ℕ) → settle_answer spec shard file false out ≡ Refused 22
    answer_lost out = settle_by_check spec shard file false out ∙ goes_on Refused Faulty _ ∙ rw (settle-in spec (index_part spec file) (data_part spec file) false out, some_lost spec (index_part spec file) (data_part spec file) l)

    pub left_lost : (out : List ℕ) → settle_left spec shard file false out ≡ out
    left_lost out = left_by_check spec shard file false out ∙ goes_on (λ k. out) (λ k p. out) _ ∙ left_in_lem spec (index_part spec file) (data_part spec file) false out ∙ rw (some_lost spec (index_part spec file) (data_part spec file) l)

  module _ {dropping : Bool} (ready : Ready spec file dropping) where
    length-sound : length_answer spec shard file dropping ≡ pick (ltb most_shard_bytes (file_form_length spec file)) (Refused 13) (Count (file_form_length spec file))
    length-sound = length_by_check spec shard file dropping ∙ goes_on Refused Faulty _ ∙ rw (length-in spec (index_part spec file) (data_part spec file) dropping, none_lost spec (index_part spec file) (data_part spec file) ready) (pick-answer (ltb most_shard_bytes (file_form_length spec file)) (file_form_length spec file))

    answer-sound : (out : List ℕ) → settle_answer spec shard file dropping out ≡ pick (too_long (file_form_length spec file) out) (Refused 13) (Count (file_form_length spec file))
    answer-sound out = settle_by_check spec shard file dropping out ∙ goes_on Refused Faulty _ ∙ rw (settle-in spec (index_part spec file) (data_part spec file) dropping out, none_lost spec (index_part spec file) (data_part spec file) ready) (pick-answer (too_long (file_form_length spec file) out) (file_form_length spec file))

    left-sound : (out : List ℕ) → settle_left spec shard file dropping out ≡ pick (too_long (file_form_length spec file) out) out (over (file_form spec file) out)
    left-sound out = left_by_check spec shard file dropping out ∙ goes_on (λ k. out) (λ k p. out) _ ∙ left_in_lem spec (index_part spec file) (data_part spec file) dropping out ∙ rw (none_lost spec (index_part spec file) (data_part spec file) ready)

    -- its settled length
    pub length-long : most_shard_bytes < length (file_form spec file) → length_answer spec shard file dropping ≡ Refused 13
    length-long h = let n = file-form-length spec file in length-sound ∙ rw (lt-ltb most_shard_bytes (file_form_length spec file) (omega arith))

    pub length-fits : length (file_form spec file) ≤ most_shard_bytes → length_answer spec shard file dropping ≡ Count (length (file_form spec file))
    length-fits h = let n = file-form-length spec file in length-sound ∙ rw (le-ltb most_shard_bytes (file_form_length spec file) (omega arith), n)

    module _ (out : List ℕ) where
      -- the form is too long
      pub answer-long : (length out < length (file_form spec file)) ⊎ (most_shard_bytes < length (file_form spec file)) → settle_answer spec shard file dropping out ≡ Refused 13
      answer-long h = answer-sound out ∙ rw (too_long_lem (file_form_length spec file) out (rw (file-form-length spec file) at h))

      pub left-long : (length out < length (file_form spec file)) ⊎ (most_shard_bytes < length (file_form spec file)) → settle_left spec shard file dropping out ≡ out
      left-long h = left-sound out ∙ rw (too_long_lem (file_form_length spec file) out (rw (file-form-length spec file) at h))

      -- it is not
      pub answer-fits : length (file_form spec file) ≤ length out → length (file_form spec file) ≤ most_shard_bytes → settle_answer spec shard file dropping out ≡ Count (length (file_form spec file))
      answer-fits h g =
          let n = file-form-length spec file in
          answer-sound out ∙ rw (not-long (file_form_length spec file) out (omega arith) (omega arith), n)

      pub left-fits : length (file_form spec file) ≤ length out → length (file_form spec file) ≤ most_shard_bytes → settle_left spec shard file dropping out ≡ over (file_form spec file) out
      left-fits h g =
          let n = file-form-length spec file in
          left-sound out ∙ rw (not-long (file_form_length spec file) out (omega arith) (omega arith))

      -- a refusal tells that the form is too long
      pub refused-long : (number : ℕ) (p : Option ℕ) → settle_answer spec shard file dropping out ≡ refusal Refused Faulty number p
          → (number ≡ 13) × (p ≡ none) × ((length out < length (file_form spec file)) ⊎ (most_shard_bytes < length (file_form spec file)))
      refused-long number p e = rw (file-form-length spec file) (by_test (too_long (file_form_length spec file) out) p refl e)
        where
          by_test : (b : Bool) (q : Option ℕ) → too_long (file_form_length spec file) out ≡ b → settle_answer spec shard file dropping out ≡ refusal Refused Faulty number q
              → (number ≡ 13) × (q ≡ none) × ((length out < file_form_length spec file) ⊎ (most_shard_bytes < file_form_length spec file))
          by_test true none t e =
              let f : Refused 13 ≡ Refused number = rw t at (sym (answer-sound out) ∙ e) in
              (cc, refl, long-cases (file_form_length spec file) out t)
          by_test true (some q) t e =
              let f : Refused 13 ≡ Faulty number q = rw t at (sym (answer-sound out) ∙ e) in
              let z : ◌≡◌ {A = ℕ} 0 1 = cc in
              absurd (omega arith)
          by_test false none t e =
              let f : Count (file_form_length spec file) ≡ Refused number = rw t at (sym (answer-sound out) ∙ e) in
              let z : ◌≡◌ {A = ℕ} 0 1 = cc in
              absurd (omega arith)
          by_test false (some q) t e =
              let f : Count (file_form_length spec file) ≡ Faulty number q = rw t at (sym (answer-sound out) ∙ e) in
              let z : ◌≡◌ {A = ℕ} 0 1 = cc in
              absurd (omega arith)
