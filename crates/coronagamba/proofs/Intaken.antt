-- The calls of an intake across the C border: what the match on an answer tells. Each law has the shape of a need.
use Prim.Native.Nat.{ℕ}
use mathlib.Core.Path.{◌≡◌, refl, ap, ◌∙◌}
use mathlib.Core.List.{List}
use lib.ListN.{set}
use borrow.Author.Rules.{rules}
use Rattle.intake.specs.declared.state.Intake.{Intake}
use Rattle.std.specs.Prelude.{Ok, Err}
use Rattle.refusal.specs.Answers.{Answer}
use Rattle.intake.specs.declared.Closed.{Closed}
use Rattle.refusal.specs.declared.Refusal.{Refusal}
use Rattle.refusal.specs.Table.{number_of}
use Rattle.intake.specs.Calls.{announce_answer, announce_left, announce_waiting, part_answer, part_left, close_answer, close_left, intake_result, close_result}
use Rattle.intake.specs.numbers.Numbers.{numbers_of, state_of}
use Rattle.coronagamba.specs.word.Word.{word_of}
use Rattle.coronagamba.specs.Intakes.{state_after_of, part_after, closed_after, shard_length_after}
use Rattle.coronagamba.proofs.Given.{open_asked, open-left}
use Rattle.coronagamba.proofs.Told.{word-success, word-refused, word_same, after, left}

-- ---- an answer of open, announce or part

module _ {a b : Answer Intake} (e : b ≡ a) where
  pub next_word : {s : Intake} → b ≡ Ok s → 0 ≡ word_of (intake_result a)
  next_word h = word-success intake_result e h refl

  pub next-state : (xs : List ℕ) {s : Intake} {l : List ℕ} → l ≡ numbers_of s → b ≡ Ok s → l ≡ state_after_of a xs
  unfolding state_after_of
  next-state xs n h = n ∙ after state_after_of xs e h

  pub refused-word : {k : Refusal} {n : ℕ} → b ≡ Err k → n ≡ number_of k → n ≡ word_of (intake_result a)
  refused-word h m = m ∙ word-refused intake_result e h refl

  pub refused-state : (xs : List ℕ) {k : Refusal} → b ≡ Err k → xs ≡ state_after_of a xs
  unfolding state_after_of
  refused-state xs h = after state_after_of xs e h

module _ {a b : Answer Intake} where
  pub intake-word : {r : ℕ} → r ≡ word_of (intake_result b) → b ≡ a → r ≡ word_of (intake_result a)
  intake-word h e = word_same intake_result h e

  pub state-left : (xs : List ℕ) {l : List ℕ} → l ≡ state_after_of b xs → b ≡ a → l ≡ state_after_of a xs
  state-left xs h e = left state_after_of xs h e

pub ruleset stating = (next_word, next-state, refused-word, refused-state, rules)

pub ruleset opening = (intake-word, state-left, open_asked, open-left, rules)

module _ (xs : List ℕ) {s : Intake} (g : s ≡ state_of xs) where
  -- ---- announce

  module _ (id size : ℕ) (o w : List ℕ) where
    module _ {b : Answer Intake} (e : b ≡ announce_answer s id size o w) where
      announced_of : b ≡ announce_answer (state_of xs) id size o w
      announced_of = e ∙ ap (λ (t : Intake). announce_answer t id size o w) g

      pub announce_word : {r : ℕ} → r ≡ word_of (intake_result b) → r ≡ word_of (intake_result (announce_answer (state_of xs) id size o w))
      announce_word h = intake-word h announced_of

      pub announce_state : {l : List ℕ} → l ≡ state_after_of b xs → l ≡ state_after_of (announce_answer (state_of xs) id size o w) xs
      announce_state h = state-left xs h announced_of

    pub announce_out : {o₁ : List ℕ} → o₁ ≡ announce_left s id size o w → o₁ ≡ announce_left (state_of xs) id size o w
    announce_out h = h ∙ ap (λ (t : Intake). announce_left t id size o w) g

    pub announce_held : {w₁ : List ℕ} → w₁ ≡ announce_waiting s id size o w → w₁ ≡ announce_waiting (state_of xs) id size o w
    announce_held h = h ∙ ap (λ (t : Intake). announce_waiting t id size o w) g

  -- ---- part

  module _ (d o w : List ℕ) where
    module _ {b : Answer Intake} (e : b ≡ part_answer s d o w) where
      taken_of : b ≡ part_answer (state_of xs) d o w
      taken_of = e ∙ ap (λ (t : Intake). part_answer t d o w) g

      pub part-word : {t : Intake} → b ≡ Ok t → 0 ≡ word_of (intake_result (part_answer (state_of xs) d o w))
      part-word h = next_word taken_of h

      pub part-state : {t : Intake} → b ≡ Ok t → set (set xs 12 t.next) 13 t.owed ≡ part_after (part_answer (state_of xs) d o w) xs
      unfolding part_after
      part-state h = after part_after xs taken_of h

      pub part-refused : {k : Refusal} {n : ℕ} → b ≡ Err k → n ≡ number_of k → n ≡ word_of (intake_result (part_answer (state_of xs) d o w))
      part-refused h m = refused-word taken_of h m

      pub part-kept : {k : Refusal} → b ≡ Err k → xs ≡ part_after (part_answer (state_of xs) d o w) xs
      unfolding part_after
      part-kept h = after part_after xs taken_of h

    pub part_out : {o₁ : List ℕ} → o₁ ≡ part_left s d o w → o₁ ≡ part_left (state_of xs) d o w
    part_out h = h ∙ ap (λ (t : Intake). part_left t d o w) g

  -- ---- close

  module _ (o w : List ℕ) where
    module _ {b : Answer Closed} (e : b ≡ close_answer s o w) where
      closed_of : b ≡ close_answer (state_of xs) o w
      closed_of = e ∙ ap (λ (t : Intake). close_answer t o w) g

      pub close-word : {c : Closed} → b ≡ Ok c → 0 ≡ word_of (close_result (close_answer (state_of xs) o w))
      close-word h = word-success close_result closed_of h refl

      pub close-state : {c : Closed} {l : List ℕ} → l ≡ numbers_of c.state → b ≡ Ok c → l ≡ closed_after (close_answer (state_of xs) o w) xs
      unfolding closed_after
      close-state n h = n ∙ after closed_after xs closed_of h

      pub close-length : (x : ℕ) {c : Closed} → b ≡ Ok c → c.length ≡ shard_length_after (close_answer (state_of xs) o w) x
      unfolding shard_length_after
      close-length x h = after shard_length_after x closed_of h

      pub close-refused : {k : Refusal} {n : ℕ} → b ≡ Err k → n ≡ number_of k → n ≡ word_of (close_result (close_answer (state_of xs) o w))
      close-refused h m = m ∙ word-refused close_result closed_of h refl

      pub close-kept : {k : Refusal} → b ≡ Err k → xs ≡ closed_after (close_answer (state_of xs) o w) xs
      unfolding closed_after
      close-kept h = after closed_after xs closed_of h

      pub close-unsaid : (x : ℕ) {k : Refusal} → b ≡ Err k → x ≡ shard_length_after (close_answer (state_of xs) o w) x
      unfolding shard_length_after
      close-unsaid x h = after shard_length_after x closed_of h

    pub close_out : {o₁ : List ℕ} → o₁ ≡ close_left s o w → o₁ ≡ close_left (state_of xs) o w
    close_out h = h ∙ ap (λ (t : Intake). close_left t o w) g

pub ruleset announcing = (announce_word, announce_state, announce_out, announce_held, rules)

pub ruleset parting = (part-word, part-state, part-refused, part-kept, part_out, rules)

pub ruleset closing = (close-word, close-state, close-length, close-refused, close-kept, close-unsaid, close_out, rules)
