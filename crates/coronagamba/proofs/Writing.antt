-- What the match on a writer's answer tells: the word, and what the lent length then holds. Each law has the shape of a need.
use Prim.Native.Nat.{ℕ}
use mathlib.Core.Path.{◌≡◌, refl, ◌∙◌}
use borrow.Author.Rules.{rules}
use Rattle.std.specs.Prelude.{Ok, Err}
use Rattle.refusal.specs.declared.Refusal.{Refusal}
use Rattle.refusal.specs.Table.{number_of}
use Rattle.refusal.specs.Answers.{Answer}
use Rattle.refusal.specs.Result.{written_result}
use Rattle.coronagamba.specs.word.Word.{word_of, length_after}
use Rattle.coronagamba.proofs.Told.{word-success, word-refused, after}

module _ {a b : Answer ℕ} (e : b ≡ a) where
  pub length-word : {n : ℕ} → b ≡ Ok n → 0 ≡ word_of (written_result a)
  length-word h = word-success written_result e h refl

  pub refused-word : {k : Refusal} {n : ℕ} → b ≡ Err k → n ≡ number_of k → n ≡ word_of (written_result a)
  refused-word h m = m ∙ word-refused written_result e h refl

  pub length-written : (x : ℕ) {n : ℕ} → b ≡ Ok n → n ≡ length_after a x
  unfolding length_after
  length-written x h = after length_after x e h

  pub length-refused : (x : ℕ) {k : Refusal} → b ≡ Err k → x ≡ length_after a x
  unfolding length_after
  length-refused x h = after length_after x e h

pub ruleset writing = (length-word, refused-word, length-written, length-refused, rules)
