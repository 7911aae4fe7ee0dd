-- What the match on an answer of the shards' calls tells: the word, and what the lent numbers then hold. Each law has the shape of a need.
use Prim.Native.Nat.{ℕ}
use mathlib.Core.Path.{◌≡◌, refl}
use mathlib.Core.Option.{none, some}
use borrow.Author.Rules.{rules}
use Rattle.refusal.specs.declared.CountAnswer.{CountAnswer}
use Rattle.refusal.specs.declared.CountAnswer.TheVariants as N
use Rattle.refusal.specs.Result.{count_result}
use Rattle.shard.specs.declared.CheckAnswer.{CheckAnswer}
use Rattle.shard.specs.declared.CheckAnswer.TheVariants.{Sound, Faulty, Refused as CheckRefused}
use Rattle.shard.specs.File.{check_result}
use Rattle.lookup.specs.declared.id_search.LookupAnswer.{LookupAnswer}
use Rattle.lookup.specs.declared.id_search.LookupAnswer.TheVariants as L
use Rattle.lookup.specs.Find.{lookup_result}
use Rattle.coronagamba.specs.word.Word.{word, word_of}
use Rattle.coronagamba.specs.Shards.{start_after, size_after, count_after}
use Rattle.coronagamba.proofs.Told.{word-success, word-refused, word_at, word_in, after}

module _ {a b : CheckAnswer} (e : b ≡ a) where
  pub word_sound : b ≡ Sound → 0 ≡ word_of (check_result a)
  word_sound h = word-success check_result e h refl

  pub word_unchecked : {k : ℕ} → b ≡ CheckRefused k → k ≡ word_of (check_result a)
  word_unchecked h = word-refused check_result e h refl

  pub word-fault : {k m p r : ℕ} → r ≡ word k (some m) (some p) → b ≡ Faulty k m p → r ≡ word_of (check_result a)
  word-fault w h = word_in check_result e h w refl

module _ {a b : LookupAnswer} (e : b ≡ a) where
  pub lookup-given : {s n : ℕ} → b ≡ L.Found s n → 0 ≡ word_of (lookup_result a)
  lookup-given h = word-success lookup_result e h refl

  pub lookup-refused : {k : ℕ} → b ≡ L.Refused k → k ≡ word_of (lookup_result a)
  lookup-refused h = word-refused lookup_result e h refl

  pub lookup-faulty : {k p r : ℕ} → r ≡ word k none (some p) → b ≡ L.Faulty k p → r ≡ word_of (lookup_result a)
  lookup-faulty w h = word_at lookup_result e h w refl

  pub start-given : (x : ℕ) {s n : ℕ} → b ≡ L.Found s n → s ≡ start_after a x
  unfolding start_after
  start-given x h = after start_after x e h

  pub start-refused : (x : ℕ) {k : ℕ} → b ≡ L.Refused k → x ≡ start_after a x
  unfolding start_after
  start-refused x h = after start_after x e h

  pub start-faulty : (x : ℕ) {k p : ℕ} → b ≡ L.Faulty k p → x ≡ start_after a x
  unfolding start_after
  start-faulty x h = after start_after x e h

  pub size-given : (x : ℕ) {s n : ℕ} → b ≡ L.Found s n → n ≡ size_after a x
  unfolding size_after
  size-given x h = after size_after x e h

  pub size-refused : (x : ℕ) {k : ℕ} → b ≡ L.Refused k → x ≡ size_after a x
  unfolding size_after
  size-refused x h = after size_after x e h

  pub size-faulty : (x : ℕ) {k p : ℕ} → b ≡ L.Faulty k p → x ≡ size_after a x
  unfolding size_after
  size-faulty x h = after size_after x e h

module _ {a b : CountAnswer} (e : b ≡ a) where
  pub count-given : {n : ℕ} → b ≡ N.Count n → 0 ≡ word_of (count_result a)
  count-given h = word-success count_result e h refl

  pub count-refused : {k : ℕ} → b ≡ N.Refused k → k ≡ word_of (count_result a)
  count-refused h = word-refused count_result e h refl

  pub count-faulty : {k p r : ℕ} → r ≡ word k none (some p) → b ≡ N.Faulty k p → r ≡ word_of (count_result a)
  count-faulty w h = word_at count_result e h w refl

  pub counted-given : (x : ℕ) {n : ℕ} → b ≡ N.Count n → n ≡ count_after a x
  unfolding count_after
  counted-given x h = after count_after x e h

  pub counted-refused : (x : ℕ) {k : ℕ} → b ≡ N.Refused k → x ≡ count_after a x
  unfolding count_after
  counted-refused x h = after count_after x e h

  pub counted-faulty : (x : ℕ) {k p : ℕ} → b ≡ N.Faulty k p → x ≡ count_after a x
  unfolding count_after
  counted-faulty x h = after count_after x e h

pub ruleset checking = (word_sound, word_unchecked, word-fault, rules)

pub ruleset looking = (lookup-given, lookup-refused, lookup-faulty, start-given, start-refused, start-faulty, size-given, size-refused, size-faulty, rules)

pub ruleset counting = (count-given, count-refused, count-faulty, counted-given, counted-refused, counted-faulty, rules)
