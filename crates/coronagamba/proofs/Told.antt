-- What a match on an answer tells: b is the answer a that the library gave, and the arm taken knows it as c.
use Prim.Native.Nat.{ℕ, ◌+◌, ◌*◌, ◌^◌}
use mathlib.Core.Path.{◌≡◌, sym, ap, ◌∙◌}
use mathlib.Core.Option.{none, some}
use native.Mathlib.Omega.{arith}
use Rattle.refusal.specs.Result.{Result, success, refused, faulty, faulty_in}
use Rattle.coronagamba.specs.word.Word.{word, word_of}

-- ---- the answer word, by the result that f gives of an answer

alone : (k : ℕ) → k ≡ k + 2 ^ 8 * 0 + 2 ^ 32 * 0
alone k = omega arith

module _ {A B : Type 0} (f : A → Result B) where
  module _ {a b c : A} (e : b ≡ a) (h : b ≡ c) where
    told : {r : Result B} → f c ≡ r → word_of r ≡ word_of (f a)
    told g = ap word_of (sym g ∙ ap f (sym h ∙ e))

    -- 0 of a success, and the number of a refusal that comes alone
    pub word-success : {v : B} → f c ≡ success v → 0 ≡ word_of (f a)
    unfolding word_of
    word-success g = told g

    pub word-refused : {k : ℕ} → f c ≡ refused k → k ≡ word_of (f a)
    unfolding word_of
    word-refused {k} g = alone k ∙ told g

    -- with the position, and with the minishard
    pub word_at : {k p r : ℕ} → r ≡ word k none (some p) → f c ≡ faulty k p → r ≡ word_of (f a)
    unfolding word_of
    word_at w g = w ∙ told g

    pub word_in : {k m p r : ℕ} → r ≡ word k (some m) (some p) → f c ≡ faulty_in k m p → r ≡ word_of (f a)
    unfolding word_of
    word_in w g = w ∙ told g

  -- the word of the answer b is that of a, b being a
  pub word_same : {a b : A} {r : ℕ} → r ≡ word_of (f b) → b ≡ a → r ≡ word_of (f a)
  word_same h e = h ∙ ap (λ (x : A). word_of (f x)) e

-- ---- what a lent number or array holds afterwards, x before

pub after : {A X : Type 0} (f : A → X → X) (x : X) {a b c : A} → b ≡ a → b ≡ c → f c x ≡ f a x
after {A} f x e h = ap (λ (a : A). f a x) (sym h ∙ e)

pub left : {A X : Type 0} (f : A → X → X) (x : X) {a b : A} {r : X} → r ≡ f b x → b ≡ a → r ≡ f a x
left {A} f x h e = h ∙ ap (λ (a : A). f a x) e
