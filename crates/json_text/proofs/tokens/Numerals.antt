-- Numbers: what is found by computing is what the rules derive.
use Prim.Native.Nat.{ℕ, zero, suc, ◌+◌, ◌≤◌}
use mathlib.Core.Path.{◌≡◌, refl, ap, subst⁻¹, ◌∙◌}
use mathlib.Core.List.{List}
use mathlib.Core.Bool.{Bool, true, false}
use native.Mathlib.Omega.{arith}
use lib.ListN.{length}
use Rattle.json_text.specs.tokens.Bytes.{byte_at, is_digit}
use Rattle.json_text.specs.tokens.Parts.{digits}
use Rattle.json_text.specs.tokens.Numbers.{some_digits, int_at, frac_at, sign_at, exp_at, unsigned_at, number_at, Digits, IntPart, FracPart, ExpPart, Numeral}
use Rattle.std.specs.Prelude.{Some}
use Rattle.json_text.proofs.tokens.Laws.{if_yes, if_no, if-eq, if_ne, if-case, then_at, then-case, nowhere, is_same, not_same, in_text, digit_zero, span-on, span_stop}

at-end : (P : ℕ → Type 0) (a b : ℕ) → Some a ≡ Some b → P a → P b
at-end P a b q p = let z : a ≡ b = cc in rw z at p

-- ---- digits

digits-turn : (s : List ℕ) (i : ℕ) → is_digit (byte_at s i) ≡ true → (is_digit (byte_at s (i + 1)) ≡ true → Digits s (i + 1) (digits s (i + 1))) → Digits s i (digits s i)
digits-turn s i h f = go (is_digit (byte_at s (i + 1))) refl
  where
    go : (t : Bool) → is_digit (byte_at s (i + 1)) ≡ t → Digits s i (digits s i)
    go true t = subst⁻¹ (λ (k : ℕ). Digits s i k) (span-on is_digit s i digit_zero h) (Digits.next h (f t))
    go false t = subst⁻¹ (λ (k : ℕ). Digits s i k) (span-on is_digit s i digit_zero h ∙ span_stop is_digit s (i + 1) t) (Digits.last h t)

digits_from : (s : List ℕ) (n i : ℕ) → length s ≤ n + i → is_digit (byte_at s i) ≡ true → Digits s i (digits s i)
digits_from s zero i l h = absurd (omega (arith, in_text is_digit s i digit_zero h))
digits_from s (suc n) i l h = digits-turn s i h (digits_from s n (i + 1) (omega arith))

pub digits-end : (s : List ℕ) (i e : ℕ) → Digits s i e → digits s i ≡ e
digits-end s i e (Digits.last h t) = span-on is_digit s i digit_zero h ∙ span_stop is_digit s (i + 1) t
digits-end s i e (Digits.next h r) = span-on is_digit s i digit_zero h ∙ digits-end s (i + 1) e r

pub digits-first : (s : List ℕ) (i e : ℕ) → Digits s i e → is_digit (byte_at s i) ≡ true
digits-first s i e (Digits.last h t) = h
digits-first s i e (Digits.next h r) = h

-- no digit stands behind them
pub digits_stop : (s : List ℕ) (i e : ℕ) → Digits s i e → is_digit (byte_at s e) ≡ false
digits_stop s i e (Digits.last h t) = t
digits_stop s i e (Digits.next h r) = digits_stop s (i + 1) e r

module _ (s : List ℕ) where
  some-sound : (i e : ℕ) → some_digits s i ≡ Some e → Digits s i e
  unfolding some_digits
  some-sound i e q = if-case _ _ _ _ _ q (λ t p. at-end (Digits s i) (digits s i) e p (digits_from s (length s) i (omega arith) t)) (λ t p. nowhere _ e p)

  some_complete : (i e : ℕ) → Digits s i e → some_digits s i ≡ Some e
  unfolding some_digits
  some_complete i e r = if_yes _ _ _ (digits-first s i e r) ∙ ap Some (digits-end s i e r)

  -- ---- the parts of a number

  int_sound : (i e : ℕ) → int_at s i ≡ Some e → IntPart s i e
  unfolding int_at
  int_sound i e q =
      if-case _ _ _ _ _ q (λ t p. at-end (IntPart s i) (i + 1) e p (IntPart.is_zero (is_same _ _ t))) (λ t p. IntPart.is-digits (not_same _ _ t) (some-sound i e p))

  int_complete : (i e : ℕ) → IntPart s i e → int_at s i ≡ Some e
  unfolding int_at
  int_complete i e (IntPart.is_zero a) = if-eq _ _ _ _ a
  int_complete i e (IntPart.is-digits a r) = if_ne _ _ _ _ a ∙ some_complete i e r

  frac-sound : (i e : ℕ) → frac_at s i ≡ Some e → FracPart s i e
  unfolding frac_at
  frac-sound i e q =
      if-case _ _ _ _ _ q (λ t p. FracPart.frac (is_same _ _ t) (some-sound (i + 1) e p)) (λ t p. at-end (FracPart s i) i e p (FracPart.none (not_same _ _ t)))

  frac_complete : (i e : ℕ) → FracPart s i e → frac_at s i ≡ Some e
  unfolding frac_at
  frac_complete i e (FracPart.none a) = if_ne _ _ _ _ a
  frac_complete i e (FracPart.frac a r) = if-eq _ _ _ _ a ∙ some_complete (i + 1) e r

  exp-sound : (i e : ℕ) → exp_at s i ≡ Some e → ExpPart s i e
  unfolding exp_at
  exp-sound i e q =
      if-case _ _ _ _ _ q (λ t p. ExpPart.exp t (some-sound (sign_at s (i + 1)) e p)) (λ t p. at-end (ExpPart s i) i e p (ExpPart.none t))

  exp_complete : (i e : ℕ) → ExpPart s i e → exp_at s i ≡ Some e
  unfolding exp_at
  exp_complete i e (ExpPart.none a) = if_no _ _ _ a
  exp_complete i e (ExpPart.exp a r) = if_yes _ _ _ a ∙ some_complete (sign_at s (i + 1)) e r

  unsigned_complete : (i j k e : ℕ) → IntPart s i j → FracPart s j k → ExpPart s k e → unsigned_at s i ≡ Some e
  unfolding unsigned_at
  unsigned_complete i j k e n f x = then_at _ _ j (int_complete i j n) ∙ then_at _ _ k (frac_complete j k f) ∙ exp_complete k e x

  -- ---- a number

  pub numeral_sound : (i e : ℕ) → number_at s i ≡ Some e → Numeral s i e
  unfolding number_at unsigned_at
  numeral_sound i e q =
      if-case _ _ _ _ _ q
      (λ t p. then-case _ _ _ e p (λ j u w. then-case _ _ _ e w (λ k v x. Numeral.minus (is_same _ _ t) (int_sound (i + 1) j u) (frac-sound j k v) (exp-sound k e x))))
      (λ t p. then-case _ _ _ e p (λ j u w. then-case _ _ _ e w (λ k v x. Numeral.plain (not_same _ _ t) (int_sound i j u) (frac-sound j k v) (exp-sound k e x))))

  pub numeral_complete : (i e : ℕ) → Numeral s i e → number_at s i ≡ Some e
  unfolding number_at
  numeral_complete i e (Numeral.plain {j = j} {k = k} a n f x) = if_ne _ _ _ _ a ∙ unsigned_complete i j k e n f x
  numeral_complete i e (Numeral.minus {j = j} {k = k} a n f x) = if-eq _ _ _ _ a ∙ unsigned_complete (i + 1) j k e n f x
