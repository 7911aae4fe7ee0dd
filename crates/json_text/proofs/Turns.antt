-- One turn along the items of a list, whatever room it was given: what the loops do, and what a derivation's items say.
use Prim.Native.Nat.{ℕ, zero, suc, ◌+◌, ◌<◌, ◌≤◌}
use mathlib.Core.Path.{◌≡◌, refl, sym, ◌∙◌}
use mathlib.Core.List.{List}
use native.Mathlib.Omega.{arith}
use lib.ListN.{length}
use Rattle.json_text.specs.tokens.Bytes.{is_ws}
use Rattle.json_text.specs.tokens.Parts.{ws, mark_at, close_at}
use Rattle.std.specs.Prelude.{Option, Some, None}
use Rattle.json_text.proofs.tokens.Laws.{if_ne, if-case, nowhere, is_same, then_at, then_nothing, follow-at, follow_nothing, at_byte, le-span, ws-most}
use Rattle.json_text.specs.Grammar.{items_at}
use Rattle.json_text.proofs.Ahead.{Ahead}

-- past the end there is no mark
mark_within : (mark : ℕ) (s : List ℕ) (i e : ℕ) → 0 < mark → mark_at mark s i ≡ Some e → i < length s
unfolding mark_at
mark_within mark s i e h q =
    if-case _ _ _ _ _ q (λ t p. omega (arith, at_byte s (ws s i) mark h (is_same _ _ t), le-span is_ws s i)) (λ t p. nowhere _ e p)

-- what stands behind a mark lies within the text
pub mark_most : (mark : ℕ) (s : List ℕ) (i e : ℕ) → 0 < mark → mark_at mark s i ≡ Some e → e ≤ length s
unfolding mark_at
mark_most mark s i e h q =
    if-case _ _ _ _ _ q
    (λ t p. let w : ws s i < length s = at_byte s (ws s i) mark h (is_same _ _ t) in let z : ws s (ws s i + 1) ≡ e = cc in omega (arith, ws-most s (ws s i + 1) (omega arith)))
    (λ t p. nowhere _ e p)

close-past : (mark : ℕ) (s : List ℕ) (i : ℕ) → 0 < mark → length s ≤ i → close_at mark s i ≡ None
unfolding close_at
close-past mark s i h l = if_ne _ _ _ _ (λ q. let w = at_byte s (ws s i) mark h q in omega (arith, le-span is_ws s i))

module _ (item : ℕ → Option ℕ) (close : ℕ) (s : List ℕ) where
  pub items_none : (n i : ℕ) → item i ≡ None → items_at item close s n i ≡ None
  unfolding items_at
  items_none zero i e = refl
  items_none (suc n) i e = then_nothing _ _ e

  module _ (ahead : (k : ℕ) → Ahead (k + 1) (item k)) where
    pub items_last : (n i e : ℕ) → length s ≤ n + i → 0 < close → item i ≡ Some e → mark_at 0x2C s e ≡ None → items_at item close s n i ≡ close_at close s e
    unfolding items_at
    items_last zero i e h c p q = sym (close-past close s e c (omega (arith, ahead i e p)))
    items_last (suc n) i e h c p q = then_at _ _ e p ∙ follow_nothing _ _ _ q

    pub items_on : (n i e j : ℕ) (r : Option ℕ) → length s ≤ n + i → r ≡ items_at item close s n i → item i ≡ Some e → mark_at 0x2C s e ≡ Some j → i < j
        → (m : ℕ) × (length s ≤ m + j) × (r ≡ items_at item close s m j)
    unfolding items_at
    items_on zero i e j r h x p q l = absurd (omega (arith, ahead i e p, mark_within 0x2C s e j (omega arith) q))
    items_on (suc n) i e j r h x p q l = (n, omega arith, x ∙ then_at _ _ e p ∙ follow-at _ _ _ j q)
