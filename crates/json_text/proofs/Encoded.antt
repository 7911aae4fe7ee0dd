-- A JSON text is UTF-8: so a text that is not is no JSON text.
use Prim.Native.Nat.{ℕ, zero, suc, ◌+◌, ◌<◌, ◌≤◌}
use mathlib.Core.Path.{◌≡◌, refl, subst⁻¹}
use mathlib.Core.List.{List}
use mathlib.Core.Bool.{Bool, true, false, ◌||◌}
use native.Mathlib.Omega.{arith}
use lib.ListN.{length}
use Rattle.refusal.proofs.Tests.{both}
use Rattle.json_text.specs.tokens.Bytes.{choose, same, is_ws, is_digit, byte_at}
use Rattle.json_text.specs.tokens.Parts.{digits, word_at}
use Rattle.json_text.specs.tokens.Numbers.{is_sign, is_e, some_digits, int_at, frac_at, sign_at, exp_at, unsigned_at, number_at}
use Rattle.std.specs.Prelude.{Some}
use Rattle.json_text.proofs.tokens.Laws.{if-case, then-case, nowhere, in_text, span-on, span_stop, digit_zero}
use Rattle.json_text.proofs.tokens.Numerals.{numeral_complete}
use Rattle.json_text.specs.characters.Chars.{Utf8}
use Rattle.json_text.proofs.strings.Encoded.{encoded_both, encoded_low, encoded_step, or_case, same_low, inside-low, string_encoded}
use Rattle.json_text.specs.Rfc.{Ws, Items, Listed, Member, ValueOf, Value, JsonText}

at_encoded : (s : List ℕ) (i a e : ℕ) → Some a ≡ Some e → Utf8 s i a → Utf8 s i e
at_encoded s i a e q r = let z : a ≡ e = cc in rw z at r

ws-low : (b : ℕ) → is_ws b ≡ true → b < 128
unfolding is_ws
ws-low b e =
    or_case _ _ _ e (λ t. same_low b 0x20 t (omega arith)) (λ t.
    or_case _ _ _ t (λ u. same_low b 0x09 u (omega arith)) (λ t.
    or_case _ _ _ t (λ u. same_low b 0x0A u (omega arith)) (λ u. same_low b 0x0D u (omega arith))))

ws_encoded : (s : List ℕ) (i e : ℕ) → Ws s i e → Utf8 s i e
ws_encoded s i e Ws.done = Utf8.done
ws_encoded s i e (Ws.one t r) = encoded_low s i e (ws-low _ t) (ws_encoded s (i + 1) e r)

-- ---- numbers and words

digit_low : (b : ℕ) → is_digit b ≡ true → b < 128
unfolding is_digit
digit_low b e = inside-low 0x30 0x39 b e (omega arith)

digits-turn : (s : List ℕ) (i : ℕ) → (is_digit (byte_at s i) ≡ true → Utf8 s (i + 1) (digits s (i + 1))) → Utf8 s i (digits s i)
digits-turn s i f = go (is_digit (byte_at s i)) refl
  where
    go : (t : Bool) → is_digit (byte_at s i) ≡ t → Utf8 s i (digits s i)
    go false t = subst⁻¹ (λ (k : ℕ). Utf8 s i k) (span_stop is_digit s i t) Utf8.done
    go true t = subst⁻¹ (λ (k : ℕ). Utf8 s i k) (span-on is_digit s i digit_zero t) (encoded_low s i (digits s (i + 1)) (digit_low _ t) (f t))

digits_from : (s : List ℕ) (n i : ℕ) → length s ≤ n + i → Utf8 s i (digits s i)
digits_from s zero i h = digits-turn s i (λ t. absurd (omega (arith, in_text is_digit s i digit_zero t)))
digits_from s (suc n) i h = digits-turn s i (λ t. digits_from s n (i + 1) (omega arith))

module _ (s : List ℕ) where
  some_encoded : (i e : ℕ) → some_digits s i ≡ Some e → Utf8 s i e
  unfolding some_digits
  some_encoded i e q = if-case _ _ _ _ _ q (λ t p. at_encoded s i (digits s i) e p (digits_from s (length s) i (omega arith))) (λ t p. nowhere _ e p)

  int_encoded : (i e : ℕ) → int_at s i ≡ Some e → Utf8 s i e
  unfolding int_at
  int_encoded i e q =
      if-case _ _ _ _ _ q (λ t p. at_encoded s i (i + 1) e p (encoded_low s i (i + 1) (same_low _ _ t (omega arith)) Utf8.done)) (λ t p. some_encoded i e p)

  frac_encoded : (i e : ℕ) → frac_at s i ≡ Some e → Utf8 s i e
  unfolding frac_at
  frac_encoded i e q =
      if-case _ _ _ _ _ q (λ t p. encoded_low s i e (same_low _ _ t (omega arith)) (some_encoded (i + 1) e p)) (λ t p. at_encoded s i i e p Utf8.done)

  sign_encoded : (i e : ℕ) → Utf8 s (sign_at s i) e → Utf8 s i e
  unfolding sign_at choose is_sign
  sign_encoded i e r = go (same (byte_at s i) 0x2D || same (byte_at s i) 0x2B) refl r
    where
      go : (t : Bool) → (same (byte_at s i) 0x2D || same (byte_at s i) 0x2B) ≡ t → Utf8 s (choose t (i + 1) i) e → Utf8 s i e
      go true t r = encoded_low s i e (or_case _ _ _ t (λ u. same_low (byte_at s i) 0x2D u (omega arith)) (λ u. same_low (byte_at s i) 0x2B u (omega arith))) r
      go false t r = r

  exp_encoded : (i e : ℕ) → exp_at s i ≡ Some e → Utf8 s i e
  unfolding exp_at is_e
  exp_encoded i e q =
      if-case _ _ _ _ _ q
      (λ t p. encoded_low s i e (or_case _ _ _ t (λ u. same_low (byte_at s i) 0x65 u (omega arith)) (λ u. same_low (byte_at s i) 0x45 u (omega arith))) (sign_encoded (i + 1) e (some_encoded (sign_at s (i + 1)) e p)))
      (λ t p. at_encoded s i i e p Utf8.done)

  unsigned_encoded : (i e : ℕ) → unsigned_at s i ≡ Some e → Utf8 s i e
  unfolding unsigned_at
  unsigned_encoded i e q =
      then-case _ _ _ e q (λ j p w. then-case _ _ _ e w (λ k u x. encoded_both s i j e (int_encoded i j p) (encoded_both s j k e (frac_encoded j k u) (exp_encoded k e x))))

  number_encoded : (i e : ℕ) → number_at s i ≡ Some e → Utf8 s i e
  unfolding number_at
  number_encoded i e q =
      if-case _ _ _ _ _ q (λ t p. encoded_low s i e (same_low _ _ t (omega arith)) (unsigned_encoded (i + 1) e p)) (λ t p. unsigned_encoded i e p)

  word_encoded : (i a b c d e : ℕ) → a < 128 → b < 128 → c < 128 → d < 128 → word_at s i a b c d ≡ Some e → Utf8 s i e
  unfolding word_at
  word_encoded i a b c d e ha hb hc hd q =
      if-case _ _ _ _ _ q
      (λ t p.
      let x = both (same (byte_at s i) a) _ t in
      let y = both (same (byte_at s (i + 1)) b) _ x.1 in
      let z = both (same (byte_at s (i + 2)) c) (same (byte_at s (i + 3)) d) y.1 in
      at_encoded s i (i + 4) e p
      (encoded_low s i (i + 4) (same_low _ a x.0 ha) (encoded_step s (i + 1) (i + 2) (i + 4) (omega arith) (same_low _ b y.0 hb)
      (encoded_step s (i + 2) (i + 3) (i + 4) (omega arith) (same_low _ c z.0 hc) (encoded_step s (i + 3) (i + 4) (i + 4) (omega arith) (same_low _ d z.1 hd) Utf8.done)))))
      (λ t p. nowhere _ e p)

-- ---- values

module _ (s : List ℕ) (Item : ℕ → ℕ → Type 0) (f : (i e : ℕ) → Item i e → Utf8 s i e) where
  mark_encoded : (i k m mark : ℕ) → Ws s i k → byte_at s k ≡ mark → mark < 128 → Utf8 s (k + 1) m → Utf8 s i m
  mark_encoded i k m mark w b h r = encoded_both s i k m (ws_encoded s i k w) (encoded_low s k m (omega arith) r)

  items_encoded : (close i e : ℕ) → close < 128 → Items s Item close i e → Utf8 s i e
  items_encoded close i e h (Items.last {j = j} {k = k} v w b) = encoded_both s i j e (f i j v) (mark_encoded j k e close w b h Utf8.done)
  items_encoded close i e h (Items.next {j = j} {k = k} {m = m} v w b x r) =
      encoded_both s i j e (f i j v) (mark_encoded j k e 0x2C w b (omega arith) (encoded_both s (k + 1) m e (ws_encoded s (k + 1) m x) (items_encoded close m e h r)))

  listed_encoded : (close i e : ℕ) → close < 128 → Listed s Item close i e → Utf8 s i e
  listed_encoded close i e h (Listed.empty {k = k} w b) = mark_encoded i k e close w b h Utf8.done
  listed_encoded close i e h (Listed.some {k = k} w r) = encoded_both s i k e (ws_encoded s i k w) (items_encoded close k e h r)

  member_encoded : (i e : ℕ) → Member s Item i e → Utf8 s i e
  member_encoded i e (Member.member {j = j} {k = k} {m = m} t w b x v) =
      encoded_both s i j e (string_encoded s i j t) (mark_encoded j k e 0x3A w b (omega arith) (encoded_both s (k + 1) m e (ws_encoded s (k + 1) m x) (f m e v)))

value_encoded : (d : ℕ) (s : List ℕ) (i e : ℕ) → Value s d i e → Utf8 s i e
value_encoded zero s i e v = absurd v
value_encoded (suc d) s i e (ValueOf.is_true t) = word_encoded s i 0x74 0x72 0x75 0x65 e (omega arith) (omega arith) (omega arith) (omega arith) t
value_encoded (suc d) s i e (ValueOf.is_null t) = word_encoded s i 0x6E 0x75 0x6C 0x6C e (omega arith) (omega arith) (omega arith) (omega arith) t
value_encoded (suc d) s i e (ValueOf.is_false b t) = encoded_low s i e (omega arith) (word_encoded s (i + 1) 0x61 0x6C 0x73 0x65 e (omega arith) (omega arith) (omega arith) (omega arith) t)
value_encoded (suc d) s i e (ValueOf.is_number t) = number_encoded s i e (numeral_complete s i e t)
value_encoded (suc d) s i e (ValueOf.is-string t) = string_encoded s i e t
value_encoded (suc d) s i e (ValueOf.array b r) = encoded_low s i e (omega arith) (listed_encoded s (Value s d) (value_encoded d s) 0x5D (i + 1) e (omega arith) r)
value_encoded (suc d) s i e (ValueOf.object b r) =
    encoded_low s i e (omega arith) (listed_encoded s (Member s (Value s d)) (member_encoded s (Value s d) (value_encoded d s)) 0x7D (i + 1) e (omega arith) r)

pub json_utf8 : (d : ℕ) (s : List ℕ) → JsonText d s → Utf8 s 0 (length s)
json_utf8 d s (JsonText.text i e w v x) =
    encoded_both s 0 i (length s) (ws_encoded s 0 i w) (encoded_both s i e (length s) (value_encoded d s i e v) (ws_encoded s e (length s) x))
