-- What is computed is found just where the rules derive it: sound (what is found is derived) and complete (what is derived is found).
use Prim.Native.Nat.{ℕ, zero, suc, ◌+◌, ◌<◌, ◌≤◌}
use mathlib.Core.Path.{◌≡◌, refl, sym, ap, subst⁻¹, ◌∙◌}
use mathlib.Core.List.{List}
use mathlib.Core.Bool.{Bool, true, false, not, ◌&&◌, true≢false}
use native.Mathlib.Omega.{arith}
use lib.Dec.{T, T_not, eqb, eqb_refl, leb}
use lib.ListN.{length, get_or-eq_default}
use borrow.Author.Tests.{leb-true}
use Rattle.refusal.proofs.Tests.{both}
use Rattle.json_text.specs.tokens.Bytes.{same, inside, byte_at, is_ws, is_digit}
use Rattle.json_text.specs.tokens.Parts.{ws, mark_at, close_at, word_at}
use Rattle.json_text.specs.tokens.Numbers.{some_digits, int_at, unsigned_at, number_at}
use Rattle.std.specs.Prelude.{Option, Some, None}
use Rattle.json_text.proofs.tokens.Laws.{if_no, if-eq, if_ne, if-case, then_at, then-case, follow-case, nowhere, is_same, to_same, to-not-same, span-on, span_stop, in_text, ws-zero}
use Rattle.json_text.proofs.tokens.Numerals.{numeral_sound, numeral_complete}
use Rattle.json_text.proofs.strings.Characters.{string-sound, string_complete, string-first}
use Rattle.json_text.specs.Grammar.{scalar_at, items_at, list_at, member_at, value_at, ends_at, is_json}
use Rattle.json_text.specs.Rfc.{Ws, Items, Listed, Member, ValueOf, Value, JsonText}
use Rattle.json_text.proofs.Ahead.{Ahead, value_ahead, member_ahead, mark_ahead}
use Rattle.json_text.proofs.Turns.{items_last, items_on}

at_same : (P : ℕ → Type 0) (a b : ℕ) → Some a ≡ Some b → P a → P b
at_same P a b q p = let z : a ≡ b = cc in rw z at p

-- ---- white space

ws-turn : (s : List ℕ) (i : ℕ) → (is_ws (byte_at s i) ≡ true → Ws s (i + 1) (ws s (i + 1))) → Ws s i (ws s i)
ws-turn s i f = go (is_ws (byte_at s i)) refl
  where
    go : (t : Bool) → is_ws (byte_at s i) ≡ t → Ws s i (ws s i)
    go false t = subst⁻¹ (λ (k : ℕ). Ws s i k) (span_stop is_ws s i t) Ws.done
    go true t = subst⁻¹ (λ (k : ℕ). Ws s i k) (span-on is_ws s i ws-zero t) (Ws.one t (f t))

ws-from : (s : List ℕ) (n i : ℕ) → length s ≤ n + i → Ws s i (ws s i)
ws-from s zero i h = ws-turn s i (λ t. absurd (omega (arith, in_text is_ws s i ws-zero t)))
ws-from s (suc n) i h = ws-turn s i (λ t. ws-from s n (i + 1) (omega arith))

pub ws-all : (s : List ℕ) (i : ℕ) → Ws s i (ws s i)
ws-all s i = ws-from s (length s) i (omega arith)

-- white space up to a byte that is none is all of it
pub ws-max : (s : List ℕ) (i k : ℕ) → is_ws (byte_at s k) ≡ false → Ws s i k → ws s i ≡ k
ws-max s i k e Ws.done = span_stop is_ws s i e
ws-max s i k e (Ws.one t r) = span-on is_ws s i ws-zero t ∙ ws-max s (i + 1) k e r

-- ---- sound

mark_sound : (C : Type 0) (mark : ℕ) (s : List ℕ) (i e : ℕ) → mark_at mark s i ≡ Some e → (byte_at s (ws s i) ≡ mark → Ws s (ws s i + 1) e → C) → C
unfolding mark_at
mark_sound C mark s i e q f =
    if-case _ _ _ _ _ q (λ t p. f (is_same _ _ t) (at_same (Ws s (ws s i + 1)) (ws s (ws s i + 1)) e p (ws-all s (ws s i + 1)))) (λ t p. nowhere C e p)

module _ (s : List ℕ) (item : ℕ → Option ℕ) (Item : ℕ → ℕ → Type 0) (sound : (i e : ℕ) → item i ≡ Some e → Item i e) where
  items_sound : (close n i e : ℕ) → items_at item close s n i ≡ Some e → Items s Item close i e
  unfolding items_at close_at
  items_sound close zero i e q = nowhere _ e q
  items_sound close (suc n) i e q =
      then-case _ _ _ e q (λ j p w. follow-case _ _ _ _ _ w
      (λ m t u. mark_sound _ 0x2C s j m t (λ b x. Items.next (sound i j p) (ws-all s j) b x (items_sound close n m e u)))
      (λ t u. if-case _ _ _ _ _ u
      (λ b x. at_same (Items s Item close i) (ws s j + 1) e x (Items.last (sound i j p) (ws-all s j) (is_same _ _ b)))
      (λ b x. nowhere _ e x)))

  list-sound : (close i e : ℕ) → list_at item close s i ≡ Some e → Listed s Item close i e
  unfolding list_at
  list-sound close i e q =
      if-case _ _ _ _ _ q
      (λ t u. at_same (Listed s Item close i) (ws s i + 1) e u (Listed.empty (ws-all s i) (is_same _ _ t)))
      (λ t u. Listed.some (ws-all s i) (items_sound close (length s) (ws s i) e u))

  member-sound : (i e : ℕ) → member_at item s i ≡ Some e → Member s Item i e
  unfolding member_at
  member-sound i e q =
      then-case _ _ _ e q (λ j p w. then-case _ _ _ e w
      (λ m t u. mark_sound _ 0x3A s j m t (λ b x. Member.member (string-sound s i j p) (ws-all s j) b x (sound m e u))))

pub value-sound : (d : ℕ) (s : List ℕ) (i e : ℕ) → value_at d s i ≡ Some e → Value s d i e
unfolding value_at scalar_at
value-sound zero s i e q = nowhere _ e q
value-sound (suc d) s i e q =
    let inner : (j k : ℕ) → value_at d s j ≡ Some k → Value s d j k = value-sound d s in
    if-case _ _ _ _ _ q
    (λ t p. ValueOf.object (is_same _ _ t) (list-sound s (member_at (value_at d s) s) (Member s (Value s d)) (member-sound s (value_at d s) (Value s d) inner) 0x7D (i + 1) e p))
    (λ t p. if-case _ _ _ _ _ p
    (λ u w. ValueOf.array (is_same _ _ u) (list-sound s (value_at d s) (Value s d) inner 0x5D (i + 1) e w))
    (λ u w. if-case _ _ _ _ _ w (λ x y. ValueOf.is-string (string-sound s i e y))
    (λ x y. if-case _ _ _ _ _ y (λ x y. ValueOf.is_true y)
    (λ x y. if-case _ _ _ _ _ y (λ x y. ValueOf.is_null y)
    (λ x y. if-case _ _ _ _ _ y (λ x y. ValueOf.is_false (is_same _ _ x) y)
    (λ x y. ValueOf.is_number (numeral_sound s i e y)))))))

-- ---- the first byte of a value: no white space, and it closes nothing

pub word_first : (s : List ℕ) (i a b c d e : ℕ) → word_at s i a b c d ≡ Some e → byte_at s i ≡ a
unfolding word_at
word_first s i a b c d e q = if-case _ _ _ _ _ q (λ t p. is_same _ _ (both (same (byte_at s i) a) _ t).0) (λ t p. nowhere _ e p)

pub number-first : (s : List ℕ) (i e : ℕ) → number_at s i ≡ Some e → (0x2C < byte_at s i) × (byte_at s i < 0x3A)
unfolding number_at unsigned_at int_at some_digits is_digit inside
number-first s i e q =
    if-case _ _ _ _ _ q (λ t p. omega (arith, is_same _ _ t))
    (λ t p. then-case _ _ _ e p (λ j u w. if-case _ _ _ _ _ u (λ x y. omega (arith, is_same _ _ x))
    (λ x y. if-case _ _ _ _ _ y
    (λ v w. let z = both (leb 0x30 (byte_at s i)) (leb (byte_at s i) 0x39) v in omega (arith, leb-true 0x30 (byte_at s i) z.0, leb-true (byte_at s i) 0x39 z.1))
    (λ v w. nowhere _ j w))))

unfoldable pub opens : ℕ → Bool
opens b = not (is_ws b) && (not (same b 0x5D) && not (same b 0x7D))

opens_at : (b c : ℕ) → b ≡ c → opens c ≡ true → opens b ≡ true
opens_at b c p q = rw p q

opens-number : (b : ℕ) → 0x2C < b → b < 0x3A → opens b ≡ true
unfolding opens is_ws
opens-number b h k = rw (to-not-same b 0x20 (omega arith), to-not-same b 0x09 (omega arith), to-not-same b 0x0A (omega arith), to-not-same b 0x0D (omega arith), to-not-same b 0x5D (omega arith), to-not-same b 0x7D (omega arith))

pub opens-ws : (b : ℕ) → opens b ≡ true → is_ws b ≡ false
unfolding opens
opens-ws b e = go (is_ws b) refl
  where
    go : (t : Bool) → is_ws b ≡ t → is_ws b ≡ false
    go false t = t
    go true t = absurd (true≢false (sym (rw t at e)))

pub opens_not : (b c : ℕ) → opens c ≡ false → opens b ≡ true → b ≡ c → ⊥
opens_not b c z e p = true≢false (sym e ∙ ap opens p ∙ z)

pub no-ws : (b c : ℕ) → b ≡ c → is_ws c ≡ false → is_ws b ≡ false
no-ws b c p q = rw p q

pub value-opens : (d : ℕ) (s : List ℕ) (i e : ℕ) → Value s d i e → opens (byte_at s i) ≡ true
unfolding opens is_ws same
value-opens zero s i e v = absurd v
value-opens (suc d) s i e (ValueOf.is_true t) = opens_at _ 0x74 (word_first s i _ _ _ _ e t) refl
value-opens (suc d) s i e (ValueOf.is_null t) = opens_at _ 0x6E (word_first s i _ _ _ _ e t) refl
value-opens (suc d) s i e (ValueOf.is_false b t) = opens_at _ 0x66 b refl
value-opens (suc d) s i e (ValueOf.is_number t) = let p = number-first s i e (numeral_complete s i e t) in opens-number (byte_at s i) p.0 p.1
value-opens (suc d) s i e (ValueOf.is-string t) = opens_at _ 0x22 (string-first s i e t) refl
value-opens (suc d) s i e (ValueOf.array b r) = opens_at _ 0x5B b refl
value-opens (suc d) s i e (ValueOf.object b r) = opens_at _ 0x7B b refl

pub member-opens : (s : List ℕ) (B : ℕ → ℕ → Type 0) (i e : ℕ) → Member s B i e → opens (byte_at s i) ≡ true
unfolding opens is_ws same
member-opens s B i e (Member.member {j = j} t w b x v) = opens_at _ 0x22 (string-first s i j t) refl

-- ---- complete

-- a mark that is no white space, up to what opens something
pub mark_complete : (mark : ℕ) (s : List ℕ) (i k m : ℕ) → is_ws mark ≡ false → Ws s i k → byte_at s k ≡ mark → Ws s (k + 1) m → opens (byte_at s m) ≡ true → mark_at mark s i ≡ Some m
unfolding mark_at
mark_complete mark s i k m z w b x o =
    let p : ws s i ≡ k = ws-max s i k (no-ws _ _ b z) w in
    rw p (if-eq _ _ _ _ b ∙ ap Some (ws-max s (k + 1) m (opens-ws _ o) x))

pub mark_other : (mark : ℕ) (s : List ℕ) (i k close : ℕ) → is_ws close ≡ false → (close ≡ mark → ⊥) → Ws s i k → byte_at s k ≡ close → mark_at mark s i ≡ None
unfolding mark_at
mark_other mark s i k close z n w b =
    let p : ws s i ≡ k = ws-max s i k (no-ws _ _ b z) w in
    rw p (if_ne _ _ _ _ (λ q. n (sym b ∙ q)))

close_complete : (close : ℕ) (s : List ℕ) (i k : ℕ) → is_ws close ≡ false → Ws s i k → byte_at s k ≡ close → close_at close s i ≡ Some (k + 1)
unfolding close_at
close_complete close s i k z w b =
    let p : ws s i ≡ k = ws-max s i k (no-ws _ _ b z) w in
    rw p (if-eq _ _ _ _ b)

-- a closing bracket
pub record Closes (close : ℕ) : Type 0 where
  pub solid : is_ws close ≡ false
  pub shut : opens close ≡ false
  pub apart : close ≡ 0x2C → ⊥
  pub there : 0 < close

pub square : Closes 0x5D
unfolding opens is_ws same
square = record { solid = refl; shut = refl; apart = λ q. omega (arith, q); there = omega arith }

pub curly : Closes 0x7D
unfolding opens is_ws same
curly = record { solid = refl; shut = refl; apart = λ q. omega (arith, q); there = omega arith }

pub comma_solid : is_ws 0x2C ≡ false
unfolding is_ws same
comma_solid = refl

pub colon_solid : is_ws 0x3A ≡ false
unfolding is_ws same
colon_solid = refl

module _ (s : List ℕ) (item : ℕ → Option ℕ) (Item : ℕ → ℕ → Type 0)
    (complete : (i e : ℕ) → Item i e → item i ≡ Some e) (first : (i e : ℕ) → Item i e → opens (byte_at s i) ≡ true)
    (ahead : (i : ℕ) → Ahead (i + 1) (item i)) (close : ℕ) (cl : Closes close) where
  pub items_first : (i e : ℕ) → Items s Item close i e → opens (byte_at s i) ≡ true
  items_first i e (Items.last {j = j} v w b) = first i j v
  items_first i e (Items.next {j = j} v w b x r) = first i j v

  items_complete : (n i e : ℕ) → length s ≤ n + i → Items s Item close i e → items_at item close s n i ≡ Some e
  items_complete n i e h (Items.last {j = j} {k = k} v w b) =
      items_last item close s ahead n i j h cl.there (complete i j v) (mark_other 0x2C s j k close cl.solid cl.apart w b) ∙ close_complete close s j k cl.solid w b
  items_complete n i e h (Items.next {j = j} {k = k} {m = m} v w b x r) =
      let t = mark_complete 0x2C s j k m comma_solid w b x (items_first m e r) in
      let a = complete i j v in
      let y = items_on item close s ahead n i j m (items_at item close s n i) h refl a t (omega (arith, ahead i j a, mark_ahead 0x2C s j m t)) in
      y.2 ∙ items_complete y.0 m e y.1 r

  list_complete : (i e : ℕ) → Listed s Item close i e → list_at item close s i ≡ Some e
  unfolding list_at
  list_complete i e (Listed.empty {k = k} w b) =
      let p : ws s i ≡ k = ws-max s i k (no-ws _ _ b cl.solid) w in
      rw p (if-eq _ _ _ _ b)
  list_complete i e (Listed.some {k = k} w r) =
      let o = items_first k e r in
      let p : ws s i ≡ k = ws-max s i k (opens-ws _ o) w in
      rw p (if_ne _ _ _ _ (opens_not (byte_at s k) close cl.shut o) ∙ items_complete (length s) k e (omega arith) r)

member_complete : (s : List ℕ) (item : ℕ → Option ℕ) (Item : ℕ → ℕ → Type 0) (complete : (i e : ℕ) → Item i e → item i ≡ Some e)
    (first : (i e : ℕ) → Item i e → opens (byte_at s i) ≡ true) → (i e : ℕ) → Member s Item i e → member_at item s i ≡ Some e
unfolding member_at
member_complete s item Item complete first i e (Member.member {j = j} {k = k} {m = m} t w b x v) =
    then_at _ _ j (string_complete s i j t) ∙ then_at _ _ m (mark_complete 0x3A s j k m colon_solid w b x (first m e v)) ∙ complete m e v

other : (b c x : ℕ) → b ≡ c → T (not (eqb c x)) → same b x ≡ false
other b c x q t = to-not-same b x (λ r. T_not (eqb c x) t (eq_T (sym q ∙ r)))
  where
    eq_T : c ≡ x → T (eqb c x)
    eq_T p = rw (← p) (eqb_refl c)

pub value_complete : (d : ℕ) (s : List ℕ) (i e : ℕ) → Value s d i e → value_at d s i ≡ Some e
unfolding value_at scalar_at
value_complete zero s i e v = absurd v
value_complete (suc d) s i e (ValueOf.object b r) =
    if-eq _ _ _ _ b
    ∙ list_complete s (member_at (value_at d s) s) (Member s (Value s d)) (member_complete s (value_at d s) (Value s d) (value_complete d s) (value-opens d s)) (member-opens s (Value s d))
    (member_ahead (value_at d s) s (value_ahead d s)) 0x7D curly (i + 1) e r
value_complete (suc d) s i e (ValueOf.array b r) =
    if_no _ _ _ (other _ _ _ b tt) ∙ if-eq _ _ _ _ b ∙ list_complete s (value_at d s) (Value s d) (value_complete d s) (value-opens d s) (value_ahead d s) 0x5D square (i + 1) e r
value_complete (suc d) s i e (ValueOf.is-string t) =
    let b = string-first s i e t in
    if_no _ _ _ (other _ _ _ b tt) ∙ if_no _ _ _ (other _ _ _ b tt) ∙ if-eq _ _ _ _ b ∙ string_complete s i e t
value_complete (suc d) s i e (ValueOf.is_true t) =
    let b = word_first s i 0x74 0x72 0x75 0x65 e t in
    if_no _ _ _ (other _ _ _ b tt) ∙ if_no _ _ _ (other _ _ _ b tt) ∙ if_no _ _ _ (other _ _ _ b tt) ∙ if-eq _ _ _ _ b ∙ t
value_complete (suc d) s i e (ValueOf.is_null t) =
    let b = word_first s i 0x6E 0x75 0x6C 0x6C e t in
    if_no _ _ _ (other _ _ _ b tt) ∙ if_no _ _ _ (other _ _ _ b tt) ∙ if_no _ _ _ (other _ _ _ b tt) ∙ if_no _ _ _ (other _ _ _ b tt) ∙ if-eq _ _ _ _ b ∙ t
value_complete (suc d) s i e (ValueOf.is_false b t) =
    if_no _ _ _ (other _ _ _ b tt) ∙ if_no _ _ _ (other _ _ _ b tt) ∙ if_no _ _ _ (other _ _ _ b tt) ∙ if_no _ _ _ (other _ _ _ b tt) ∙ if_no _ _ _ (other _ _ _ b tt) ∙ if-eq _ _ _ _ b ∙ t
value_complete (suc d) s i e (ValueOf.is_number t) =
    let n = numeral_complete s i e t in
    let b = number-first s i e n in
    if_ne (byte_at s i) 0x7B _ _ (omega arith) ∙ if_ne (byte_at s i) 0x5B _ _ (omega arith) ∙ if_ne (byte_at s i) 0x22 _ _ (omega arith) ∙ if_ne (byte_at s i) 0x74 _ _ (omega arith) ∙ if_ne (byte_at s i) 0x6E _ _ (omega arith) ∙ if_ne (byte_at s i) 0x66 _ _ (omega arith) ∙ n

pub member-found : (d : ℕ) (s : List ℕ) (i e : ℕ) → Member s (Value s d) i e → member_at (value_at d s) s i ≡ Some e
member-found d s = member_complete s (value_at d s) (Value s d) (value_complete d s) (value-opens d s)

-- ---- a whole text: `is_json` is true just where the rules derive a JSON text

ends-case : (C : Type 0) (s : List ℕ) (r : Option ℕ) → ends_at s r ≡ true → ((e : ℕ) → r ≡ Some e → ws s e ≡ length s → C) → C
unfolding ends_at
ends-case C s (Some e) q f = f e refl (is_same _ _ q)
ends-case C s None q f = absurd (true≢false (sym q))

pub json_sound : (d : ℕ) (s : List ℕ) → is_json d s ≡ true → JsonText d s
unfolding is_json
json_sound d s q = ends-case _ s (value_at d s (ws s 0)) q (λ e p w. JsonText.text (ws s 0) e (ws-all s 0) (value-sound d s (ws s 0) e p) (rw w at (ws-all s e)))

pub json_complete : (d : ℕ) (s : List ℕ) → JsonText d s → is_json d s ≡ true
unfolding is_json ends_at
json_complete d s (JsonText.text i e w v x) =
    let p : ws s 0 ≡ i = ws-max s 0 i (opens-ws _ (value-opens d s i e v)) w in
    rw (p, value_complete d s i e v) (to_same _ _ (ws-max s e (length s) (no-ws _ 0 (get_or-eq_default s 0 (omega arith)) ws-zero) x))

-- a value that begins at i ends at one place only
pub value-one : (d : ℕ) (s : List ℕ) (i e f : ℕ) → Value s d i e → Value s d i f → e ≡ f
value-one d s i e f v w = let p = value_complete d s i e v in let q = value_complete d s i f w in cc
