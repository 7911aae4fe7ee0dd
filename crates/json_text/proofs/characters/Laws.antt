-- Laws of a character: where one is, the text is, and it has 6 bytes at most.
use Prim.Native.Nat.{ℕ, ◌<◌, ◌≤◌}
use mathlib.Core.Path.{◌≡◌, refl, ◌∙◌}
use mathlib.Core.List.{List}
use mathlib.Core.Bool.{Bool, true, false}
use native.Mathlib.Omega.{arith}
use lib.ListN.{length, get_or}
use borrow.Author.Tests.{ltb-true, ltb-false, le-ltb}
use Rattle.json_text.specs.tokens.Bytes.{choose, under}
use Rattle.json_text.proofs.tokens.Laws.{if_yes, within}
use Rattle.json_text.specs.characters.Chars.{char_len, escape_len, utf8_len}

pub is-under : (c k : ℕ) → under c k ≡ true → c < k
unfolding under
is-under c k e = ltb-true c k e

pub not-under : (c k : ℕ) → under c k ≡ false → k ≤ c
unfolding under
not-under c k e = ltb-false c k e

pub to-not-under : (c k : ℕ) → k ≤ c → under c k ≡ false
unfolding under
to-not-under c k h = le-ltb c k h

-- where a character is, the text is
pub char_here : (s : List ℕ) (i k : ℕ) → k ≡ char_len s i → (k ≡ 0 → ⊥) → i < length s
unfolding char_len
char_here s i k e h = go (under (get_or s i 0) 0x20) refl
  where
    go : (t : Bool) → under (get_or s i 0) 0x20 ≡ t → i < length s
    go true q = absurd (h (e ∙ if_yes _ _ _ q))
    go false q = within s i (omega (arith, not-under (get_or s i 0) 0x20 q))

pub if-le : (k : ℕ) (t : Bool) (a b : ℕ) → a ≤ k → b ≤ k → choose t a b ≤ k
unfolding choose
if-le k true a b p q = p
if-le k false a b p q = q

pub char_le : (s : List ℕ) (i : ℕ) → char_len s i ≤ 6
unfolding char_len escape_len utf8_len
char_le s i =
    if-le 6 _ _ _ (omega arith) (if-le 6 _ _ _ (omega arith) (if-le 6 _ _ _
    (if-le 6 _ _ _ (omega arith) (if-le 6 _ _ _ (omega arith) (omega arith)))
    (if-le 6 _ _ _ (omega arith) (if-le 6 _ _ _ (omega arith) (if-le 6 _ _ _ (omega arith) (if-le 6 _ _ _ (omega arith) (omega arith)))))))
