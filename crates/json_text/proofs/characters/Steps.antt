-- What the functions of this module need: each way out as a case of its definition. b, t, r are what was read or what calls gave.
use Prim.Native.Nat.{ℕ, ◌<◌, ◌≤◌}
use mathlib.Core.Path.{◌≡◌, refl, ◌∙◌}
use mathlib.Core.List.{List}
use mathlib.Core.Bool.{true, false, not}
use native.Mathlib.Omega.{arith}
use borrow.Author.Tests.{leb-true, lt-ltb, le-ltb, not-true}
use lib.ListN.{get_or}
use lib.Dec.{ltb, leb}
use Rattle.refusal.proofs.Tests.{both}
use Rattle.json_text.specs.tokens.Bytes.{choose, same, under, inside}
use Rattle.json_text.proofs.tokens.Laws.{if_yes, if_no, if_ne, not_same}
use Rattle.json_text.specs.characters.Chars.{is_plain, utf8_len, char_len}

pub if-lt : {A : Type 0} (m n : ℕ) (a b : A) → m < n → choose (under m n) a b ≡ a
unfolding under
if-lt m n a b e = if_yes (ltb m n) a b (lt-ltb m n e)

pub if_ge : {A : Type 0} (m n : ℕ) (a b : A) → n ≤ m → choose (under m n) a b ≡ b
unfolding under
if_ge m n a b e = if_no (ltb m n) a b (le-ltb m n e)

-- ---- plain characters

pub plain-zero : is_plain 0 ≡ false
unfolding is_plain inside
plain-zero = refl

module _ (s : List ℕ) (i : ℕ) (e : is_plain (get_or s i 0) ≡ true) where
  plain-parts : (inside 0x20 0x7F (get_or s i 0) ≡ true) × (not (same (get_or s i 0) 0x22) ≡ true) × (not (same (get_or s i 0) 0x5C) ≡ true)
  unfolding is_plain
  plain-parts =
      let p = both (inside 0x20 0x7F (get_or s i 0)) _ e in
      let q = both (not (same (get_or s i 0) 0x22)) (not (same (get_or s i 0) 0x5C)) p.1 in
      (p.0, q.0, q.1)

  pub plain-low : (0x20 ≤ get_or s i 0) × (get_or s i 0 ≤ 0x7F)
  unfolding inside
  plain-low =
      let p = both (leb 0x20 (get_or s i 0)) (leb (get_or s i 0) 0x7F) plain-parts.0 in
      (leb-true 0x20 (get_or s i 0) p.0, leb-true (get_or s i 0) 0x7F p.1)

  pub plain_mark : get_or s i 0 ≡ 0x22 → ⊥
  plain_mark = not_same _ _ (not-true _ plain-parts.1)

  pub plain_slash : get_or s i 0 ≡ 0x5C → ⊥
  plain_slash = not_same _ _ (not-true _ plain-parts.2)

  pub plain-one : char_len s i ≡ 1
  unfolding char_len utf8_len
  plain-one = if_ge _ _ _ _ plain-low.0 ∙ if_ne _ _ _ _ plain_mark ∙ if_ne _ _ _ _ plain_slash ∙ if-lt _ _ _ _ (omega (arith, plain-low.1))
