-- The Z-curve order by the counts of zeros above the highest differing bits.
use Prim.Native.Nat.{ℕ, suc, ◌+◌, ◌-◌, ◌*◌, ◌^◌, ◌≤◌, ◌<◌}
use mathlib.Core.Path.{◌≡◌, refl, sym, ap, ◌∙◌}
use mathlib.Core.Logic.{◌⊎◌, inl, inr}
use mathlib.Core.Bool.{Bool, true, false, ◌&&◌}
use native.Mathlib.Nat.{eq-zero-or-pos, lt_of_lt_of_le, pow-suc}
use native.Mathlib.Decide.{dec_le}
use native.Mathlib.Omega.{arith}
use lib.Dec.{leb, ltb}
use lib.Pow.{pow_mono}
use lib.Bits.{bit_and, bit_or, bit_xor, and_block, and_le_l, and_le_r, or_comm, or_lt, or_add_and}
use lib.Count.{count_leading_zeros, leading_top, leading_length, leading_of_zero, leading_le, leading_unique}
use borrow.Author.Tests.{lt-leb, le-leb, lt-ltb, le-ltb, ltb-true, ltb-false}
use Rattle.refusal.specs.Choice.{pick}

abbrev pub zeros : ℕ → ℕ → ℕ
zeros a b = count_leading_zeros 32 (bit_xor a b)

-- the axis with the fewest zeros decides; z before y before x
unfoldable pub by_zeros : ℕ → ℕ → ℕ → ℕ → ℕ → ℕ → Bool
by_zeros ax ay az bx by bz =
    pick (leb (zeros az bz) (zeros ay by) && leb (zeros az bz) (zeros ax bx)) (ltb az bz)
    (pick (leb (zeros ay by) (zeros ax bx)) (ltb ay by) (ltb ax bx))

module _ (ax ay az bx by bz : ℕ) where
  pub by_z : zeros az bz ≤ zeros ay by → zeros az bz ≤ zeros ax bx → ltb az bz ≡ by_zeros ax ay az bx by bz
  unfolding by_zeros
  by_z zy zx = rw (le-leb (zeros az bz) (zeros ay by) zy, le-leb (zeros az bz) (zeros ax bx) zx)

  pub by_y : zeros ay by < zeros az bz → zeros ay by ≤ zeros ax bx → ltb ay by ≡ by_zeros ax ay az bx by bz
  unfolding by_zeros
  by_y yz yx = rw (lt-leb (zeros az bz) (zeros ay by) yz, le-leb (zeros ay by) (zeros ax bx) yx)

  pub by_x-not-y : zeros ay by < zeros az bz → zeros ax bx < zeros ay by → ltb ax bx ≡ by_zeros ax ay az bx by bz
  unfolding by_zeros
  by_x-not-y yz xy = rw (lt-leb (zeros az bz) (zeros ay by) yz, lt-leb (zeros ay by) (zeros ax bx) xy)

  pub by_x-not-z : zeros az bz ≤ zeros ay by → zeros ax bx < zeros az bz → ltb ax bx ≡ by_zeros ax ay az bx by bz
  unfolding by_zeros
  by_x-not-z zy xz =
      rw (le-leb (zeros az bz) (zeros ay by) zy, lt-leb (zeros az bz) (zeros ax bx) xz, lt-leb (zeros ay by) (zeros ax bx) (lt_of_lt_of_le xz zy))

-- ---- the order by two choices: x or y, then that or z

-- above x and y together stands the one that stands above the other
or-zeros : (a b : ℕ) → a < 2 ^ 32 → b < 2 ^ 32 → count_leading_zeros 32 a ≤ count_leading_zeros 32 b → count_leading_zeros 32 (bit_or a b) ≡ count_leading_zeros 32 a
or-zeros a b ha hb h =
    let l = leading_length 32 a ha in
    let m = leading_length 32 b hb in
    let small : b < 2 ^ l.0 = lt_of_lt_of_le m.2 (pow_mono (omega (arith, l.1, m.1))) in
    let great : 2 ^ l.0 ≤ 2 * bit_or a b + 1 = omega (arith, l.3, or_add_and a b, and_le_r a b) in
    sym (leading_unique 32 (bit_or a b) (count_leading_zeros 32 a) l.0 l.1 (or_lt l.0 a b l.2 small) great)

module _ (ax ay az bx by bz : ℕ) (hx : bit_xor ax bx < 2 ^ 32) (hy : bit_xor ay by < 2 ^ 32) where
  abbrev both : ℕ
  both = count_leading_zeros 32 (bit_or (bit_xor ax bx) (bit_xor ay by))

  both-x : zeros ax bx ≤ zeros ay by → both ≡ zeros ax bx
  both-x h = or-zeros (bit_xor ax bx) (bit_xor ay by) hx hy h

  both-y : zeros ay by ≤ zeros ax bx → both ≡ zeros ay by
  both-y h = ap (count_leading_zeros 32) (or_comm (bit_xor ax bx) (bit_xor ay by)) ∙ or-zeros (bit_xor ay by) (bit_xor ax bx) hy hx h

  pub by_choices : (s t : Bool) → s ≡ ltb (zeros ax bx) (zeros ay by) → t ≡ ltb both (zeros az bz)
      → pick t (pick s (ltb ax bx) (ltb ay by)) (ltb az bz) ≡ by_zeros ax ay az bx by bz
  by_choices true true p q = go xy (ltb-true both (zeros az bz) (sym q)) (dec_le (zeros az bz) (zeros ay by))
    where
      xy : zeros ax bx < zeros ay by
      xy = ltb-true (zeros ax bx) (zeros ay by) (sym p)

      go : zeros ax bx < zeros ay by → both < zeros az bz → Dec (zeros az bz ≤ zeros ay by) → ltb ax bx ≡ by_zeros ax ay az bx by bz
      go xy h (yes zy) = by_x-not-z ax ay az bx by bz zy (omega (arith, both-x (omega arith)))
      go xy h (no n) = by_x-not-y ax ay az bx by bz (omega arith) xy
  by_choices true false p q =
      let xy : zeros ax bx < zeros ay by = ltb-true (zeros ax bx) (zeros ay by) (sym p) in
      let zb : zeros az bz ≤ both = ltb-false both (zeros az bz) (sym q) in
      let e : both ≡ zeros ax bx = both-x (omega arith) in
      by_z ax ay az bx by bz (omega arith) (omega arith)
  by_choices false true p q =
      let yx : zeros ay by ≤ zeros ax bx = ltb-false (zeros ax bx) (zeros ay by) (sym p) in
      let bz' : both < zeros az bz = ltb-true both (zeros az bz) (sym q) in
      let e : both ≡ zeros ay by = both-y yx in
      by_y ax ay az bx by bz (omega arith) yx
  by_choices false false p q =
      let yx : zeros ay by ≤ zeros ax bx = ltb-false (zeros ax bx) (zeros ay by) (sym p) in
      let zb : zeros az bz ≤ both = ltb-false both (zeros az bz) (sym q) in
      let e : both ≡ zeros ay by = both-y yx in
      by_z ax ay az bx by bz (omega arith) (omega arith)

  pub by_chosen : {s t below r : Bool} → s ≡ ltb (zeros ax bx) (zeros ay by) → below ≡ pick s (ltb ax bx) (ltb ay by)
      → t ≡ ltb both (zeros az bz) → r ≡ pick t below (ltb az bz) → r ≡ by_zeros ax ay az bx by bz
  by_chosen {s} {t} {below} {r} es eb et er = er ∙ ap (λ (u : Bool). pick t u (ltb az bz)) eb ∙ by_choices s t es et

-- ---- which of two numbers has the higher highest bit

module _ (a b : ℕ) where
  -- a and b in blocks of j bits
  blocks : (j d e r s : ℕ) → r < 2 ^ j → s < 2 ^ j → d * 2 ^ j + r ≡ a → e * 2 ^ j + s ≡ b → bit_and a b ≡ bit_and d e * 2 ^ j + bit_and r s
  blocks j d e r s hr hs p q =
      sym (ap (λ (x : ℕ). bit_and x b) p) ∙ sym (ap (bit_and (d * 2 ^ j + r)) q) ∙ and_block j d e r s hr hs

  -- a has bit j, and b ends below it
  bit-above : (j : ℕ) → 2 ^ j ≤ a → a < 2 ^ suc j → b < 2 ^ j → b < a - bit_and a b
  bit-above j l u h =
      let r : ℕ = a - 2 ^ j in
      let e : bit_and a b ≡ bit_and 1 0 * 2 ^ j + bit_and r b = blocks j 1 0 r b (omega (arith, pow-suc 2 j)) h (omega arith) (omega arith) in
      omega (arith, e, and_le_l r b)

  -- b has bit j, and a has none above it
  bit_below : (j : ℕ) → 2 ^ j ≤ b → b < 2 ^ suc j → a < 2 ^ suc j → a - bit_and a b ≤ b
  bit_below j l u h = go (dec_le (2 ^ j) a)
    where
      go : Dec (2 ^ j ≤ a) → a - bit_and a b ≤ b
      go (yes g) =
          let r : ℕ = a - 2 ^ j in
          let s : ℕ = b - 2 ^ j in
          let e : bit_and a b ≡ bit_and 1 1 * 2 ^ j + bit_and r s =
          blocks j 1 1 r s (omega (arith, pow-suc 2 j)) (omega (arith, pow-suc 2 j)) (omega arith) (omega arith) in
          omega (arith, e, pow-suc 2 j)
      go (no n) = omega arith

  module _ (ha : a < 2 ^ 32) (hb : b < 2 ^ 32) where
    fewer : count_leading_zeros 32 a < count_leading_zeros 32 b → b < a - bit_and a b
    fewer h = go (eq-zero-or-pos a)
      where
        go : (a ≡ 0) ⊎ (0 < a) → b < a - bit_and a b
        go (inl z) = omega (arith, ap (count_leading_zeros 32) z ∙ leading_of_zero 32, leading_le 32 b)
        go (inr p) =
            let t = leading_top 32 a p ha in
            let l = leading_length 32 b hb in
            bit-above t.0 t.2 t.3 (lt_of_lt_of_le l.2 (pow_mono (omega (arith, t.1, l.1))))

    no_fewer : count_leading_zeros 32 b ≤ count_leading_zeros 32 a → a - bit_and a b ≤ b
    no_fewer h = go (eq-zero-or-pos b)
      where
        l : (m : ℕ) × (count_leading_zeros 32 a + m ≡ 32) × (a < 2 ^ m) × (2 ^ m ≤ 2 * a + 1)
        l = leading_length 32 a ha

        go : (b ≡ 0) ⊎ (0 < b) → a - bit_and a b ≤ b
        go (inl z) =
            let none : l.0 ≤ 0 = omega (arith, l.1, ap (count_leading_zeros 32) z ∙ leading_of_zero 32) in
            let s : a < 2 ^ 0 = lt_of_lt_of_le l.2 (pow_mono none) in
            omega arith
        go (inr p) =
            let t = leading_top 32 b p hb in
            bit_below t.0 t.2 t.3 (lt_of_lt_of_le l.2 (pow_mono (omega (arith, t.1, l.1))))

    pub by_difference : ltb b (a - bit_and a b) ≡ ltb (count_leading_zeros 32 a) (count_leading_zeros 32 b)
    by_difference = go (ltb (count_leading_zeros 32 a) (count_leading_zeros 32 b)) refl
      where
        go : (t : Bool) → ltb (count_leading_zeros 32 a) (count_leading_zeros 32 b) ≡ t → ltb b (a - bit_and a b) ≡ t
        go true e = lt-ltb b (a - bit_and a b) (fewer (ltb-true (count_leading_zeros 32 a) (count_leading_zeros 32 b) e))
        go false e = le-ltb b (a - bit_and a b) (no_fewer (ltb-false (count_leading_zeros 32 a) (count_leading_zeros 32 b) e))
