-- The Z-curve order from the highest bit down is the order of the interleaved numbers, and is what the counts of leading zeros decide.
use Prim.Native.Nat.{ℕ, zero, suc, ◌+◌, ◌*◌, ◌/◌, ◌%◌, ◌^◌, ◌≤◌, ◌<◌}
use mathlib.Core.Path.{◌≡◌, refl, sym, ap, ◌∙◌}
use mathlib.Core.Logic.{◌⊎◌, inl, inr, ⊎_elim}
use mathlib.Core.Bool.{Bool, true, false}
use Rattle.refusal.specs.Choice.{pick}
use native.Mathlib.Nat.{eq-zero-or-pos, lt_of_lt_of_le, le_trans, not-le_of_lt, lt_of_not-le, pow-suc, mul-le-mul_right, suc-mul, div-lt_iff_lt-mul, div-eq_of_lt, eq-or-lt_of_le}
use native.Mathlib.Decide.{dec_le}
use native.Mathlib.Numerals.{add-one}
use native.Mathlib.Omega.{arith}
use lib.Dec.{ltb, eqb}
use lib.Pow.{pow_pos, pow_mono, shr_mono, shr-shr}
use lib.Bits.{bit_xor, xor_shr, xor_self, xor_lt, xor_add_and, and_le_l, and_le_r}
use lib.Count.{count_leading_zeros, leading_of_zero, leading_le, leading_top, leading_length}
use borrow.Author.Tests.{lt-ltb, le-ltb, ltb-true, ltb-false, eqb-true, eqb-false}
use Rattle.mesh_manifest.specs.zorder.Order.{z_digit, z_from}
use Rattle.mesh_manifest.proofs.zorder.Zeros.{zeros, by_zeros, by_z, by_y, by_x-not-y, by_x-not-z}

-- ---- by the interleaved number

-- the bits of a position below height k, interleaved: a digit below 8 for each height
unfoldable pub z_number : ℕ → ℕ → ℕ → ℕ → ℕ
z_number zero x y z = 0
z_number (suc k) x y z = z_digit k x y z * 8 ^ k + z_number k x y z

digit_lt : (k x y z : ℕ) → z_digit k x y z < 8
unfolding z_digit
digit_lt k x y z = omega arith

-- a digit d above a number r below p: the order goes by the digits, then by the rest
digits_same : (d p r s : ℕ) → ltb (d * p + r) (d * p + s) ≡ ltb r s
digits_same d p r s = go (ltb r s) refl
  where
    go : (t : Bool) → ltb r s ≡ t → ltb (d * p + r) (d * p + s) ≡ t
    go true e = lt-ltb (d * p + r) (d * p + s) (omega (arith, ltb-true r s e))
    go false e = le-ltb (d * p + r) (d * p + s) (omega (arith, ltb-false r s e))

digits_lt : (d e p r s : ℕ) → d < e → r < p → d * p + r < e * p + s
digits_lt d e p r s h hr =
    let m : suc d * p ≤ e * p = mul-le-mul_right p h in
    let n : suc d * p ≡ d * p + p = suc-mul d p in
    omega arith

digits-differ : (d e p r s : ℕ) → (d ≡ e → ⊥) → r < p → s < p → ltb d e ≡ ltb (d * p + r) (e * p + s)
digits-differ d e p r s h hr hs = go (ltb d e) refl
  where
    go : (t : Bool) → ltb d e ≡ t → t ≡ ltb (d * p + r) (e * p + s)
    go true q = sym (lt-ltb (d * p + r) (e * p + s) (digits_lt d e p r s (ltb-true d e q) hr))
    go false q =
        let g : e < d = let l : e ≤ d = ltb-false d e q in omega arith in
        let k : e * p + s < d * p + r = digits_lt e d p s r g hs in
        sym (le-ltb (d * p + r) (e * p + s) (omega arith))

number_lt : (k x y z : ℕ) → z_number k x y z < 8 ^ k
unfolding z_number
number_lt zero x y z = omega arith
number_lt (suc k) x y z =
    let h : z_digit k x y z * 8 ^ k + z_number k x y z < 8 * 8 ^ k + 0 = digits_lt (z_digit k x y z) 8 (8 ^ k) (z_number k x y z) 0 (digit_lt k x y z) (number_lt k x y z) in
    omega (arith, pow-suc 8 k)

number_step : (d e p r s : ℕ) (z : Bool) → r < p → s < p → z ≡ ltb r s → pick (eqb d e) z (ltb d e) ≡ ltb (d * p + r) (e * p + s)
number_step d e p r s z hr hs ih = go (eqb d e) refl
  where
    go : (t : Bool) → eqb d e ≡ t → pick t z (ltb d e) ≡ ltb (d * p + r) (e * p + s)
    go true q = ih ∙ sym (digits_same d p r s) ∙ ap (λ (x : ℕ). ltb (d * p + r) (x * p + s)) (eqb-true d e q)
    go false q = digits-differ d e p r s (eqb-false d e q) hr hs

pub by_number : (k ax ay az bx by bz : ℕ) → z_from k ax ay az bx by bz ≡ ltb (z_number k ax ay az) (z_number k bx by bz)
unfolding z_from z_number
by_number zero ax ay az bx by bz = refl
by_number (suc k) ax ay az bx by bz =
    number_step (z_digit k ax ay az) (z_digit k bx by bz) (8 ^ k) (z_number k ax ay az) (z_number k bx by bz) (z_from k ax ay az bx by bz)
    (number_lt k ax ay az) (number_lt k bx by bz) (by_number k ax ay az bx by bz)

-- ---- by the counts of zeros

xor_zero : (u v : ℕ) → bit_xor u v ≡ 0 → u ≡ v
xor_zero u v e = omega (arith, xor_add_and u v, and_le_l u v, and_le_r u v)

-- above place k the numbers are the same: the highest differing bit stands below k
same_above : (k p q : ℕ) → p < 2 ^ 32 → q < 2 ^ 32 → p / 2 ^ k ≡ q / 2 ^ k → 32 ≤ zeros p q + k
same_above k p q hp hq e = go (eq-zero-or-pos (bit_xor p q))
  where
    small : bit_xor p q < 2 ^ k
    small =
        let z : bit_xor p q / 2 ^ k ≡ 0 = xor_shr p q k ∙ ap (bit_xor (p / 2 ^ k)) (sym e) ∙ xor_self (p / 2 ^ k) in
        let h : bit_xor p q < 1 * 2 ^ k = (div-lt_iff_lt-mul (pow_pos k)).0 (omega arith) in
        omega arith

    go : (bit_xor p q ≡ 0) ⊎ (0 < bit_xor p q) → 32 ≤ zeros p q + k
    go (inl z) = omega (arith, ap (count_leading_zeros 32) z ∙ leading_of_zero 32)
    go (inr h) =
        let t = leading_top 32 (bit_xor p q) h (xor_lt 32 p q hp hq) in
        let l : t.0 < k = lt_of_not-le (λ (g : k ≤ t.0). not-le_of_lt small (le_trans (pow_mono g) t.2)) in
        omega (arith, t.1)

-- they differ from place k up: it stands at k or above
differs-above : (k p q : ℕ) → p < 2 ^ 32 → q < 2 ^ 32 → (p / 2 ^ k ≡ q / 2 ^ k → ⊥) → zeros p q + k < 32
differs-above k p q hp hq n =
    let l = leading_length 32 (bit_xor p q) (xor_lt 32 p q hp hq) in
    let g : k < l.0 =
    lt_of_not-le
    (λ (g : l.0 ≤ k). n
    (xor_zero (p / 2 ^ k) (q / 2 ^ k) (sym (xor_shr p q k) ∙ div-eq_of_lt (lt_of_lt_of_le l.2 (pow_mono g)))))
    in
    omega (arith, l.1)

half : (k p : ℕ) → p / 2 ^ suc k ≡ p / 2 ^ k / 2
half k p = ap (λ (x : ℕ). p / 2 ^ x) (sym (add-one k)) ∙ sym (shr-shr p k 1)

down : (k p q : ℕ) → p / 2 ^ k < q / 2 ^ k → p < q
down k p q h = lt_of_not-le (λ (g : q ≤ p). not-le_of_lt h (shr_mono k g))

three : (u v : ℕ) → (u ≡ v) ⊎ ((u < v) ⊎ (v < u))
three u v = go (dec_le u v)
  where
    go : Dec (u ≤ v) → (u ≡ v) ⊎ ((u < v) ⊎ (v < u))
    go (yes h) = ⊎_elim inl (λ l. inr (inl l)) (eq-or-lt_of_le h)
    go (no n) = inr (inr (lt_of_not-le n))

-- the bit at place k of p and of q, which are the same above it: p < q where it is 0 and 1
abbrev Rise : ℕ → ℕ → ℕ → Type 0
Rise k p q = (p / 2 ^ k % 2 ≡ 0) × (q / 2 ^ k % 2 ≡ 1) × (p < q)

abbrev Case : ℕ → ℕ → ℕ → Type 0
Case k p q = (p / 2 ^ k ≡ q / 2 ^ k) ⊎ (((p / 2 ^ k ≡ q / 2 ^ k → ⊥) × Rise k p q) ⊎ ((p / 2 ^ k ≡ q / 2 ^ k → ⊥) × Rise k q p))

cases : (k p q : ℕ) → p / 2 ^ suc k ≡ q / 2 ^ suc k → Case k p q
cases k p q e = go (three (p / 2 ^ k) (q / 2 ^ k))
  where
    halves : p / 2 ^ k / 2 ≡ q / 2 ^ k / 2
    halves = sym (half k p) ∙ e ∙ half k q

    go : (p / 2 ^ k ≡ q / 2 ^ k) ⊎ ((p / 2 ^ k < q / 2 ^ k) ⊎ (q / 2 ^ k < p / 2 ^ k)) → Case k p q
    go (inl s) = inl s
    go (inr (inl h)) = inr (inl ((λ s. omega arith), (omega (arith, halves), omega (arith, halves), down k p q h)))
    go (inr (inr h)) = inr (inr ((λ s. omega arith), (omega (arith, halves), omega (arith, halves), down k q p h)))

bits-same : (x y z u v w : ℕ) → x / 2 ≡ u / 2 → y / 2 ≡ v / 2 → z / 2 ≡ w / 2
    → 4 * (z % 2) + 2 * (y % 2) + x % 2 ≡ 4 * (w % 2) + 2 * (v % 2) + u % 2 → (x ≡ u) × (y ≡ v) × (z ≡ w)
bits-same x y z u v w ex ey ez e = omega arith

up-test : (d e p q : ℕ) → d < e → p < q → ltb d e ≡ ltb p q
up-test d e p q h l = lt-ltb d e h ∙ sym (lt-ltb p q l)

down-test : (d e p q : ℕ) → e < d → q < p → ltb d e ≡ ltb p q
down-test d e p q h l = le-ltb d e (omega arith) ∙ sym (le-ltb p q (omega arith))

module _ (ax ay az bx by bz : ℕ) (hax : ax < 2 ^ 32) (hay : ay < 2 ^ 32) (haz : az < 2 ^ 32) (hbx : bx < 2 ^ 32) (hby : by < 2 ^ 32) (hbz : bz < 2 ^ 32) where
  -- place k is the highest where the nodes differ
  decides : (k : ℕ) → ax / 2 ^ suc k ≡ bx / 2 ^ suc k → ay / 2 ^ suc k ≡ by / 2 ^ suc k → az / 2 ^ suc k ≡ bz / 2 ^ suc k
      → (z_digit k ax ay az ≡ z_digit k bx by bz → ⊥) → ltb (z_digit k ax ay az) (z_digit k bx by bz) ≡ by_zeros ax ay az bx by bz
  unfolding z_digit
  decides k ex ey ez n = at-z (cases k az bz ez)
    where
      lx : 32 ≤ zeros ax bx + suc k
      lx = same_above (suc k) ax bx hax hbx ex

      ly : 32 ≤ zeros ay by + suc k
      ly = same_above (suc k) ay by hay hby ey

      D : ℕ
      D = z_digit k ax ay az

      E : ℕ
      E = z_digit k bx by bz

      z_wins : (az / 2 ^ k ≡ bz / 2 ^ k → ⊥) → ltb az bz ≡ by_zeros ax ay az bx by bz
      z_wins m =
          let h : zeros az bz + k < 32 = differs-above k az bz haz hbz m in
          by_z ax ay az bx by bz (omega (arith, ly)) (omega (arith, lx))

      y_wins : az / 2 ^ k ≡ bz / 2 ^ k → (ay / 2 ^ k ≡ by / 2 ^ k → ⊥) → ltb ay by ≡ by_zeros ax ay az bx by bz
      y_wins sz m =
          let h : zeros ay by + k < 32 = differs-above k ay by hay hby m in
          by_y ax ay az bx by bz (omega (arith, same_above k az bz haz hbz sz)) (omega (arith, lx))

      x_wins : az / 2 ^ k ≡ bz / 2 ^ k → ay / 2 ^ k ≡ by / 2 ^ k → (ax / 2 ^ k ≡ bx / 2 ^ k → ⊥) → ltb ax bx ≡ by_zeros ax ay az bx by bz
      x_wins sz sy m = go (dec_le (zeros az bz) (zeros ay by))
        where
          h : zeros ax bx + k < 32
          h = differs-above k ax bx hax hbx m

          go : Dec (zeros az bz ≤ zeros ay by) → ltb ax bx ≡ by_zeros ax ay az bx by bz
          go (yes l) = by_x-not-z ax ay az bx by bz l (omega (arith, h, same_above k az bz haz hbz sz))
          go (no n) = by_x-not-y ax ay az bx by bz (lt_of_not-le n) (omega (arith, h, same_above k ay by hay hby sy))

      at_x : az / 2 ^ k ≡ bz / 2 ^ k → ay / 2 ^ k ≡ by / 2 ^ k → Case k ax bx → ltb D E ≡ by_zeros ax ay az bx by bz
      at_x sz sy (inl sx) = absurd (n (rw (sx, sy, sz)))
      at_x sz sy (inr (inl w)) = up-test D E ax bx (rw (sy, sz) (omega (arith, w.1))) w.1.2 ∙ x_wins sz sy w.0
      at_x sz sy (inr (inr w)) = down-test D E ax bx (rw (sy, sz) (omega (arith, w.1))) w.1.2 ∙ x_wins sz sy w.0

      at_y : az / 2 ^ k ≡ bz / 2 ^ k → Case k ay by → ltb D E ≡ by_zeros ax ay az bx by bz
      at_y sz (inl sy) = at_x sz sy (cases k ax bx ex)
      at_y sz (inr (inl w)) = up-test D E ay by (rw sz (omega (arith, w.1))) w.1.2 ∙ y_wins sz w.0
      at_y sz (inr (inr w)) = down-test D E ay by (rw sz (omega (arith, w.1))) w.1.2 ∙ y_wins sz w.0

      at-z : Case k az bz → ltb D E ≡ by_zeros ax ay az bx by bz
      at-z (inl sz) = at_y sz (cases k ay by ey)
      at-z (inr (inl w)) = up-test D E az bz (omega (arith, w.1)) w.1.2 ∙ z_wins w.0
      at-z (inr (inr w)) = down-test D E az bz (omega (arith, w.1)) w.1.2 ∙ z_wins w.0

  -- from place k down, where the nodes are the same above
  from_place : (k : ℕ) → ax / 2 ^ k ≡ bx / 2 ^ k → ay / 2 ^ k ≡ by / 2 ^ k → az / 2 ^ k ≡ bz / 2 ^ k
      → z_from k ax ay az bx by bz ≡ by_zeros ax ay az bx by bz
  unfolding z_from
  from_place zero ex ey ez =
      let l = leading_le 32 (bit_xor az bz) in
      sym (le-ltb az bz (omega arith))
      ∙ by_z ax ay az bx by bz (omega (arith, same_above 0 ay by hay hby ey)) (omega (arith, same_above 0 ax bx hax hbx ex))
  from_place (suc k) ex ey ez = go (eqb (z_digit k ax ay az) (z_digit k bx by bz)) refl (from_place k)
    where
      go : (t : Bool) → eqb (z_digit k ax ay az) (z_digit k bx by bz) ≡ t
          → (ax / 2 ^ k ≡ bx / 2 ^ k → ay / 2 ^ k ≡ by / 2 ^ k → az / 2 ^ k ≡ bz / 2 ^ k → z_from k ax ay az bx by bz ≡ by_zeros ax ay az bx by bz)
          → pick t (z_from k ax ay az bx by bz) (ltb (z_digit k ax ay az) (z_digit k bx by bz)) ≡ by_zeros ax ay az bx by bz
      go true q ih =
          let s =
          bits-same (ax / 2 ^ k) (ay / 2 ^ k) (az / 2 ^ k) (bx / 2 ^ k) (by / 2 ^ k) (bz / 2 ^ k)
          (sym (half k ax) ∙ ex ∙ half k bx) (sym (half k ay) ∙ ey ∙ half k by) (sym (half k az) ∙ ez ∙ half k bz)
          (unfold z_digit in eqb-true (z_digit k ax ay az) (z_digit k bx by bz) q)
          in
          ih s.0 s.1 s.2
      go false q ih = decides k ex ey ez (eqb-false (z_digit k ax ay az) (z_digit k bx by bz) q)

  pub by-zeros : z_from 32 ax ay az bx by bz ≡ by_zeros ax ay az bx by bz
  by-zeros =
      from_place 32
      (div-eq_of_lt hax ∙ sym (div-eq_of_lt hbx)) (div-eq_of_lt hay ∙ sym (div-eq_of_lt hby)) (div-eq_of_lt haz ∙ sym (div-eq_of_lt hbz))
