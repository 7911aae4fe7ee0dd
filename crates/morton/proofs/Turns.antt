-- What a turn of each loop does to its invariant.
use Prim.Native.Nat.{ℕ, zero, suc, ◌+◌, ◌-◌, ◌*◌, ◌%◌, ◌^◌, ◌≤◌, ◌<◌}
use mathlib.Core.Path.{◌≡◌, ap, ◌∙◌}
use mathlib.Core.Bool.{Bool, true, false}
use native.Mathlib.Omega.{arith}
use native.Mathlib.Nat.{pow-suc, lt_of_lt_of_le, mod-eq_of_lt}
use native.Mathlib.Numerals.{add-one}
use lib.Pow.{pow_mono}
use mir.Syntax.{w32}
use mir.Val.{Fits}
use Rattle.morton.specs.declared.grid.Extents.{Extents}
use Rattle.morton.specs.declared.grid.Cell.{Cell}
use Rattle.morton.specs.axis.Axis.{bit_of, used, put, low, rest}
use Rattle.morton.specs.Key.{key_bits_of, key_of, cell_of}
use Rattle.morton.specs.Turn.{Top}
use Rattle.morton.proofs.From.{key_from, cell_from, after_turn, key-is, key_below, low-lt, cell-is, key-from-none, cell-from-none}

-- turn i - 1 comes before turn i
down : (i : ℕ) → 0 < i → i ≤ 32 → (32 - (i - 1) ≡ suc (32 - i)) × (suc (i - 1) ≡ i)
down i p h = (omega arith, omega arith)

-- a bit put below what 64 bits hold of a key
put-within : (u : Bool) (b n : ℕ) {k m : ℕ} → k ≡ n % 2 ^ 64 → m ≡ put u b k % 2 ^ 64 → m ≡ put u b n % 2 ^ 64
unfolding put
put-within true b n p q = omega arith
put-within false b n p q = omega arith

module _ (g : Extents) (c : Cell) where
  -- what 64 bits hold of the key that the turns from i on make
  pub record Packed (i k : ℕ) : Type 0 where
    pub most : i ≤ 32
    pub made : k ≡ key_from (32 - i) i g c % 2 ^ 64

  key-turn : (i : ℕ) → 0 < i → i ≤ 32
      → key_from (32 - (i - 1)) (i - 1) g c
      ≡ put (used g.x (i - 1)) (bit_of c.x (i - 1))
      (put (used g.y (i - 1)) (bit_of c.y (i - 1)) (put (used g.z (i - 1)) (bit_of c.z (i - 1)) (key_from (32 - i) i g c)))
  unfolding key_from
  key-turn i p h = let e = down i p h in rw (e.0, e.1)

  pub packed_none : (i : ℕ) → Top g i → Packed i 0
  packed_none i t = record { most = t.most; made = rw (key-from-none g c (32 - i) i t.x t.y t.z) }

  -- a turn of `key`
  pub packed_more : (i k : ℕ) → 0 < i → Packed i k
      → {k₁ k₂ k₃ : ℕ} → k₁ ≡ put (used g.z (i - 1)) (bit_of c.z (i - 1)) k % 2 ^ 64
      → k₂ ≡ put (used g.y (i - 1)) (bit_of c.y (i - 1)) k₁ % 2 ^ 64
      → k₃ ≡ put (used g.x (i - 1)) (bit_of c.x (i - 1)) k₂ % 2 ^ 64
      → Packed (i - 1) k₃
  packed_more i k p w q r s =
      record {
        most = omega (arith, w.most);
        made = rw (key-turn i p w.most) (put-within _ _ _ (put-within _ _ _ (put-within _ _ _ w.made q) r) s);
      }

  -- after the last turn nothing is lost
  pub packed_all : (i k : ℕ) → i ≤ 0 → Packed i k → key_bits_of g ≤ 64 → k ≡ key_of g c
  packed_all i k l w few =
      let e : i ≡ 0 = omega arith in
      let m : key_of g c < 2 ^ 64 = lt_of_lt_of_le (key_below g c) (pow_mono few) in
      w.made ∙ ap (λ (n : ℕ). key_from (32 - n) n g c % 2 ^ 64) e ∙ rw (← key-is g c) (mod-eq_of_lt m)

-- ---- turn i of `cell`
up : (i : ℕ) → i < 32 → (32 - i ≡ suc (32 - (i + 1))) × (suc i ≡ i + 1)
up i h = (omega arith, omega arith)

module _ (g : Extents) (key : ℕ) where
  -- what is read after the turns below i, where k is left of the key
  pub record Reading (i k x y z : ℕ) : Type 0 where
    pub x-read : x + (cell_from (32 - i) i g k).x * 2 ^ i ≡ (cell_from 32 0 g key).x
    pub y-read : y + (cell_from (32 - i) i g k).y * 2 ^ i ≡ (cell_from 32 0 g key).y
    pub z-read : z + (cell_from (32 - i) i g k).z * 2 ^ i ≡ (cell_from 32 0 g key).z

  cell-small : (n i k : ℕ) → ((cell_from n i g k).x < 2 ^ n) × ((cell_from n i g k).y < 2 ^ n) × ((cell_from n i g k).z < 2 ^ n)
  unfolding cell_from
  cell-small zero i k = omega arith
  cell-small (suc n) i k =
      let ih = cell-small n (suc i) (after_turn g i k) in
      rw pow-suc (
        omega (arith, low-lt (used g.x i) k),
        omega (arith, low-lt (used g.y i) (rest (used g.x i) k)),
        omega (arith, low-lt (used g.z i) (rest (used g.y i) (rest (used g.x i) k))),
      )

  -- one axis: the bit goes from what is left to what is read
  axis_turn : (u : Bool) (k i d v t r : ℕ) → r ≡ low u k * 2 ^ i → v + (low u k + 2 * d) * 2 ^ i ≡ t → v + r + d * 2 ^ (i + 1) ≡ t
  axis_turn u k i d v t r q e = rw (add-one, pow-suc) (omega arith)

  axis_fits : (u : Bool) (k i d v t r : ℕ) → r ≡ low u k * 2 ^ i → v + (low u k + 2 * d) * 2 ^ i ≡ t → t < 2 ^ 32 → Fits w32 (v + r)
  axis_fits u k i d v t r q e l = omega arith

  module _ (n i k x y z : ℕ) (t : Top g n) (l : i < n) (w : Reading i k x y z) where
    h : i < 32
    h = omega (arith, t.most)

    cell-turn : cell_from (32 - i) i g k
        ≡ record {
          x = low (used g.x i) k + 2 * (cell_from (32 - (i + 1)) (i + 1) g (after_turn g i k)).x;
          y = low (used g.y i) (rest (used g.x i) k) + 2 * (cell_from (32 - (i + 1)) (i + 1) g (after_turn g i k)).y;
          z = low (used g.z i) (rest (used g.y i) (rest (used g.x i) k)) + 2 * (cell_from (32 - (i + 1)) (i + 1) g (after_turn g i k)).z;
        }
    unfolding cell_from
    cell-turn = let e = up i h in rw (e.0, e.1)

    x_now : x + (low (used g.x i) k + 2 * (cell_from (32 - (i + 1)) (i + 1) g (after_turn g i k)).x) * 2 ^ i ≡ (cell_from 32 0 g key).x
    x_now = rw cell-turn at w.x-read

    y_now : y + (low (used g.y i) (rest (used g.x i) k) + 2 * (cell_from (32 - (i + 1)) (i + 1) g (after_turn g i k)).y) * 2 ^ i ≡ (cell_from 32 0 g key).y
    y_now = rw cell-turn at w.y-read

    z_now : z + (low (used g.z i) (rest (used g.y i) (rest (used g.x i) k)) + 2 * (cell_from (32 - (i + 1)) (i + 1) g (after_turn g i k)).z) * 2 ^ i
        ≡ (cell_from 32 0 g key).z
    z_now = rw cell-turn at w.z-read

    pub x_fits : {r : ℕ} → r ≡ low (used g.x i) k * 2 ^ i → Fits w32 (x + r)
    x_fits a = axis_fits _ _ _ _ _ _ _ a x_now (cell-small 32 0 key).0

    pub y-fits : {r k₁ : ℕ} → k₁ ≡ rest (used g.x i) k → r ≡ low (used g.y i) k₁ * 2 ^ i → Fits w32 (y + r)
    y-fits b a = axis_fits _ _ _ _ _ _ _ (rw b at a) y_now (cell-small 32 0 key).1

    pub z-fits : {r k₁ k₂ : ℕ} → k₁ ≡ rest (used g.x i) k → k₂ ≡ rest (used g.y i) k₁ → r ≡ low (used g.z i) k₂ * 2 ^ i
        → Fits w32 (z + r)
    z-fits b d a = axis_fits _ _ _ _ _ _ _ (rw (d, b) at a) z_now (cell-small 32 0 key).2

    pub read_more : {rx k₁ ry k₂ rz k₃ : ℕ}
        → rx ≡ low (used g.x i) k * 2 ^ i → k₁ ≡ rest (used g.x i) k
        → ry ≡ low (used g.y i) k₁ * 2 ^ i → k₂ ≡ rest (used g.y i) k₁
        → rz ≡ low (used g.z i) k₂ * 2 ^ i → k₃ ≡ rest (used g.z i) k₂
        → Reading (i + 1) k₃ (x + rx) (y + ry) (z + rz)
    read_more {rx} {k₁} {ry} {k₂} {rz} {k₃} a b c d e f =
        rw last
        (record {
          x-read = axis_turn _ _ _ _ _ _ _ a x_now;
          y-read = axis_turn _ _ _ _ _ _ _ (rw b at c) y_now;
          z-read = axis_turn _ _ _ _ _ _ _ (rw (d, b) at e) z_now;
        })
      where
        last : k₃ ≡ after_turn g i k
        last = unfold after_turn in rw (← b, ← d) f

  -- before the first turn
  pub read_none : Reading 0 key 0 0 0
  read_none = record { x-read = omega arith; y-read = omega arith; z-read = omega arith }

  -- after the last one
  pub read_all : (n i k x y z : ℕ) → i ≤ n → n ≤ i → Top g n → Reading i k x y z → ◌≡◌ {A = Cell} (record { x = x; y = y; z = z }) (cell_of g key)
  read_all n i k x y z l m t w =
      rw cell-is (λ o. record { x = ex o; y = ey o; z = ez o })
    where
      j : i ≡ n
      j = omega arith

      none : cell_from (32 - i) i g k ≡ record { x = 0; y = 0; z = 0 }
      none = rw j (cell-from-none g k (32 - n) n t.x t.y t.z)

      ex : x ≡ (cell_from 32 0 g key).x
      ex = omega (arith, rw none at w.x-read)

      ey : y ≡ (cell_from 32 0 g key).y
      ey = omega (arith, rw none at w.y-read)

      ez : z ≡ (cell_from 32 0 g key).z
      ez = omega (arith, rw none at w.z-read)
