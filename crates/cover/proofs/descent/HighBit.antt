-- The highest key bit halves the grid: without it a key is that of the grid cut to a power of two along the bit's axis.
use Prim.Native.Nat.{ℕ, zero, suc, ◌+◌, ◌-◌, ◌*◌, ◌^◌, ◌≤◌, ◌<◌}
use mathlib.Core.Path.{◌≡◌, refl, sym, ◌∙◌}
use mathlib.Core.Bool.{Bool, true, false}
use native.Mathlib.Omega.{arith}
use native.Mathlib.Nat.{le_refl, lt_trans, zero-add}
use lib.Pow.{pow-add, pow-lt}
use Rattle.morton.specs.declared.grid.Extents.{Extents}
use Rattle.morton.specs.declared.grid.Cell.{Cell}
use Rattle.morton.specs.axis.Axis.{bit_of, used, count, put}
use Rattle.morton.specs.Key.{key_of, key_bits_of}
use Rattle.morton.specs.Turn.{Top}
use Rattle.morton.proofs.From.{bits_from, key_from, key-is, bits_is, key-from-none, bits-from-none, more}
use Rattle.morton.proofs.axis.Used.{used-yes, unused}

-- the bit b at the top of a key of m bits stays at the top
put-top : (u : Bool) (a k b m : ℕ) → put u a (k + b * 2 ^ m) ≡ put u a k + b * 2 ^ (count u + m)
unfolding put count
put-top true a k b m = rw (pow-add 2 1 m) (omega arith)
put-top false a k b m = rw (pow-add 2 0 m) (omega arith)

-- one turn alone, with the bit of one axis, and without it
with_z : (ux uy : Bool) (x y z : ℕ) → put ux x (put uy y (put true z 0)) ≡ put ux x (put uy y (put false z 0)) + z * 2 ^ (count ux + (count uy + (count false + 0)))
unfolding put count
with_z true true x y z = omega arith
with_z true false x y z = omega arith
with_z false true x y z = omega arith
with_z false false x y z = omega arith

with_y : (ux : Bool) (x y z : ℕ) → put ux x (put true y (put false z 0)) ≡ put ux x (put false y (put false z 0)) + y * 2 ^ (count ux + (count false + (count false + 0)))
unfolding put count
with_y true x y z = omega arith
with_y false x y z = omega arith

with_x : (x y z : ℕ) → put true x (put false y (put false z 0)) ≡ put false x (put false y (put false z 0)) + x * 2 ^ (count false + (count false + (count false + 0)))
unfolding put count
with_x x y z = omega arith

one_more : count true ≡ suc (count false)
unfolding count
one_more = refl

-- of both grids the n turns from t on make the same, but for the bit b at the top of g's key
record Above (g h : Extents) (c : Cell) (b n t : ℕ) : Type 0 where
  key : key_from n t g c ≡ key_from n t h c + b * 2 ^ bits_from n t h
  bits : bits_from n t g ≡ suc (bits_from n t h)

-- turn t uses the same axes of both grids
record Same (g h : Extents) (t : ℕ) : Type 0 where
  x : used g.x t ≡ used h.x t
  y : used g.y t ≡ used h.y t
  z : used g.z t ≡ used h.z t

-- the grid h is half of g: g's keys have one bit more, b, at the top
pub record Halved (g h : Extents) (c : Cell) (b : ℕ) : Type 0 where
  pub key : key_of g c ≡ key_of h c + b * 2 ^ key_bits_of h
  pub bits : key_bits_of g ≡ suc (key_bits_of h)

module _ (g h : Extents) (c : Cell) (b : ℕ) where
  same_turn : (n t : ℕ) → Same g h t → Above g h c b n (suc t) → Above g h c b (suc n) t
  unfolding key_from bits_from
  same_turn n t s w =
      record {
        key = rw (s.x, s.y, s.z, w.key, put-top, put-top, put-top);
        bits = rw (s.x, s.y, s.z) (omega (arith, w.bits));
      }

  same-turns : (n t : ℕ) → ((r : ℕ) → r < t → Same g h r) → Above g h c b n t → Above g h c b (t + n) 0
  same-turns n zero s w = rw zero-add w
  same-turns n (suc t) s w =
      let e : suc t + n ≡ t + suc n = omega arith in
      rw e (same-turns (suc n) t (λ r l. s r (omega arith)) (same_turn n t (s t (omega arith)) w))

  halved : (n i : ℕ) → i + n ≡ 32 → ((r : ℕ) → r < i → Same g h r) → Above g h c b n i → Halved g h c b
  halved n i e s w =
      let t = rw e at (same-turns n i s w) in
      record { key = rw (key-is, key-is, bits_is) t.key; bits = rw (bits_is, bits_is) t.bits }

-- an axis that is cut to 2 ^ i keeps the turns below i, and loses turn i
kept : (s i : ℕ) → 2 ^ i < s → (r : ℕ) → r < i → used s r ≡ used (2 ^ i) r
kept s i h r l = used-yes r (lt_trans (pow-lt l) h) ∙ sym (used-yes r (pow-lt l))

lost : (i : ℕ) → used (2 ^ i) i ≡ false
lost i = unused i (le_refl _)

-- turn i alone: its bits, and how many
abbrev turn_key : Extents → Cell → ℕ → ℕ
turn_key g c i = put (used g.x i) (bit_of c.x i) (put (used g.y i) (bit_of c.y i) (put (used g.z i) (bit_of c.z i) 0))

abbrev turn_bits : Extents → ℕ → ℕ
turn_bits g i = count (used g.x i) + (count (used g.y i) + (count (used g.z i) + 0))

-- the last turn that uses an axis makes what it makes alone
last-key : (g : Extents) (c : Cell) (n i : ℕ) → Top g (suc i) → key_from (suc n) i g c ≡ turn_key g c i
unfolding key_from
last-key g c n i t = rw (key-from-none g c n (suc i) t.x t.y t.z)

last-bits : (g : Extents) (n i : ℕ) → Top g (suc i) → bits_from (suc n) i g ≡ turn_bits g i
unfolding bits_from
last-bits g n i t = rw (bits-from-none g n (suc i) t.x t.y t.z)

halved_at : (g h : Extents) (c : Cell) (b i : ℕ) → Top g (suc i) → Top h (suc i) → ((r : ℕ) → r < i → Same g h r)
    → turn_key g c i ≡ turn_key h c i + b * 2 ^ turn_bits h i → turn_bits g i ≡ suc (turn_bits h i) → Halved g h c b
halved_at g h c b i t u s k e =
    let l = t.most in
    halved g h c b (suc (31 - i)) i (omega arith) s
    (record {
      key = rw (last-key g c (31 - i) i t, last-key h c (31 - i) i u, last-bits h (31 - i) i u) k;
      bits = rw (last-bits g (31 - i) i t, last-bits h (31 - i) i u) e;
    })

-- i is the last turn that uses an axis: the last axis that it uses has the highest bit
module _ (g : Extents) (c : Cell) (i : ℕ) (t : Top g (suc i)) where
  half_fits : 2 ^ i ≤ 2 ^ suc i
  half_fits = more i (le_refl _)

  pub halve_z : 2 ^ i < g.z → Halved g (record { x = g.x; y = g.y; z = 2 ^ i }) c (bit_of c.z i)
  halve_z h =
      halved_at g _ c _ i t (record { most = t.most; x = t.x; y = t.y; z = half_fits })
      (λ r p. record { x = refl; y = refl; z = kept _ i h r p })
      (rw (used-yes i h, lost i) (with_z _ _ _ _ _))
      (rw (used-yes i h, lost i) (omega (arith, one_more)))

  pub halve_y : 2 ^ i < g.y → g.z ≤ 2 ^ i → Halved g (record { x = g.x; y = 2 ^ i; z = g.z }) c (bit_of c.y i)
  halve_y h nz =
      halved_at g _ c _ i t (record { most = t.most; x = t.x; y = half_fits; z = t.z })
      (λ r p. record { x = refl; y = kept _ i h r p; z = refl })
      (rw (used-yes i h, lost i, unused i nz) (with_y _ _ _ _))
      (rw (used-yes i h, lost i, unused i nz) (omega (arith, one_more)))

  pub halve_x : 2 ^ i < g.x → g.y ≤ 2 ^ i → g.z ≤ 2 ^ i → Halved g (record { x = 2 ^ i; y = g.y; z = g.z }) c (bit_of c.x i)
  halve_x h ny nz =
      halved_at g _ c _ i t (record { most = t.most; x = half_fits; y = t.y; z = t.z })
      (λ r p. record { x = kept _ i h r p; y = refl; z = refl })
      (rw (used-yes i h, lost i, unused i ny, unused i nz) (with_x _ _ _))
      (rw (used-yes i h, lost i, unused i ny, unused i nz) (omega (arith, one_more)))
