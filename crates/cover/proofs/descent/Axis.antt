-- Keys along one axis: which bits of a key are an axis' own, and that keys rise along it.
use Prim.Native.Nat.{ℕ, zero, suc, ◌+◌, ◌-◌, ◌*◌, ◌/◌, ◌%◌, ◌^◌, ◌≤◌, ◌<◌, min}
use mathlib.Core.Path.{◌≡◌, refl, sym, ap, ◌∙◌}
use mathlib.Core.Bool.{Bool, true, false}
use native.Mathlib.Omega.{arith}
use native.Mathlib.Decide.{dec_lt}
use native.Mathlib.Nat.{zero-div, div-one, pow-suc, mul-lt-mul_of_pos_left, div-div-eq-div-mul, mul_assoc, one-mul, sub-zero}
use lib.Pow.{pow_pos, pow-add, ones_split, ones_lt, high as div-of}
use lib.Bits.{bit_and, and_step}
use Rattle.morton.specs.declared.grid.Extents.{Extents}
use Rattle.morton.specs.declared.grid.Cell.{Cell}
use Rattle.morton.specs.axis.Axis.{bit_of, used, count, put, AxisBits}
use Rattle.morton.specs.Key.{key_of}
use Rattle.morton.proofs.From.{key_from, key-is}
use Rattle.morton.proofs.axis.Used.{used-yes}

bit-lt : (v i : ℕ) → bit_of v i < 2
unfolding bit_of
bit-lt v i = omega arith

no_bits : (i : ℕ) → bit_of 0 i ≡ 0
unfolding bit_of
no_bits i = rw zero-div

-- ---- one axis of one turn
and-put : (u : Bool) (a b k m : ℕ) → a < 2 → b < 2 → bit_and (put u a k) (put u b m) ≡ put u (min a b) (bit_and k m)
unfolding put
and-put true a b k m p q =
    let s = and_step (a + 2 * k) (b + 2 * m) in
    let e : (a + 2 * k) / 2 ≡ k = omega arith in
    let f : (b + 2 * m) / 2 ≡ m = omega arith in
    let g : (a + 2 * k) % 2 ≡ a = omega arith in
    let h : (b + 2 * m) % 2 ≡ b = omega arith in
    s ∙ rw (e, f, g, h) (omega arith)
and-put false a b k m p q = refl

put-add : (u : Bool) (a b c k l m : ℕ) → put u (a + b + c) (k + l + m) ≡ put u a k + put u b l + put u c m
unfolding put
put-add true a b c k l m = omega arith
put-add false a b c k l m = refl

-- ---- the bits that two cells share, and those of three cells together
module _ (g : Extents) where
  shared : (n i : ℕ) (c d e : Cell) → ((t : ℕ) → t < i + n → min (bit_of c.x t) (bit_of d.x t) ≡ bit_of e.x t)
      → ((t : ℕ) → t < i + n → min (bit_of c.y t) (bit_of d.y t) ≡ bit_of e.y t)
      → ((t : ℕ) → t < i + n → min (bit_of c.z t) (bit_of d.z t) ≡ bit_of e.z t)
      → bit_and (key_from n i g c) (key_from n i g d) ≡ key_from n i g e
  unfolding key_from
  shared zero i c d e x y z = refl
  shared (suc n) i c d e x y z =
      and-put _ _ _ _ _ (bit-lt c.x i) (bit-lt d.x i)
      ∙ rw (x i (omega arith), and-put (used g.y i) _ _ _ _ (bit-lt c.y i) (bit-lt d.y i), y i (omega arith))
      (rw (and-put (used g.z i) _ _ _ _ (bit-lt c.z i) (bit-lt d.z i), z i (omega arith))
      (rw (shared n (suc i) c d e (λ t l. x t (omega arith)) (λ t l. y t (omega arith)) (λ t l. z t (omega arith)))))

  together : (n i : ℕ) (c d e f : Cell) → ((t : ℕ) → bit_of c.x t ≡ bit_of d.x t + bit_of e.x t + bit_of f.x t)
      → ((t : ℕ) → bit_of c.y t ≡ bit_of d.y t + bit_of e.y t + bit_of f.y t)
      → ((t : ℕ) → bit_of c.z t ≡ bit_of d.z t + bit_of e.z t + bit_of f.z t)
      → key_from n i g c ≡ key_from n i g d + key_from n i g e + key_from n i g f
  unfolding key_from
  together zero i c d e f x y z = refl
  together (suc n) i c d e f x y z =
      rw (x i, y i, z i, together n (suc i) c d e f x y z, put-add, put-add, put-add)

-- the cells of an axis through the first cell
abbrev pub on-x : ℕ → Cell
on-x v = record { x = v; y = 0; z = 0 }

abbrev pub on-y : ℕ → Cell
on-y v = record { x = 0; y = v; z = 0 }

abbrev pub on-z : ℕ → Cell
on-z v = record { x = 0; y = 0; z = v }

-- the bits of an axis
ones_bit : (n t : ℕ) → t < n → bit_of (2 ^ n - 1) t ≡ 1
unfolding bit_of
ones_bit n t l =
    let j = n - suc t in
    let e : n ≡ suc j + t = omega arith in
    let f : (2 ^ n - 1) / 2 ^ t ≡ 2 ^ suc j - 1 = ap (λ (k : ℕ). (2 ^ k - 1) / 2 ^ t) e ∙ rw ones_split (div-of (2 ^ suc j - 1) t (ones_lt t)) in
    rw f (omega (arith, pow-suc 2 j, pow_pos j))

all-shared : (v t : ℕ) → t < 32 → min (bit_of v t) (bit_of (2 ^ 32 - 1) t) ≡ bit_of v t
all-shared v t l = rw (ones_bit 32 t l) (omega (arith, bit-lt v t))

none-shared : (v t : ℕ) → min (bit_of v t) (bit_of 0 t) ≡ bit_of 0 t
none-shared v t = rw no_bits (omega arith)

module _ (g : Extents) (c : Cell) where
  pub along_x : bit_and (key_of g c) (key_of g (on-x (2 ^ 32 - 1))) ≡ key_of g (on-x c.x)
  along_x = rw (key-is, key-is, key-is) (shared g 32 0 c _ _ (all-shared c.x) (λ t l. none-shared c.y t) (λ t l. none-shared c.z t))

  pub along_y : bit_and (key_of g c) (key_of g (on-y (2 ^ 32 - 1))) ≡ key_of g (on-y c.y)
  along_y = rw (key-is, key-is, key-is) (shared g 32 0 c _ _ (λ t l. none-shared c.x t) (all-shared c.y) (λ t l. none-shared c.z t))

  pub along_z : bit_and (key_of g c) (key_of g (on-z (2 ^ 32 - 1))) ≡ key_of g (on-z c.z)
  along_z = rw (key-is, key-is, key-is) (shared g 32 0 c _ _ (λ t l. none-shared c.x t) (λ t l. none-shared c.y t) (all-shared c.z))

  pub key-whole : key_of g (on-x c.x) + key_of g (on-y c.y) + key_of g (on-z c.z) ≡ key_of g c
  key-whole =
      rw (key-is, key-is, key-is, key-is)
      (sym (together g 32 0 c _ _ _ (λ t. omega (arith, no_bits t)) (λ t. omega (arith, no_bits t)) (λ t. omega (arith, no_bits t))))

-- ---- keys rise along an axis
put-none : (u : Bool) (i k : ℕ) → put u (bit_of 0 i) k ≡ 2 ^ count u * k
unfolding put count
put-none true i k = rw no_bits (omega arith)
put-none false i k = omega arith

put-yes : (b k : ℕ) → put true b k ≡ b + 2 * k
unfolding put
put-yes b k = refl

bit_is : (v i : ℕ) → bit_of v i ≡ v / 2 ^ i % 2
unfolding bit_of
bit_is v i = refl

later : (v i : ℕ) → v / 2 ^ suc i ≡ v / 2 ^ i / 2
later v i = rw (pow-suc, ← div-div-eq-div-mul)

-- an axis that turn i uses where u does, with p bits of others below its own and q above
axis_from : (ℕ → Bool) → (ℕ → ℕ) → (ℕ → ℕ) → ℕ → ℕ → ℕ → ℕ
axis_from u p q zero i v = 0
axis_from u p q (suc n) i v = 2 ^ p i * put (u i) (v % 2) (2 ^ q i * axis_from u p q n (suc i) (v / 2))

scaled : (k a b : ℕ) → a < b → 2 ^ k * a < 2 ^ k * b
scaled k a b h = mul-lt-mul_of_pos_left h (pow_pos k)

module _ (u : ℕ → Bool) (p q : ℕ → ℕ) (r : ℕ) (uses : (i : ℕ) → i < r → u i ≡ true) where
  axis_rises : (n i v w : ℕ) → r ≤ i + n → v < w → w < 2 ^ (r - i) → axis_from u p q n i v < axis_from u p q n i w
  unfolding axis_from
  axis_rises zero i v w e l h =
      let z : r - i ≡ 0 = omega arith in
      absurd (omega (arith, rw z at h))
  axis_rises (suc n) i v w e l h =
      scaled (p i) _ _ (go (λ m d. axis_rises n (suc i) (v / 2) (w / 2) (omega arith) d (next m)) (dec_lt i r) (dec_lt (v / 2) (w / 2)))
    where
      next : i < r → w / 2 < 2 ^ (r - suc i)
      next m =
          let f : r - i ≡ suc (r - suc i) = omega arith in
          let k : w < 2 ^ (r - suc i) * 2 = rw (f, pow-suc) at h in
          omega arith

      go : (i < r → v / 2 < w / 2 → axis_from u p q n (suc i) (v / 2) < axis_from u p q n (suc i) (w / 2)) → Dec (i < r) → Dec (v / 2 < w / 2)
          → put (u i) (v % 2) (2 ^ q i * axis_from u p q n (suc i) (v / 2)) < put (u i) (w % 2) (2 ^ q i * axis_from u p q n (suc i) (w / 2))
      go ih (no m) d =
          let z : r - i ≡ 0 = omega arith in
          absurd (omega (arith, rw z at h))
      go ih (yes m) (yes d) = rw (uses i m, put-yes, put-yes) (omega (arith, scaled (q i) _ _ (ih m d)))
      go ih (yes m) (no d) =
          let f : v / 2 ≡ w / 2 = omega arith in
          rw (uses i m, f, put-yes, put-yes) (omega arith)

-- the keys of an axis' cells
module _ (g : Extents) where
  axis_x : (n i v : ℕ) → key_from n i g (on-x v) ≡ axis_from (used g.x) (λ i. 0) (λ i. count (used g.y i) + count (used g.z i)) n i (v / 2 ^ i)
  unfolding key_from axis_from
  axis_x zero i v = refl
  axis_x (suc n) i v = rw (put-none, put-none, axis_x n (suc i) v, later, bit_is, pow-add, mul_assoc) (omega arith)

  axis_y : (n i v : ℕ) → key_from n i g (on-y v) ≡ axis_from (used g.y) (λ i. count (used g.x i)) (λ i. count (used g.z i)) n i (v / 2 ^ i)
  unfolding key_from axis_from
  axis_y zero i v = refl
  axis_y (suc n) i v = rw (put-none, put-none, axis_y n (suc i) v, later, bit_is)

  axis_z : (n i v : ℕ) → key_from n i g (on-z v) ≡ axis_from (used g.z) (λ i. count (used g.x i) + count (used g.y i)) (λ i. 0) n i (v / 2 ^ i)
  unfolding key_from axis_from
  axis_z zero i v = refl
  axis_z (suc n) i v = rw (put-none, put-none, axis_z n (suc i) v, later, bit_is, pow-add, mul_assoc, one-mul)

  module _ (v w r : ℕ) (l : v < w) (h : w < 2 ^ r) (k : r ≤ 32) where
    pub x-rises : AxisBits g.x r → key_of g (on-x v) < key_of g (on-x w)
    x-rises b = rw (key-is, key-is, axis_x, axis_x, div-one, div-one) (axis_rises _ _ _ r (λ i m. used-yes i (b.needs i m)) 32 0 v w k l (rw sub-zero h))

    pub y-rises : AxisBits g.y r → key_of g (on-y v) < key_of g (on-y w)
    y-rises b = rw (key-is, key-is, axis_y, axis_y, div-one, div-one) (axis_rises _ _ _ r (λ i m. used-yes i (b.needs i m)) 32 0 v w k l (rw sub-zero h))

    pub z-rises : AxisBits g.z r → key_of g (on-z v) < key_of g (on-z w)
    z-rises b = rw (key-is, key-is, axis_z, axis_z, div-one, div-one) (axis_rises _ _ _ r (λ i m. used-yes i (b.needs i m)) 32 0 v w k l (rw sub-zero h))
