-- Each bit of a cell stands in its key at the place that source 000's steps give it.
use Prim.Native.Nat.{ℕ, zero, suc, ◌+◌, ◌-◌, ◌*◌, ◌/◌, ◌%◌, ◌^◌, ◌<◌}
use mathlib.Core.Path.{◌≡◌, refl, ap, ◌∙◌}
use mathlib.Core.Bool.{Bool, true, false}
use native.Mathlib.Omega.{arith}
use native.Mathlib.Nat.{mod-lt, div-one, div-div-eq-div-mul}
use lib.Pow.{pow-add}
use Rattle.endian.specs.Range.{sum_to}
use Rattle.morton.specs.declared.grid.Extents.{Extents}
use Rattle.morton.specs.declared.grid.Cell.{Cell}
use Rattle.morton.specs.declared.grid.Volume.{Volume}
use Rattle.std.specs.Prelude.{Ok}
use Rattle.morton.specs.axis.Axis.{bit_of, used, count, put}
use Rattle.morton.specs.Key.{key_of}
use Rattle.morton.specs.grid.Grid.{grid_of}
use Rattle.morton.specs.Answers.{key_answer}
use Rattle.morton.proofs.From.{bits_from, key_from, key-is, bits_is, key_below}
use Rattle.morton.proofs.Laws.{keyed}
use Rattle.theorems.specs.Published.{bits_before, HasBits}

-- ---- a bit put below a key

bit-lt : (n i : ℕ) → bit_of n i < 2
unfolding bit_of
bit-lt n i = mod-lt (n / 2 ^ i) (omega arith)

bit-first : (n : ℕ) → bit_of n 0 ≡ n % 2
unfolding bit_of
bit-first n = ap (λ (m : ℕ). m % 2) (div-one n)

same_bit : (n m p q : ℕ) → n / 2 ^ p ≡ m / 2 ^ q → bit_of n p ≡ bit_of m q
unfolding bit_of
same_bit n m p q e = ap (λ (h : ℕ). h % 2) e

bit-here : (v i k : ℕ) {u : Bool} → u ≡ true → bit_of (put u (bit_of v i) k) 0 ≡ bit_of v i
unfolding put
bit-here v i k e = rw e (omega (arith, bit-first (bit_of v i + 2 * k), bit-lt v i))

bit_past : (u : Bool) (v i k p : ℕ) → bit_of (put u (bit_of v i) k) (count u + p) ≡ bit_of k p
unfolding put count
bit_past true v i k p =
    let h : (bit_of v i + 2 * k) / 2 ≡ k = omega (arith, bit-lt v i) in
    let e : (bit_of v i + 2 * k) / 2 ^ (1 + p) ≡ k / 2 ^ p = rw (pow-add 2 1 p, ← div-div-eq-div-mul, h) in
    same_bit (bit_of v i + 2 * k) k (1 + p) p e
bit_past false v i k p = ap (bit_of k) (omega arith)

module _ (g : Extents) (c : Cell) where
  -- past the bits of a turn
  turn-past : (n j p : ℕ) → bit_of (key_from (suc n) j g c) (count (used g.x j) + (count (used g.y j) + (count (used g.z j) + p))) ≡ bit_of (key_from n (suc j) g c) p
  unfolding key_from
  turn-past n j p = bit_past _ c.x j _ _ ∙ bit_past _ c.y j _ _ ∙ bit_past _ c.z j _ _

  -- past those of i turns
  turns-past : (i m j e : ℕ) → bit_of (key_from (i + m) j g c) (bits_from i j g + e) ≡ bit_of (key_from m (j + i) g c) e
  unfolding bits_from
  turns-past zero m j e =
      let a : 0 + m ≡ m = omega arith in
      let b : 0 + e ≡ e = omega arith in
      let d : j + 0 ≡ j = omega arith in
      rw (a, b, d)
  turns-past (suc i) m j e =
      let a : suc i + m ≡ suc (i + m) = omega arith in
      let b : count (used g.x j) + (count (used g.y j) + (count (used g.z j) + bits_from i (suc j) g)) + e ≡ count (used g.x j) + (count (used g.y j) + (count (used g.z j) + (bits_from i (suc j) g + e))) = omega arith in
      let d : j + suc i ≡ suc j + i = omega arith in
      rw (a, b, d) (turn-past (i + m) j (bits_from i (suc j) g + e) ∙ turns-past i m (suc j) e)

  -- the turns before turn i, counted
  counted : (n j : ℕ) → bits_before g (j + n) ≡ bits_before g j + bits_from n j g
  unfolding bits_from
  counted zero j = let a : bits_before g (j + 0) ≡ bits_before g j = ap (bits_before g) (omega arith) in omega arith
  counted (suc n) j =
      let a : bits_before g (j + suc n) ≡ bits_before g (suc j + n) = ap (bits_before g) (omega arith) in
      let b : bits_before g (suc j) ≡ bits_before g j + (count (used g.x j) + (count (used g.y j) + count (used g.z j))) = unfold sum_to in refl in
      omega (arith, counted n (suc j))

  bits_are : (n : ℕ) → bits_before g n ≡ bits_from n 0 g
  bits_are n =
      let a : bits_before g n ≡ bits_before g (0 + n) = ap (bits_before g) (omega arith) in
      let b : bits_before g 0 ≡ 0 = unfold sum_to in refl in
      omega (arith, counted n 0)

  -- what is left of the key at turn i
  left_at : (i e : ℕ) → i < 32 → bit_of (key_of g c) (bits_before g i + e) ≡ bit_of (key_from (suc (31 - i)) i g c) e
  left_at i e h =
      let a : 32 ≡ i + suc (31 - i) = omega arith in
      let b : 0 + i ≡ i = omega arith in
      rw (key-is g c, bits_are i, a) (turns-past i (suc (31 - i)) 0 e ∙ ap (λ (j : ℕ). bit_of (key_from (suc (31 - i)) j g c) e) b)

  has-bits : HasBits g c (key_of g c)
  has-bits =
      record {
        x = λ i h u. ap (bit_of (key_of g c)) (omega arith) ∙ left_at i 0 h ∙ (unfold key_from in bit-here c.x i _ u);
        y = λ i h u. left_at i (count (used g.x i)) h ∙ (unfold key_from in (ap (bit_of (key_from (suc (31 - i)) i g c)) (omega arith) ∙ bit_past (used g.x i) c.x i _ 0 ∙ bit-here c.y i _ u));
        z = λ i h u. left_at i (count (used g.x i) + count (used g.y i)) h ∙ (unfold key_from in (ap (bit_of (key_from (suc (31 - i)) i g c)) (omega arith) ∙ bit_past (used g.x i) c.x i _ (count (used g.y i) + 0) ∙ bit_past (used g.y i) c.y i _ 0 ∙ bit-here c.z i _ u));
        below = rw (bits_are 32, ← bits_is g) (key_below g c);
      }

pub key-bits : (v : Volume) (c : Cell) (k : ℕ) → key_answer v c ≡ Ok k → HasBits (grid_of v) c k
key-bits v c k e = rw (keyed v c k e).is (has-bits (grid_of v) c)
