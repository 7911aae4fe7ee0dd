-- What the turns from i on make: a key of the bits from there on, lowest first; its number of bits; and back, a cell and what is left of a key.
use Prim.Native.Nat.{ℕ, zero, suc, ◌+◌, ◌*◌, ◌/◌, ◌^◌, ◌≤◌, ◌<◌}
use mathlib.Core.Path.{◌≡◌, refl, sym, ap, ◌∙◌}
use mathlib.Core.Bool.{Bool, true, false}
use native.Mathlib.Omega.{arith}
use native.Mathlib.Nat.{pow-suc, mod-lt, div-eq_of_lt, div-div-eq-div-mul, div-one, lt_of_lt_of_le, zero-add, add-zero}
use lib.Pow.{pow-add}
use borrow.Author.Tests.{ltb-false}
use Rattle.morton.specs.declared.grid.Extents.{Extents}
use Rattle.morton.specs.declared.grid.Cell.{Cell}
use Rattle.morton.specs.axis.Axis.{bit_of, used, count, put, low, rest}
use Rattle.morton.specs.Key.{Output, step, steps, key_of, key_bits_of, Input, into, step_back, steps_back, cell_of}
use Rattle.morton.proofs.axis.Used.{unused}

-- ---- n turns from turn i on
unfoldable pub bits_from : ℕ → ℕ → Extents → ℕ
bits_from zero i g = 0
bits_from (suc n) i g = count (used g.x i) + (count (used g.y i) + (count (used g.z i) + bits_from n (suc i) g))

unfoldable pub key_from : ℕ → ℕ → Extents → Cell → ℕ
key_from zero i g c = 0
key_from (suc n) i g c =
    put (used g.x i) (bit_of c.x i)
    (put (used g.y i) (bit_of c.y i)
    (put (used g.z i) (bit_of c.z i) (key_from n (suc i) g c)))

-- a key without the bits of turn i, and without those of n turns
unfoldable pub after_turn : Extents → ℕ → ℕ → ℕ
after_turn g i k = rest (used g.z i) (rest (used g.y i) (rest (used g.x i) k))

unfoldable left_from : ℕ → ℕ → Extents → ℕ → ℕ
left_from zero i g k = k
left_from (suc n) i g k = left_from n (suc i) g (after_turn g i k)

-- the cell of a key, each coordinate divided by 2 ^ i
unfoldable pub cell_from : ℕ → ℕ → Extents → ℕ → Cell
cell_from zero i g k = record { x = 0; y = 0; z = 0 }
cell_from (suc n) i g k =
    record {
      x = low (used g.x i) k + 2 * (cell_from n (suc i) g (after_turn g i k)).x;
      y = low (used g.y i) (rest (used g.x i) k) + 2 * (cell_from n (suc i) g (after_turn g i k)).y;
      z = low (used g.z i) (rest (used g.y i) (rest (used g.x i) k)) + 2 * (cell_from n (suc i) g (after_turn g i k)).z;
    }

-- ---- one bit
bit-lt : (n i : ℕ) → bit_of n i < 2
unfolding bit_of
bit-lt n i = mod-lt (n / 2 ^ i) (omega arith)

-- n / 2 ^ i is its lowest bit and n / 2 ^ (i + 1)
pub half : (n i : ℕ) → n / 2 ^ i ≡ bit_of n i + 2 * (n / 2 ^ suc i)
unfolding bit_of
half n i = rw (pow-suc, ← div-div-eq-div-mul) (omega arith)

rest_put : (u : Bool) (v i k : ℕ) → rest u (put u (bit_of v i) k) ≡ k
unfolding put rest
rest_put true v i k = omega (arith, bit-lt v i)
rest_put false v i k = refl

low-put : (u : Bool) (v i k : ℕ) → low u (put u (bit_of v i) k) ≡ count u * bit_of v i
unfolding put low count
low-put true v i k = omega (arith, bit-lt v i)
low-put false v i k = omega arith

pub low-lt : (u : Bool) (k : ℕ) → low u k < 2
unfolding low
low-lt true k = omega arith
low-lt false k = omega arith

put_low : (u : Bool) (k : ℕ) → put u (low u k) (rest u k) ≡ k
unfolding put low rest
put_low true k = omega arith
put_low false k = refl

put-lt : (u : Bool) (b k m : ℕ) → b < 2 → k < 2 ^ m → put u b k < 2 ^ (count u + m)
unfolding put count
put-lt true b k m h l = rw (pow-add 2 1 m) (omega arith)
put-lt false b k m h l = rw (pow-add 2 0 m) (omega arith)

rest-div : (u : Bool) (k j : ℕ) → rest u (k / 2 ^ j) ≡ k / 2 ^ (j + count u)
unfolding rest count
rest-div true k j = rw (pow-add 2 j 1, ← div-div-eq-div-mul)
rest-div false k j = rw (pow-add 2 j 0, ← div-div-eq-div-mul) (omega arith)

-- ---- keys
key-from-lt : (n i : ℕ) (g : Extents) (c : Cell) → key_from n i g c < 2 ^ bits_from n i g
unfolding key_from bits_from
key-from-lt zero i g c = omega arith
key-from-lt (suc n) i g c =
    put-lt _ _ _ _ (bit-lt c.x i) (put-lt _ _ _ _ (bit-lt c.y i) (put-lt _ _ _ _ (bit-lt c.z i) (key-from-lt n (suc i) g c)))

-- the steps give what they had, and above it the rest
then : Output → ℕ → ℕ → Output
then w m e = record { j = w.j + m; key = w.key + e * 2 ^ w.j }

then-step : (u : Bool) (b : ℕ) (w : Output) (m e : ℕ) → then (step u b w) m e ≡ then w (count u + m) (put u b e)
unfolding then step count put
then-step true b w m e =
    λ t. record { j = one t; key = two t }
  where
    one : w.j + 1 + m ≡ w.j + (1 + m)
    one = omega arith

    two : w.key + b * 2 ^ w.j + e * 2 ^ (w.j + 1) ≡ w.key + (b + 2 * e) * 2 ^ w.j
    two = rw (pow-add 2 w.j 1) (omega arith)
then-step false b w m e = ap (λ (x : ℕ). then w x e) (omega arith)

steps_are : (n i : ℕ) (g : Extents) (c : Cell) (w : Output) → steps n i g c w ≡ then w (bits_from n i g) (key_from n i g c)
unfolding steps bits_from key_from
steps_are zero i g c w = unfold then in λ t. record { j = one t; key = two t }
  where
    one : w.j ≡ w.j + 0
    one = omega arith

    two : w.key ≡ w.key + 0 * 2 ^ w.j
    two = omega arith
steps_are (suc n) i g c w = steps_are n (suc i) g c _ ∙ then-step _ _ _ _ _ ∙ then-step _ _ _ _ _ ∙ then-step _ _ _ _ _

pub key-is : (g : Extents) (c : Cell) → key_of g c ≡ key_from 32 0 g c
unfolding key_of then
key-is g c = ap (λ (w : Output). w.key) (steps_are 32 0 g c _) ∙ omega arith

pub bits_is : (g : Extents) → key_bits_of g ≡ bits_from 32 0 g
unfolding key_bits_of then
bits_is g = ap (λ (w : Output). w.j) (steps_are 32 0 g _ _) ∙ omega arith

-- the steps give as many bits whatever the cell
pub bits_of_any-cell : (g : Extents) (c : Cell) → (steps 32 0 g c (record { j = 0; key = 0 })).j ≡ key_bits_of g
unfolding then
bits_of_any-cell g c = rw bits_is (ap (λ (w : Output). w.j) (steps_are 32 0 g c _) ∙ omega arith)

-- ---- cells: the steps back give what they had, and the rest times 2 ^ i
then_in : Input → ℕ → ℕ → Cell → Input
then_in w i m d =
    record { j = w.j + m; x = w.x + d.x * 2 ^ i; y = w.y + d.y * 2 ^ i; z = w.z + d.z * 2 ^ i }

-- one axis: what is read into bit i, and what the later turns add
into-then : (u : Bool) (key j i v d : ℕ) → into u key j i v + d * 2 ^ suc i ≡ v + (low u (key / 2 ^ j) + 2 * d) * 2 ^ i
unfolding into low bit_of
into-then true key j i v d = rw pow-suc (omega arith)
into-then false key j i v d = rw pow-suc (omega arith)

after-div : (g : Extents) (key j i : ℕ)
    → after_turn g i (key / 2 ^ j) ≡ key / 2 ^ (j + count (used g.x i) + count (used g.y i) + count (used g.z i))
unfolding after_turn
after-div g key j i = simp rest-div

input_eq : {a b : Input} → a.j ≡ b.j → a.x ≡ b.x → a.y ≡ b.y → a.z ≡ b.z → a ≡ b
input_eq o p q r = λ t. record { j = o t; x = p t; y = q t; z = r t }

steps_back_are : (n i : ℕ) (g : Extents) (key : ℕ) (w : Input)
    → steps_back n i g key w ≡ then_in w i (bits_from n i g) (cell_from n i g (key / 2 ^ w.j))
unfolding steps_back bits_from cell_from then_in
steps_back_are zero i g key w = input_eq (omega arith) (omega arith) (omega arith) (omega arith)
steps_back_are (suc n) i g key w =
    steps_back_are n (suc i) g key _
    ∙ (unfold step_back in
    input_eq sum (simp after-div (into-then _ _ _ _ _ _)) (simp (after-div, rest-div) (into-then _ _ _ _ _ _))
    (simp (after-div, rest-div) (into-then _ _ _ _ _ _)))
  where
    sum : (w.j + count (used g.x i) + count (used g.y i) + count (used g.z i)) + bits_from n (suc i) g
        ≡ w.j + (count (used g.x i) + (count (used g.y i) + (count (used g.z i) + bits_from n (suc i) g)))
    sum = omega arith

cell_eq : {a b : Cell} → a.x ≡ b.x → a.y ≡ b.y → a.z ≡ b.z → a ≡ b
cell_eq p q r = λ t. record { x = p t; y = q t; z = r t }

pub cell-is : (g : Extents) (key : ℕ) → cell_of g key ≡ cell_from 32 0 g key
unfolding cell_of then_in
cell-is g key = simp (steps_back_are, div-one) (cell_eq (omega arith) (omega arith) (omega arith))

left_is : (n i : ℕ) (g : Extents) (k : ℕ) → left_from n i g k ≡ k / 2 ^ bits_from n i g
unfolding left_from bits_from
left_is n i g k = ap (left_from n i g) (sym (div-one k)) ∙ go n i 0 ∙ ap (λ (x : ℕ). k / 2 ^ x) (zero-add _)
  where
    go : (n i j : ℕ) → left_from n i g (k / 2 ^ j) ≡ k / 2 ^ (j + bits_from n i g)
    go zero i j = rw add-zero
    go (suc n) i j = rw after-div (go n (suc i) _ ∙ ap (λ (x : ℕ). k / 2 ^ x) (omega arith))

left-all : (g : Extents) (k : ℕ) → left_from 32 0 g k ≡ k / 2 ^ key_bits_of g
left-all g k = rw bits_is (left_is 32 0 g k)

-- ---- round trips
-- a coordinate below its axis' size, from turn i on
axis : (g v i : ℕ) → v < g → count (used g i) * bit_of v i + 2 * (v / 2 ^ suc i) ≡ v / 2 ^ i
unfolding count used
axis g v i h = go (used g i) refl
  where
    go : (u : Bool) → used g i ≡ u → count u * bit_of v i + 2 * (v / 2 ^ suc i) ≡ v / 2 ^ i
    go true e = omega (arith, half v i)
    go false e = omega (arith, half v i, div-eq_of_lt (lt_of_lt_of_le h (ltb-false _ _ e)))

after-put : (g : Extents) (c : Cell) (i k : ℕ)
    → after_turn g i (put (used g.x i) (bit_of c.x i) (put (used g.y i) (bit_of c.y i) (put (used g.z i) (bit_of c.z i) k))) ≡ k
unfolding after_turn
after-put g c i k = simp rest_put

-- a cell of the grid, whose coordinates have 32 bits at most
module _ (g : Extents) (c : Cell) (hx : c.x < g.x) (hy : c.y < g.y) (hz : c.z < g.z)
    (lx : c.x < 2 ^ 32) (ly : c.y < 2 ^ 32) (lz : c.z < 2 ^ 32) where
  none : (v i : ℕ) → v < 2 ^ 32 → i + 0 ≡ 32 → 0 ≡ v / 2 ^ i
  none v i h e = let f : i ≡ 32 = omega arith in rw f (sym (div-eq_of_lt h))

  cell-from-key-from : (n i : ℕ) → i + n ≡ 32 → cell_from n i g (key_from n i g c) ≡ record { x = c.x / 2 ^ i; y = c.y / 2 ^ i; z = c.z / 2 ^ i }
  unfolding cell_from key_from
  cell-from-key-from zero i e = cell_eq (none _ i lx e) (none _ i ly e) (none _ i lz e)
  cell-from-key-from (suc n) i e =
      let ih = cell-from-key-from n (suc i) (omega arith) in
      cell_eq (simp (low-put, after-put, ih) (axis g.x c.x i hx))
      (simp (rest_put, low-put, after-put, ih) (axis g.y c.y i hy))
      (simp (rest_put, low-put, after-put, ih) (axis g.z c.z i hz))

  pub cell_of_key : cell_of g (key_of g c) ≡ c
  cell_of_key = rw (cell-is, key-is) (cell-from-key-from 32 0 refl ∙ cell_eq (div-one _) (div-one _) (div-one _))

-- a bit that was read
bit-read : (u : Bool) (v i k d : ℕ) → v / 2 ^ i ≡ low u k + 2 * d → (bit_of v i ≡ low u k) × (v / 2 ^ suc i ≡ d)
bit-read u v i k d e = omega (arith, half v i, bit-lt v i, low-lt u k)

key-from-cell-from : (n i : ℕ) (g : Extents) (c : Cell) (k : ℕ)
    → c.x / 2 ^ i ≡ (cell_from n i g k).x → c.y / 2 ^ i ≡ (cell_from n i g k).y → c.z / 2 ^ i ≡ (cell_from n i g k).z
    → left_from n i g k ≡ 0 → key_from n i g c ≡ k
unfolding cell_from key_from left_from
key-from-cell-from zero i g c k ex ey ez l = sym l
key-from-cell-from (suc n) i g c k ex ey ez l =
    let px = bit-read _ _ i _ _ ex in
    let py = bit-read _ _ i _ _ ey in
    let pz = bit-read _ _ i _ _ ez in
    rw (key-from-cell-from n (suc i) g c (after_turn g i k) px.1 py.1 pz.1 l, px.0, py.0, pz.0) (unfold after_turn in simp put_low)

pub key_of_cell : (g : Extents) (k : ℕ) → k < 2 ^ key_bits_of g → key_of g (cell_of g k) ≡ k
key_of_cell g k h =
    rw (key-is, cell-is)
    (key-from-cell-from 32 0 g (cell_from 32 0 g k) k (div-one _) (div-one _) (div-one _) (left-all g k ∙ div-eq_of_lt h))

pub key_below : (g : Extents) (c : Cell) → key_of g c < 2 ^ key_bits_of g
key_below g c = rw (key-is, bits_is) (key-from-lt 32 0 g c)

-- ---- turns that use no axis
pub more : {g : ℕ} (i : ℕ) → g ≤ 2 ^ i → g ≤ 2 ^ suc i
more i h = rw pow-suc (omega arith)

module _ (g : Extents) where
  pub key-from-none : (c : Cell) (n i : ℕ) → g.x ≤ 2 ^ i → g.y ≤ 2 ^ i → g.z ≤ 2 ^ i → key_from n i g c ≡ 0
  unfolding key_from put
  key-from-none c zero i hx hy hz = refl
  key-from-none c (suc n) i hx hy hz = simp (unused i hx, unused i hy, unused i hz) (key-from-none c n (suc i) (more i hx) (more i hy) (more i hz))

  pub cell-from-none : (k n i : ℕ) → g.x ≤ 2 ^ i → g.y ≤ 2 ^ i → g.z ≤ 2 ^ i → cell_from n i g k ≡ record { x = 0; y = 0; z = 0 }
  unfolding cell_from after_turn rest low
  cell-from-none k zero i hx hy hz = refl
  cell-from-none k (suc n) i hx hy hz =
      simp (unused i hx, unused i hy, unused i hz, cell-from-none k n (suc i) (more i hx) (more i hy) (more i hz))

  pub bits-from-none : (n i : ℕ) → g.x ≤ 2 ^ i → g.y ≤ 2 ^ i → g.z ≤ 2 ^ i → bits_from n i g ≡ 0
  unfolding bits_from count
  bits-from-none zero i hx hy hz = refl
  bits-from-none (suc n) i hx hy hz =
      simp (unused i hx, unused i hy, unused i hz) (omega (arith, bits-from-none n (suc i) (more i hx) (more i hy) (more i hz)))
