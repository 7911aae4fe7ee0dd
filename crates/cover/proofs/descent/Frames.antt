-- Keys and cells of frames, grids of a power of two cells along each axis: every number of so many bits is a key, and the highest bit adds to one coordinate.
use Prim.Native.Nat.{ℕ, zero, suc, ◌+◌, ◌-◌, ◌*◌, ◌^◌, ◌≤◌, ◌<◌}
use mathlib.Core.Path.{◌≡◌, refl, sym, ap, ◌∙◌}
use mathlib.Core.Bool.{false}
use native.Mathlib.Omega.{arith}
use native.Mathlib.Decide.{dec_lt}
use native.Mathlib.Nat.{pow-suc, le_refl, le_trans, lt_of_lt_of_le, div-eq_of_lt, add-mul-div_left, add-div_right}
use lib.Pow.{pow-add, pow-lt, pow_mono, pow_pos}
use Rattle.morton.specs.declared.grid.Extents.{Extents}
use Rattle.morton.specs.declared.grid.Cell.{Cell}
use Rattle.morton.specs.axis.Axis.{bit_of, used, put, low, AxisBits}
use Rattle.morton.specs.Key.{key_of, cell_of, key_bits_of}
use Rattle.morton.proofs.From.{key_from, cell_from, after_turn, key-is, cell-is, low-lt, cell_of_key, key_of_cell}
use Rattle.morton.proofs.axis.Used.{unused, axis_bits_are}
use Rattle.morton.proofs.Lengths.{key-bits-sum}
use Rattle.cover.proofs.descent.HighBit.{Halved, halve_x, halve_y, halve_z}

abbrev pub cube : ℕ → ℕ → ℕ → Extents
cube a b d = record { x = 2 ^ a; y = 2 ^ b; z = 2 ^ d }

pub record Inside (g : Extents) (c : Cell) : Type 0 where
  pub x : c.x < g.x
  pub y : c.y < g.y
  pub z : c.z < g.z

-- ---- a frame's keys and cells
axis_bits : (b : ℕ) → b ≤ 32 → AxisBits (2 ^ b) b
axis_bits b h = axis_bits_are (2 ^ b) b (le_refl _) (λ i l. pow-lt l) h

pub cube-bits : (a b d : ℕ) → a ≤ 32 → b ≤ 32 → d ≤ 32 → key_bits_of (cube a b d) ≡ a + b + d
cube-bits a b d p q r = sym (key-bits-sum (cube a b d) (axis_bits a p) (axis_bits b q) (axis_bits d r))

low-none : (k : ℕ) → low false k ≡ 0
unfolding low
low-none k = refl

sub-zero : (n : ℕ) → n - 0 ≡ n
sub-zero n = omega arith

-- bit i, and what the later turns read
turn-lt : (b i k d : ℕ) → d < 2 ^ (b - suc i) → low (used (2 ^ b) i) k + 2 * d < 2 ^ (b - i)
turn-lt b i k d h = go (dec_lt i b)
  where
    go : Dec (i < b) → low (used (2 ^ b) i) k + 2 * d < 2 ^ (b - i)
    go (yes l) =
        let e : b - i ≡ suc (b - suc i) = omega arith in
        rw (e, pow-suc) (omega (arith, low-lt (used (2 ^ b) i) k))
    go (no l) =
        let e : b - i ≡ 0 = omega arith in
        let f : b - suc i ≡ 0 = omega arith in
        let m : d < 2 ^ 0 = rw f at h in
        let o : b ≤ i = omega arith in
        rw (e, unused i (pow_mono o), low-none k) (omega arith)

cells-lt : (a b d n i k : ℕ)
    → ((cell_from n i (cube a b d) k).x < 2 ^ (a - i)) × ((cell_from n i (cube a b d) k).y < 2 ^ (b - i)) × ((cell_from n i (cube a b d) k).z < 2 ^ (d - i))
unfolding cell_from
cells-lt a b d zero i k = (pow_pos (a - i), pow_pos (b - i), pow_pos (d - i))
cells-lt a b d (suc n) i k =
    let ih = cells-lt a b d n (suc i) (after_turn (cube a b d) i k) in
    (turn-lt a i _ _ ih.0, turn-lt b i _ _ ih.1, turn-lt d i _ _ ih.2)

pub inside-cube : (a b d k : ℕ) → Inside (cube a b d) (cell_of (cube a b d) k)
inside-cube a b d k =
    let h = cells-lt a b d 32 0 k in
    rw cell-is (record { x = rw sub-zero at h.0; y = rw sub-zero at h.1; z = rw sub-zero at h.2 })

pub cube_back : (a b d : ℕ) (c : Cell) → a ≤ 32 → b ≤ 32 → d ≤ 32 → Inside (cube a b d) c → cell_of (cube a b d) (key_of (cube a b d) c) ≡ c
cube_back a b d c p q r h =
    cell_of_key (cube a b d) c h.x h.y h.z
    (lt_of_lt_of_le h.x (pow_mono p)) (lt_of_lt_of_le h.y (pow_mono q)) (lt_of_lt_of_le h.z (pow_mono r))

-- ---- one bit of a coordinate
no-bit : (v i : ℕ) → v < 2 ^ i → bit_of v i ≡ 0
unfolding bit_of
no-bit v i h = rw (div-eq_of_lt h)

one_bit_lem : (v i : ℕ) → v < 2 ^ i → bit_of (v + 2 ^ i) i ≡ 1
unfolding bit_of
one_bit_lem v i h = rw (add-div_right v (pow_pos i), div-eq_of_lt h)

-- the bits below bit i do not change with it
low-bit-kept : (v i t : ℕ) → t < i → bit_of (v + 2 ^ i) t ≡ bit_of v t
unfolding bit_of
low-bit-kept v i t l =
    let e : i ≡ t + suc (i - suc t) = omega arith in
    let f : 2 ^ i ≡ 2 ^ t * 2 ^ suc (i - suc t) = ap (λ (n : ℕ). 2 ^ n) e ∙ pow-add 2 t (suc (i - suc t)) in
    rw (f, add-mul-div_left v (2 ^ suc (i - suc t)) (pow_pos t), pow-suc) (omega arith)

-- nor what a turn of an axis of 2 ^ i cells puts
put-kept : (v i t k : ℕ) → put (used (2 ^ i) t) (bit_of (v + 2 ^ i) t) k ≡ put (used (2 ^ i) t) (bit_of v t) k
put-kept v i t k = go (dec_lt t i)
  where
    go : Dec (t < i) → put (used (2 ^ i) t) (bit_of (v + 2 ^ i) t) k ≡ put (used (2 ^ i) t) (bit_of v t) k
    go (yes l) = rw (low-bit-kept v i t l)
    go (no l) = let o : i ≤ t = omega arith in unfold put in rw (unused t (pow_mono o))

-- ---- the key of a cell reads of an axis only the bits that turns put
keys_kept_lem : (g : Extents) (c e : Cell)
    → ((t k : ℕ) → put (used g.x t) (bit_of c.x t) k ≡ put (used g.x t) (bit_of e.x t) k)
    → ((t k : ℕ) → put (used g.y t) (bit_of c.y t) k ≡ put (used g.y t) (bit_of e.y t) k)
    → ((t k : ℕ) → put (used g.z t) (bit_of c.z t) k ≡ put (used g.z t) (bit_of e.z t) k)
    → key_of g c ≡ key_of g e
unfolding key_from
keys_kept_lem g c e x y z = rw (key-is, key-is) (go 32 0)
  where
    go : (n t : ℕ) → key_from n t g c ≡ key_from n t g e
    go zero t = refl
    go (suc n) t = rw (go n (suc t), z t, y t, x t)

-- ---- the highest bit: g is a frame, h its half along the bit's axis, `up` moves a cell of h into the other half
pub record Cut (g h : Extents) (at : Cell → ℕ) (up : Cell → Cell) (i : ℕ) : Type 0 where
  pub halved : (c : Cell) → Halved g h c (bit_of (at c) i)
  pub cells : (k : ℕ) → Inside h (cell_of h k)
  pub back : (c : Cell) → Inside h c → cell_of g (key_of g c) ≡ c
  pub back_up : (c : Cell) → Inside h c → cell_of g (key_of g (up c)) ≡ up c
  pub below : (c : Cell) → Inside h c → at c < 2 ^ i
  pub moved : (c : Cell) → at (up c) ≡ at c + 2 ^ i
  pub same : (c : Cell) → key_of h (up c) ≡ key_of h c

module _ (g h : Extents) (at : Cell → ℕ) (up : Cell → Cell) (i : ℕ) (w : Cut g h at up i) (k : ℕ) (l : k < 2 ^ key_bits_of h) where
  d : Cell
  d = cell_of h k

  low-key : key_of g d ≡ k
  unfolding d
  low-key = (w.halved d).key ∙ rw (no-bit (at d) i (w.below d (w.cells k)), key_of_cell h k l) (omega arith)

  pub cut_low : cell_of g k ≡ cell_of h k
  unfolding d
  cut_low = ap (cell_of g) (sym low-key) ∙ w.back d (w.cells k)

  high-key : key_of g (up d) ≡ 2 ^ key_bits_of h + k
  unfolding d
  high-key =
      (w.halved (up d)).key
      ∙ rw (w.moved d, one_bit_lem (at d) i (w.below d (w.cells k)), w.same d, key_of_cell h k l) (omega arith)

  pub cut_high : cell_of g (2 ^ key_bits_of h + k) ≡ up (cell_of h k)
  unfolding d
  cut_high = ap (cell_of g) (sym high-key) ∙ w.back_up d (w.cells k)

module _ (i : ℕ) (l : suc i ≤ 32) where
  half_lt : (v : ℕ) → v < 2 ^ i → v + 2 ^ i < 2 ^ suc i
  half_lt v h = rw pow-suc (omega arith)

  whole-lt : (v : ℕ) → v < 2 ^ i → v < 2 ^ suc i
  whole-lt v h = rw pow-suc (omega arith)

  half_le : i ≤ suc i
  half_le = omega arith

  i_le : i ≤ 32
  i_le = omega arith

  pub cut-z : (a b : ℕ) → a ≤ suc i → b ≤ suc i
      → Cut (cube a b (suc i)) (cube a b i) (λ (c : Cell). c.z) (λ (c : Cell). record { x = c.x; y = c.y; z = c.z + 2 ^ i }) i
  cut-z a b p q =
      record {
        halved = λ c. halve_z (cube a b (suc i)) c i (record { most = l; x = pow_mono p; y = pow_mono q; z = le_refl _ }) (pow-lt (le_refl _));
        cells = inside-cube a b i;
        back = λ c h. cube_back a b (suc i) c (le_trans p l) (le_trans q l) l (record { x = h.x; y = h.y; z = whole-lt _ h.z });
        back_up = λ c h. cube_back a b (suc i) _ (le_trans p l) (le_trans q l) l (record { x = h.x; y = h.y; z = half_lt _ h.z });
        below = λ c h. h.z;
        moved = λ c. refl;
        same = λ c. keys_kept_lem (cube a b i) _ c (λ t k. refl) (λ t k. refl) (put-kept c.z i);
      }

  pub cut-y : (a d : ℕ) → a ≤ suc i → d ≤ i
      → Cut (cube a (suc i) d) (cube a i d) (λ (c : Cell). c.y) (λ (c : Cell). record { x = c.x; y = c.y + 2 ^ i; z = c.z }) i
  cut-y a d p q =
      record {
        halved = λ c. halve_y (cube a (suc i) d) c i (record { most = l; x = pow_mono p; y = le_refl _; z = pow_mono (le_trans q half_le) }) (pow-lt (le_refl _)) (pow_mono q);
        cells = inside-cube a i d;
        back = λ c h. cube_back a (suc i) d c (le_trans p l) l (le_trans q i_le) (record { x = h.x; y = whole-lt _ h.y; z = h.z });
        back_up = λ c h. cube_back a (suc i) d _ (le_trans p l) l (le_trans q i_le) (record { x = h.x; y = half_lt _ h.y; z = h.z });
        below = λ c h. h.y;
        moved = λ c. refl;
        same = λ c. keys_kept_lem (cube a i d) _ c (λ t k. refl) (put-kept c.y i) (λ t k. refl);
      }

  pub cut-x : (b d : ℕ) → b ≤ i → d ≤ i
      → Cut (cube (suc i) b d) (cube i b d) (λ (c : Cell). c.x) (λ (c : Cell). record { x = c.x + 2 ^ i; y = c.y; z = c.z }) i
  cut-x b d p q =
      record {
        halved = λ c. halve_x (cube (suc i) b d) c i (record { most = l; x = le_refl _; y = pow_mono (le_trans p half_le); z = pow_mono (le_trans q half_le) }) (pow-lt (le_refl _)) (pow_mono p) (pow_mono q);
        cells = inside-cube i b d;
        back = λ c h. cube_back (suc i) b d c l (le_trans p i_le) (le_trans q i_le) (record { x = whole-lt _ h.x; y = h.y; z = h.z });
        back_up = λ c h. cube_back (suc i) b d _ l (le_trans p i_le) (le_trans q i_le) (record { x = half_lt _ h.x; y = h.y; z = h.z });
        below = λ c h. h.x;
        moved = λ c. refl;
        same = λ c. keys_kept_lem (cube i b d) _ c (put-kept c.x i) (λ t k. refl) (λ t k. refl);
      }
