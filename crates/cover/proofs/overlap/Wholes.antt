-- The whole grid as a part: the marked cells of each axis are those that share a place with the box.
use Prim.Native.Nat.{ℕ, zero, suc, ◌+◌, ◌-◌, ◌*◌, ◌/◌, ◌^◌, ◌≤◌, ◌<◌, min, max}
use mathlib.Core.Path.{◌≡◌, refl, sym, ap, ◌∙◌}
use mathlib.Core.Bool.{Bool, true, false, ◌&&◌}
use native.Mathlib.Omega.{arith}
use native.Mathlib.Decide.{dec_lt}
use native.Mathlib.Nat.{div-lt_iff_lt-mul, le_refl, le_trans, lt_of_lt_of_le, min-le_left}
use lib.Dec.{ltb, leb}
use lib.IntN.{ℤ}
use lib.Pow.{pow_mono, pow-lt}
use borrow.Author.Tests.{ltb-true, lt-ltb, leb-true, le-leb, le-ltb}
use Rattle.refusal.proofs.Tests.{both}
use Rattle.morton.specs.declared.grid.Cell.{Cell}
use Rattle.morton.specs.declared.grid.Extents.{Extents}
use Rattle.morton.specs.declared.bounds.Point.{Point}
use Rattle.morton.specs.declared.grid.Volume.{Volume}
use Rattle.morton.specs.grid.Grid.{grid_of, grid_size, in_grid}
use Rattle.morton.specs.axis.Axis.{used, AxisBits}
use Rattle.morton.specs.Key.{cell_of, key_bits_of, is_key}
use Rattle.morton.specs.bounds.Bounds.{cell_begin, cell_end, begin_point, end_point}
use Rattle.morton.proofs.grid.Covers.{next, cell-begins-inside, begins-inside-is-cell, grid-size-reached, grid-size_reaches}
use Rattle.morton.proofs.From.{cell_from, after_turn, cell-is}
use Rattle.morton.proofs.axis.Used.{used-yes, unused}
use Rattle.morton.proofs.Lengths.{key-bits-sum}
use Rattle.cover.specs.declared.overlap.Along.{Along}
use Rattle.cover.specs.declared.overlap.Part.{Part}
use Rattle.cover.specs.overlap.Cover.{shares, meets, covers, cover_keys}
use Rattle.cover.specs.overlap.Marked.{marked, Fitting, marked_cell, frame, left_bits, part_keys, Framed, before, Spans, Whole}
use Rattle.cover.proofs.overlap.Tests.{not-true-false, false-last}
use Rattle.cover.proofs.overlap.Lists.{passing-same}
use Rattle.cover.proofs.overlap.Places.{above, ground, low_o, low_l, low_u, difference, cell-shares, met, meets-yes, test-same}

-- ---- one axis
module _ (offset : ℤ) (size chunk : ℕ) (lower upper : ℤ) (some : 0 < chunk) (c : ℕ) where
  abbrev n : ℕ
  n = ground offset lower upper

  abbrev o : ℕ
  o = above n offset

  abbrev low : ℕ
  low = above n lower

  abbrev high : ℕ
  high = above n upper

  before-lower : before offset size lower ≡ min size (low - o)
  unfolding before
  before-lower = rw (difference n lower offset (low_l offset lower upper) (low_o offset lower upper))

  before-upper : before offset size upper ≡ min size (high - o)
  unfolding before
  before-upper = rw (difference n upper offset (low_u offset lower upper) (low_o offset lower upper))

  abbrev shares-is : shares (cell_begin offset chunk c) (cell_end offset size chunk c) lower upper
      ≡ ltb (max (o + c * chunk) low) (min (o + min ((c + 1) * chunk) size) high)
  shares-is = cell-shares offset size chunk c lower upper

  begin-end : c * chunk < (c + 1) * chunk
  begin-end = rw next (omega arith)

  pub none-shared : before offset size upper ≤ before offset size lower → shares (cell_begin offset chunk c) (cell_end offset size chunk c) lower upper ≡ false
  none-shared h =
      shares-is ∙ not-true-false _ (λ t. not-both (met o low high size (c * chunk) ((c + 1) * chunk) (before offset size lower) (before offset size upper) before-lower before-upper begin-end (ltb-true _ _ t)).2)
    where
      not-both : before offset size lower < before offset size upper → ⊥
      not-both l = omega arith

  pub some-shared : before offset size lower < before offset size upper
      → shares (cell_begin offset chunk c) (cell_end offset size chunk c) lower upper
      ≡ leb (before offset size lower / chunk) c && ltb c (grid_size (before offset size upper) chunk)
  some-shared h = shares-is ∙ test-same _ _ yes-marked yes-shared
    where
      m : ℕ
      m = before offset size lower

      w : ℕ
      w = before offset size upper

      yes-marked : ltb (max (o + c * chunk) low) (min (o + min ((c + 1) * chunk) size) high) ≡ true → leb (m / chunk) c && ltb c (grid_size w chunk) ≡ true
      yes-marked t =
          let q = met o low high size (c * chunk) ((c + 1) * chunk) m w before-lower before-upper begin-end (ltb-true _ _ t) in
          let d : m / chunk < c + 1 = (div-lt_iff_lt-mul some).1 q.0 in
          rw (le-leb (m / chunk) c (omega arith)) (lt-ltb c (grid_size w chunk) (begins-inside-is-cell w chunk some c q.1))

      yes-shared : leb (m / chunk) c && ltb c (grid_size w chunk) ≡ true → ltb (max (o + c * chunk) low) (min (o + min ((c + 1) * chunk) size) high) ≡ true
      yes-shared t =
          let q = both _ _ t in
          let d : m / chunk < c + 1 = omega (arith, leb-true (m / chunk) c q.0) in
          lt-ltb _ _ (meets-yes o low high size (c * chunk) ((c + 1) * chunk) m w before-lower before-upper begin-end h ((div-lt_iff_lt-mul some).0 d) (cell-begins-inside w chunk some c (ltb-true _ _ q.1)))

module _ (offset : ℤ) (size chunk : ℕ) (lower upper : ℤ) (some : 0 < chunk) {bits : ℕ} (b : AxisBits (grid_size size chunk) bits) where
  pub span_none : before offset size upper ≤ before offset size lower → Spans offset size chunk lower upper (record { bits = bits; from = 0; to = 0 })
  unfolding marked
  span_none h =
      record {
        bits = b;
        within = omega arith;
        meets = λ c. none-shared offset size chunk lower upper some c h ∙ rw (le-leb 0 c (omega arith)) (sym (le-ltb c 0 (omega arith)));
      }

  pub span-some : before offset size lower < before offset size upper
      → Spans offset size chunk lower upper (record { bits = bits; from = before offset size lower / chunk; to = grid_size (before offset size upper) chunk })
  unfolding marked
  span-some h =
      record {
        bits = b;
        within = grid-size-reached _ chunk some _ (le_trans few (grid-size_reaches size chunk some _ (le_refl _)));
        meets = λ c. some-shared offset size chunk lower upper some c h;
      }
    where
      few : before offset size upper ≤ size
      few = unfold before in min-le_left _ _

-- ---- three axes
used-same : (cells bits : ℕ) → AxisBits cells bits → (i : ℕ) → used cells i ≡ used (2 ^ bits) i
used-same cells bits w i = go (dec_lt i bits)
  where
    go : Dec (i < bits) → used cells i ≡ used (2 ^ bits) i
    go (yes l) = used-yes i (w.needs i l) ∙ sym (used-yes i (pow-lt l))
    go (no l) = let h : bits ≤ i = omega arith in unused i (le_trans w.holds (pow_mono h)) ∙ sym (unused i (pow_mono h))

-- the cell of a key depends on which turns use which axis, and on nothing else of the grid
cells_same : (g h : Extents) → ((i : ℕ) → used g.x i ≡ used h.x i) → ((i : ℕ) → used g.y i ≡ used h.y i)
    → ((i : ℕ) → used g.z i ≡ used h.z i) → (k : ℕ) → cell_of g k ≡ cell_of h k
unfolding cell_from after_turn
cells_same g h x y z k = cell-is g k ∙ go 32 0 k ∙ sym (cell-is h k)
  where
    go : (n i k : ℕ) → cell_from n i g k ≡ cell_from n i h k
    go zero i k = refl
    go (suc n) i k = rw (x i, y i, z i, go n (suc i))

module _ (g : Extents) (p : Part) (f : Framed g p) where
  pub frame-bits : left_bits p ≡ key_bits_of g
  unfolding left_bits
  frame-bits = key-bits-sum g f.x f.y f.z

  pub frame-cell : (k : ℕ) → cell_of g k ≡ cell_of (frame p) k
  unfolding frame
  frame-cell k = cells_same _ _ (used-same _ _ f.x) (used-same _ _ f.y) (used-same _ _ f.z) k

absorbed : (a b c p q r : Bool) → (p ≡ true → a ≡ true) → (q ≡ true → b ≡ true) → (r ≡ true → c ≡ true)
    → (a && (b && c)) && (p && (q && r)) ≡ p && (q && r)
absorbed a b c true true true f g h = rw (f refl, g refl, h refl)
absorbed a b c true true false f g h = false-last (a && (b && c))
absorbed a b c true false r f g h = false-last (a && (b && c))
absorbed a b c false q r f g h = false-last (a && (b && c))

module _ (v : Volume) (lower upper : Point) (p : Part)
    (sx : Spans v.offset.x v.size.x v.chunk.x lower.x upper.x p.x)
    (sy : Spans v.offset.y v.size.y v.chunk.y lower.y upper.y p.y)
    (sz : Spans v.offset.z v.size.z v.chunk.z lower.z upper.z p.z) where
  fits : {o : ℤ} {s c : ℕ} {l u : ℤ} {a : Along} → Spans o s c l u a → Fitting a
  fits w = record { most = w.bits.most; within = le_trans w.within w.bits.holds }

  framed : Framed (grid_of v) p
  unfolding grid_of
  framed = record { x = sx.bits; y = sy.bits; z = sz.bits }

  bits : left_bits p ≡ key_bits_of (grid_of v)
  bits = frame-bits (grid_of v) p framed

  cell : (k : ℕ) → cell_of (grid_of v) k ≡ cell_of (frame p) k
  cell = frame-cell (grid_of v) p framed

  marked_in : {o : ℤ} {s c : ℕ} {l u : ℤ} (a : Along) → Spans o s c l u a → (g : ℕ) → marked a g ≡ true → ltb g (grid_size s c) ≡ true
  unfolding marked
  marked_in a w g e = lt-ltb _ _ (lt_of_lt_of_le (ltb-true _ _ (both (leb a.from g) (ltb g a.to) e).1) w.within)

  cell-is-marked : (c : Cell) → in_grid (grid_of v) c && meets v lower upper c ≡ marked_cell p c
  unfolding grid_of in_grid meets begin_point end_point marked_cell
  cell-is-marked c =
      rw (sx.meets c.x, sy.meets c.y, sz.meets c.z)
      (absorbed _ _ _ _ _ _ (marked_in p.x sx c.x) (marked_in p.y sy c.y) (marked_in p.z sz c.z))

  covers-is : (k : ℕ) → k < 2 ^ key_bits_of (grid_of v) → covers v lower upper k ≡ marked_cell p (cell_of (frame p) k)
  unfolding covers is_key
  covers-is k l = rw (lt-ltb k (2 ^ key_bits_of (grid_of v)) l) (cell-is-marked (cell_of (grid_of v) k) ∙ rw (cell k))

  keys : part_keys p 0 ≡ cover_keys v lower upper
  unfolding part_keys cover_keys
  keys =
      rw bits
      (passing-same _ _ 0 (2 ^ key_bits_of (grid_of v))
      (λ k l m. ap (λ (n : ℕ). marked_cell p (cell_of (frame p) n)) (omega arith) ∙ sym (covers-is k (omega arith))))

  pub whole_is : Whole v lower upper p
  whole_is = record { sized = record { x = fits sx; y = fits sy; z = fits sz }; framed = framed; keys = keys }
