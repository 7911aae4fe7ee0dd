-- Parts of the grid and their halves.
use Prim.Native.Nat.{ℕ, zero, suc, ◌+◌, ◌-◌, ◌*◌, ◌^◌, ◌≤◌, ◌<◌, min}
use mathlib.Core.Path.{◌≡◌, refl, sym, ap, ap₂, ◌∙◌}
use mathlib.Core.Bool.{Bool, true, false, ◌&&◌, ◌||◌}
use mathlib.Core.List.{[], ◌++◌}
use native.Mathlib.Omega.{arith}
use native.Mathlib.Decide.{dec_le}
use borrow.Author.Tests.{leb-true, leb-false, ltb-true, ltb-false, le-ltb}
use native.Mathlib.Nat.{pow-suc, two-pow-succ, mul-add, add-mul}
use lib.Dec.{ltb, leb}
use lib.ListN.{length, length-append}
use Rattle.morton.specs.declared.grid.Cell.{Cell}
use Rattle.morton.specs.declared.grid.Extents.{Extents}
use Rattle.morton.specs.Key.{cell_of, key_bits_of}
use Rattle.morton.specs.axis.Axis.{count}
use Rattle.refusal.proofs.Tests.{neither}
use Rattle.cover.specs.declared.overlap.Along.{Along}
use Rattle.cover.specs.declared.overlap.Part.{Part}
use Rattle.cover.specs.overlap.Cover.{keep, passing}
use Rattle.cover.specs.overlap.Marked.{marked, Fitting, Sized, marked_cell, missed, frame, left_bits, part_keys, marked_width}
use Rattle.cover.proofs.overlap.Tests.{ltb-same, leb-same, false-last}
use Rattle.cover.proofs.overlap.Lists.{passing_split, passing-same, passing-none}
use Rattle.cover.proofs.descent.Frames.{cube, cube-bits, Inside, inside-cube, Cut, cut_low, cut_high, cut-x, cut-y, cut-z}

-- ---- one axis: its lower and its upper half, each with cells of its own that count from 0
unfoldable pub low_half : Along → Along
low_half a = record { bits = a.bits - 1; from = a.from; to = min a.to (2 ^ (a.bits - 1)) }

unfoldable pub high_half : Along → Along
high_half a = record { bits = a.bits - 1; from = a.from - 2 ^ (a.bits - 1); to = a.to - 2 ^ (a.bits - 1) }

module _ (a : Along) where
  low-marked : (c : ℕ) → c < 2 ^ (a.bits - 1) → marked a c ≡ marked (low_half a) c
  unfolding marked low_half
  low-marked c h = ap (λ (t : Bool). leb a.from c && t) (ltb-same c a.to c (min a.to (2 ^ (a.bits - 1))) (λ l. omega arith) (λ l. omega arith))

  high-marked : (c : ℕ) → marked a (c + 2 ^ (a.bits - 1)) ≡ marked (high_half a) c
  unfolding marked high_half
  high-marked c =
      ap₂ ◌&&◌ (leb-same a.from (c + 2 ^ (a.bits - 1)) (a.from - 2 ^ (a.bits - 1)) c (λ l. omega arith) (λ l. omega arith))
      (ltb-same (c + 2 ^ (a.bits - 1)) a.to c (a.to - 2 ^ (a.bits - 1)) (λ l. omega arith) (λ l. omega arith))

  low_fits : Fitting a → Fitting (low_half a)
  unfolding low_half
  low_fits f = record { most = omega (arith, f.most); within = omega arith }

  high_fits : 0 < a.bits → Fitting a → Fitting (high_half a)
  unfolding high_half
  high_fits h f =
      let e : a.bits ≡ suc (a.bits - 1) = omega arith in
      let w : a.to ≤ 2 ^ (a.bits - 1) * 2 = rw (e, pow-suc) at f.within in
      record { most = omega (arith, f.most); within = omega arith }

  width_halves : marked_width a ≡ marked_width (low_half a) + marked_width (high_half a)
  unfolding marked_width low_half high_half
  width_halves = omega arith

-- ---- three axes
unfoldable pub marked_cells : Part → ℕ
marked_cells p = marked_width p.x * marked_width p.y * marked_width p.z

-- the highest key bit that is left splits a part in two
pub record Splits (p low high : Part) : Type 0 where
  pub low_bits : left_bits p ≡ suc (left_bits low)
  pub high_bits : left_bits p ≡ suc (left_bits high)
  pub low-sized : Sized low
  pub high-sized : Sized high
  pub keys : (first : ℕ) → part_keys p first ≡ part_keys low first ++ part_keys high (first + 2 ^ left_bits low)
  pub cells : marked_cells p ≡ marked_cells low + marked_cells high

record Halving (p low high : Part) : Type 0 where
  low_bits : left_bits p ≡ suc (left_bits low)
  high_bits : left_bits p ≡ suc (left_bits high)
  low-sized : Sized low
  high-sized : Sized high
  low_marks : (k : ℕ) → k < 2 ^ left_bits low → marked_cell p (cell_of (frame p) k) ≡ marked_cell low (cell_of (frame low) k)
  high_marks : (k : ℕ) → k < 2 ^ left_bits low → marked_cell p (cell_of (frame p) (2 ^ left_bits low + k)) ≡ marked_cell high (cell_of (frame high) k)
  cells : marked_cells p ≡ marked_cells low + marked_cells high

module _ (p low high : Part) (w : Halving p low high) where
  joined : (first : ℕ) → part_keys p first ≡ part_keys low first ++ part_keys high (first + 2 ^ left_bits low)
  unfolding part_keys
  joined first =
      let e : left_bits high ≡ left_bits low = omega (arith, w.low_bits, w.high_bits) in
      rw (w.low_bits, two-pow-succ, e)
      (passing_split _ first (2 ^ left_bits low) (2 ^ left_bits low)
      ∙ ap₂ ◌++◌ (passing-same _ _ first (2 ^ left_bits low) (λ i l m. w.low_marks (i - first) (omega arith)))
      (passing-same _ _ (first + 2 ^ left_bits low) (2 ^ left_bits low)
      (λ i l m. ap (λ (k : ℕ). marked_cell p (cell_of (frame p) k)) (omega arith) ∙ w.high_marks (i - (first + 2 ^ left_bits low)) (omega arith))))

  splits : Splits p low high
  splits =
      record {
        low_bits = w.low_bits;
        high_bits = w.high_bits;
        low-sized = w.low-sized;
        high-sized = w.high-sized;
        keys = joined;
        cells = w.cells;
      }

-- the marks of both halves, from the cells of their keys
module _ (p low high : Part) (g h : Extents) (at : Cell → ℕ) (up : Cell → Cell) (i : ℕ) (w : Cut g h at up i)
    (eg : frame p ≡ g) (el : frame low ≡ h) (eh : frame high ≡ h) (bits : key_bits_of h ≡ left_bits low)
    (marks_low : (c : Cell) → at c < 2 ^ i → marked_cell p c ≡ marked_cell low c)
    (marks_high : (c : Cell) → marked_cell p (up c) ≡ marked_cell high c) (k : ℕ) (l : k < 2 ^ left_bits low) where
  cell-low : marked_cell p (cell_of (frame p) k) ≡ marked_cell low (cell_of (frame low) k)
  cell-low =
      rw (eg, el, cut_low g h at up i w k (rw bits l))
      (marks_low (cell_of h k) (w.below (cell_of h k) (w.cells k)))

  cell-high : marked_cell p (cell_of (frame p) (2 ^ left_bits low + k)) ≡ marked_cell high (cell_of (frame high) k)
  cell-high = rw (eg, eh, ← bits, cut_high g h at up i w k (rw bits l)) (marks_high (cell_of h k))

last_bit : (n : ℕ) → 0 < n → n ≡ suc (n - 1)
last_bit n h = omega arith

abbrev pub with_x : Part → Along → Part
with_x p a = record { x = a; y = p.y; z = p.z }

abbrev pub with_y : Part → Along → Part
with_y p a = record { x = p.x; y = a; z = p.z }

abbrev pub with_z : Part → Along → Part
with_z p a = record { x = p.x; y = p.y; z = a }

module _ (p : Part) (s : Sized p) where
  bits-x : p.x.bits ≤ 32
  bits-x = s.x.most

  bits-y : p.y.bits ≤ 32
  bits-y = s.y.most

  bits-z : p.z.bits ≤ 32
  bits-z = s.z.most

  module _ (h : 0 < p.z.bits) (hx : p.x.bits ≤ p.z.bits) (hy : p.y.bits ≤ p.z.bits) where
    i_z : ℕ
    i_z = p.z.bits - 1

    e_z : p.z.bits ≡ suc i_z
    unfolding i_z
    e_z = last_bit p.z.bits h

    halving_z : Halving p (with_z p (low_half p.z)) (with_z p (high_half p.z))
    unfolding i_z left_bits low_half high_half frame
    halving_z =
        let w = cut-z i_z (rw e_z at bits-z) p.x.bits p.y.bits (rw e_z at hx) (rw e_z at hy) in
        let eg : frame p ≡ cube p.x.bits p.y.bits (suc i_z) = ap (cube p.x.bits p.y.bits) e_z in
        let eb : key_bits_of (cube p.x.bits p.y.bits i_z) ≡ left_bits (with_z p (low_half p.z)) = cube-bits p.x.bits p.y.bits i_z bits-x bits-y (omega (arith, bits-z)) in
        record {
          low_bits = omega (arith, e_z);
          high_bits = omega (arith, e_z);
          low-sized = record { x = s.x; y = s.y; z = low_fits p.z s.z };
          high-sized = record { x = s.x; y = s.y; z = high_fits p.z h s.z };
          low_marks = cell-low p _ (with_z p (high_half p.z)) _ _ _ _ i_z w eg refl refl eb marks_low marks_high;
          high_marks = cell-high p _ _ _ _ _ _ i_z w eg refl refl eb marks_low marks_high;
          cells = cells;
        }
      where
        marks_low : (c : Cell) → c.z < 2 ^ i_z → marked_cell p c ≡ marked_cell (with_z p (low_half p.z)) c
        marks_low c l = unfold marked_cell in rw (low-marked p.z c.z l)

        marks_high : (c : Cell) → marked_cell p (record { x = c.x; y = c.y; z = c.z + 2 ^ i_z }) ≡ marked_cell (with_z p (high_half p.z)) c
        marks_high c = unfold marked_cell in rw (high-marked p.z c.z)

        cells : marked_cells p ≡ marked_cells (with_z p (low_half p.z)) + marked_cells (with_z p (high_half p.z))
        cells = unfold marked_cells in rw (width_halves p.z, mul-add)

    pub split_z : Splits p (with_z p (low_half p.z)) (with_z p (high_half p.z))
    split_z = splits _ _ _ halving_z

  module _ (h : 0 < p.y.bits) (hx : p.x.bits ≤ p.y.bits) (hz : p.z.bits < p.y.bits) where
    i_y : ℕ
    i_y = p.y.bits - 1

    e_y : p.y.bits ≡ suc i_y
    unfolding i_y
    e_y = last_bit p.y.bits h

    halving_y : Halving p (with_y p (low_half p.y)) (with_y p (high_half p.y))
    unfolding i_y left_bits low_half high_half frame
    halving_y =
        let w = cut-y i_y (rw e_y at bits-y) p.x.bits p.z.bits (rw e_y at hx) (omega (arith, e_y)) in
        let eg : frame p ≡ cube p.x.bits (suc i_y) p.z.bits = ap (λ (n : ℕ). cube p.x.bits n p.z.bits) e_y in
        let eb : key_bits_of (cube p.x.bits i_y p.z.bits) ≡ left_bits (with_y p (low_half p.y)) = cube-bits p.x.bits i_y p.z.bits bits-x (omega (arith, bits-y)) bits-z in
        record {
          low_bits = omega (arith, e_y);
          high_bits = omega (arith, e_y);
          low-sized = record { x = s.x; y = low_fits p.y s.y; z = s.z };
          high-sized = record { x = s.x; y = high_fits p.y h s.y; z = s.z };
          low_marks = cell-low p _ (with_y p (high_half p.y)) _ _ _ _ i_y w eg refl refl eb marks_low marks_high;
          high_marks = cell-high p _ _ _ _ _ _ i_y w eg refl refl eb marks_low marks_high;
          cells = cells;
        }
      where
        marks_low : (c : Cell) → c.y < 2 ^ i_y → marked_cell p c ≡ marked_cell (with_y p (low_half p.y)) c
        marks_low c l = unfold marked_cell in rw (low-marked p.y c.y l)

        marks_high : (c : Cell) → marked_cell p (record { x = c.x; y = c.y + 2 ^ i_y; z = c.z }) ≡ marked_cell (with_y p (high_half p.y)) c
        marks_high c = unfold marked_cell in rw (high-marked p.y c.y)

        cells : marked_cells p ≡ marked_cells (with_y p (low_half p.y)) + marked_cells (with_y p (high_half p.y))
        cells = unfold marked_cells in rw (width_halves p.y, mul-add, add-mul)

    pub split_y : Splits p (with_y p (low_half p.y)) (with_y p (high_half p.y))
    split_y = splits _ _ _ halving_y

  module _ (h : 0 < p.x.bits) (hy : p.y.bits < p.x.bits) (hz : p.z.bits < p.x.bits) where
    i_x : ℕ
    i_x = p.x.bits - 1

    e_x : p.x.bits ≡ suc i_x
    unfolding i_x
    e_x = last_bit p.x.bits h

    halving_x : Halving p (with_x p (low_half p.x)) (with_x p (high_half p.x))
    unfolding i_x left_bits low_half high_half frame
    halving_x =
        let w = cut-x i_x (rw e_x at bits-x) p.y.bits p.z.bits (omega (arith, e_x)) (omega (arith, e_x)) in
        let eg : frame p ≡ cube (suc i_x) p.y.bits p.z.bits = ap (λ (n : ℕ). cube n p.y.bits p.z.bits) e_x in
        let eb : key_bits_of (cube i_x p.y.bits p.z.bits) ≡ left_bits (with_x p (low_half p.x)) = cube-bits i_x p.y.bits p.z.bits (omega (arith, bits-x)) bits-y bits-z in
        record {
          low_bits = omega (arith, e_x);
          high_bits = omega (arith, e_x);
          low-sized = record { x = low_fits p.x s.x; y = s.y; z = s.z };
          high-sized = record { x = high_fits p.x h s.x; y = s.y; z = s.z };
          low_marks = cell-low p _ (with_x p (high_half p.x)) _ _ _ _ i_x w eg refl refl eb marks_low marks_high;
          high_marks = cell-high p _ _ _ _ _ _ i_x w eg refl refl eb marks_low marks_high;
          cells = cells;
        }
      where
        marks_low : (c : Cell) → c.x < 2 ^ i_x → marked_cell p c ≡ marked_cell (with_x p (low_half p.x)) c
        marks_low c l = unfold marked_cell in rw (low-marked p.x c.x l)

        marks_high : (c : Cell) → marked_cell p (record { x = c.x + 2 ^ i_x; y = c.y; z = c.z }) ≡ marked_cell (with_x p (high_half p.x)) c
        marks_high c = unfold marked_cell in rw (high-marked p.x c.x)

        cells : marked_cells p ≡ marked_cells (with_x p (low_half p.x)) + marked_cells (with_x p (high_half p.x))
        cells = unfold marked_cells in rw (width_halves p.x, add-mul, add-mul)

    pub split_x : Splits p (with_x p (low_half p.x)) (with_x p (high_half p.x))
    split_x = splits _ _ _ halving_x

-- some axis has the highest bit
pub record Split (p : Part) : Type 0 where
  pub low : Part
  pub high : Part
  pub both : Splits p low high

pub split : (p : Part) → Sized p → 0 < left_bits p → Split p
unfolding left_bits
split p s h = go (dec_le p.x.bits p.z.bits) (dec_le p.y.bits p.z.bits) (dec_le p.x.bits p.y.bits)
  where
    go : Dec (p.x.bits ≤ p.z.bits) → Dec (p.y.bits ≤ p.z.bits) → Dec (p.x.bits ≤ p.y.bits) → Split p
    go (yes a) (yes b) d = record { low = _; high = _; both = split_z p s (omega arith) a b }
    go (no a) (yes b) (no d) = record { low = _; high = _; both = split_x p s (omega arith) (omega arith) (omega arith) }
    go (no a) (no b) (no d) = record { low = _; high = _; both = split_x p s (omega arith) (omega arith) (omega arith) }
    go (yes a) (no b) (no d) = absurd (omega arith)
    go (yes a) (no b) (yes d) = record { low = _; high = _; both = split_y p s (omega arith) d (omega arith) }
    go (no a) (no b) (yes d) = record { low = _; high = _; both = split_y p s (omega arith) d (omega arith) }
    go (no a) (yes b) (yes d) = absurd (omega arith)

-- ---- no key, one key, and how many keys
none-marked : (a : Along) (c : ℕ) → a.to ≤ a.from → marked a c ≡ false
unfolding marked
none-marked a c h = go (leb a.from c) refl
  where
    go : (t : Bool) → leb a.from c ≡ t → t && ltb c a.to ≡ false
    go true e = le-ltb c a.to (omega (arith, leb-true a.from c e))
    go false e = refl

missed-cell : (p : Part) (c : Cell) → missed p ≡ true → marked_cell p c ≡ false
unfolding missed marked_cell
missed-cell p c e = go (leb p.x.to p.x.from) (leb p.y.to p.y.from) refl refl e
  where
    go : (s t : Bool) → leb p.x.to p.x.from ≡ s → leb p.y.to p.y.from ≡ t → s || (t || leb p.z.to p.z.from) ≡ true
        → marked p.x c.x && (marked p.y c.y && marked p.z c.z) ≡ false
    go true t a b d = rw (none-marked p.x c.x (leb-true p.x.to p.x.from a))
    go false true a b d = rw (none-marked p.y c.y (leb-true p.y.to p.y.from b)) (false-last (marked p.x c.x))
    go false false a b d =
        rw (none-marked p.z c.z (leb-true p.z.to p.z.from d), false-last (marked p.y c.y))
        (false-last (marked p.x c.x))

pub missed-none : (p : Part) (first : ℕ) → missed p ≡ true → part_keys p first ≡ []
unfolding part_keys
missed-none p first e = passing-none _ first (2 ^ left_bits p) (λ k. missed-cell p (cell_of (frame p) (k - first)) e)

-- one cell: it is marked or it is not
one_cell : (a b c : ℕ) → b ≤ 1 → c < 1 → b - a ≡ count (leb a c && ltb c b)
unfolding count
one_cell a b c h l = go (leb a c) (ltb c b) refl refl
  where
    go : (s t : Bool) → leb a c ≡ s → ltb c b ≡ t → b - a ≡ count (s && t)
    go true true p q = omega (arith, leb-true a c p, ltb-true c b q)
    go true false p q = omega (arith, leb-true a c p, ltb-false c b q)
    go false t p q = omega (arith, leb-false a c p)

one_width : (a : Along) (c : ℕ) → Fitting a → a.bits ≡ 0 → c < 2 ^ a.bits → marked_width a ≡ count (marked a c)
unfolding marked_width marked
one_width a c f e h =
    let t : a.to ≤ 2 ^ 0 = rw e at f.within in
    let z : c < 2 ^ 0 = rw e at h in
    one_cell a.from a.to c t z

count-and : (a b : Bool) → count a * count b ≡ count (a && b)
unfolding count
count-and true true = refl
count-and true false = refl
count-and false true = refl
count-and false false = refl

and-and : (a b c : Bool) → (a && b) && c ≡ a && (b && c)
and-and true b c = refl
and-and false b c = refl

length-keep : (b : Bool) (k : ℕ) → length (keep b k []) ≡ count b
unfolding keep count
length-keep true k = refl
length-keep false k = refl

no_bits : (a b c : ℕ) → a + b + c ≡ 0 → (a ≡ 0) × (b ≡ 0) × (c ≡ 0)
no_bits a b c e = (omega arith, omega arith, omega arith)

module _ (p : Part) (first : ℕ) (s : Sized p) (e : left_bits p ≡ 0) where
  c : Cell
  c = cell_of (frame p) (first - first)

  only : part_keys p first ≡ keep (marked_cell p c) first []
  unfolding part_keys passing c
  only = rw e

  z : (p.x.bits ≡ 0) × (p.y.bits ≡ 0) × (p.z.bits ≡ 0)
  unfolding left_bits
  z = no_bits _ _ _ e

  in_frame : Inside (frame p) c
  unfolding frame c
  in_frame = inside-cube p.x.bits p.y.bits p.z.bits (first - first)

  wx : marked_width p.x ≡ count (marked p.x c.x)
  unfolding frame
  wx = one_width p.x c.x s.x z.0 in_frame.x

  wy : marked_width p.y ≡ count (marked p.y c.y)
  unfolding frame
  wy = one_width p.y c.y s.y z.1 in_frame.y

  wz : marked_width p.z ≡ count (marked p.z c.z)
  unfolding frame
  wz = one_width p.z c.z s.z z.2 in_frame.z

  one-count : marked_cells p ≡ count (marked_cell p c)
  unfolding marked_cells marked_cell
  one-count = rw (wx, wy, wz, count-and, count-and, and-and)

  only-count : length (part_keys p first) ≡ marked_cells p
  only-count = rw (only, one-count) (length-keep (marked_cell p c) first)

-- as many keys as marked cells
pub keys-count : (n : ℕ) (p : Part) (first : ℕ) → Sized p → left_bits p ≡ n → length (part_keys p first) ≡ marked_cells p
keys-count zero p first s e = only-count p first s e
keys-count (suc n) p first s e =
    let w = split p s (omega arith) in
    let b = w.both in
    let l = keys-count n w.low first b.low-sized (omega (arith, b.low_bits)) in
    let h = keys-count n w.high (first + 2 ^ left_bits w.low) b.high-sized (omega (arith, b.high_bits)) in
    rw (b.keys first, length-append, l, h) (sym b.cells)

-- ---- a part with marked cells
module _ (p : Part) (m : missed p ≡ false) where
  pub some-each : (p.x.from < p.x.to) × (p.y.from < p.y.to) × (p.z.from < p.z.to)
  unfolding missed
  some-each =
      let q = neither _ _ m in
      let r = neither _ _ q.1 in
      (leb-false _ _ q.0, leb-false _ _ r.0, leb-false _ _ r.1)
