-- The marked cells of a grid as a box between two keys.
use Prim.Native.Nat.{ℕ, suc, ◌+◌, ◌-◌, ◌^◌, ◌≤◌, ◌<◌}
use mathlib.Core.Path.{◌≡◌, refl, sym, ap, ap₂, ◌∙◌}
use mathlib.Core.Bool.{Bool, true, false, ◌&&◌}
use mathlib.Core.List.{List, [], ◌++◌, append-nil}
use native.Mathlib.Omega.{arith}
use native.Mathlib.Decide.{dec_lt}
use native.Mathlib.Nat.{le_of_lt, le_refl, zero-add, zero-mul}
use lib.Bits.{bit_and}
use lib.Dec.{leb}
use Rattle.morton.specs.declared.grid.Extents.{Extents}
use Rattle.morton.specs.declared.grid.Cell.{Cell}
use Rattle.morton.specs.Key.{key_of, cell_of, key_bits_of}
use Rattle.morton.proofs.From.{key_of_cell, key_below}
use Rattle.cover.specs.declared.overlap.Along.{Along}
use Rattle.cover.specs.declared.overlap.Part.{Part}
use Rattle.cover.specs.overlap.Cover.{passing}
use Rattle.cover.specs.overlap.Marked.{marked, Fitting, Sized, marked_cell, missed, frame, part_keys, first_cell, last_cell, Framed}
use Rattle.cover.specs.halves.Box.{between, in_box, box_keys, BoxCorners, InHalf}
use Rattle.cover.proofs.overlap.Tests.{leb-same, not-true-false}
use Rattle.cover.proofs.overlap.Lists.{passing_split, passing-same, passing_nothing}
use Rattle.cover.proofs.halves.Boxes.{by_axes, inside}
use Rattle.cover.proofs.descent.Frames.{Inside, inside-cube}
use Rattle.cover.proofs.descent.Axis.{on-x, on-y, on-z, along_x, along_y, along_z, key-whole, x-rises, y-rises, z-rises}
use Rattle.cover.proofs.descent.Cuts.{some-each}
use Rattle.cover.proofs.overlap.Wholes.{frame-bits, frame-cell}

-- what rises keeps the order of numbers of r bits
module _ (f : ℕ → ℕ) (r : ℕ) (rises : (v w : ℕ) → v < w → w < 2 ^ r → f v < f w) where
  kept : (a b : ℕ) → a ≤ b → b < 2 ^ r → f a ≤ f b
  kept a b l h = go (dec_lt a b)
    where
      go : Dec (a < b) → f a ≤ f b
      go (yes m) = le_of_lt (rises a b m h)
      go (no m) = let e : a ≡ b = omega arith in rw e (le_refl (f b))

  -- the marked cells of an axis, by their keys
  marked-is : (a : Along) (c : ℕ) → a.bits ≡ r → Fitting a → a.from < a.to → c < 2 ^ r
      → marked a c ≡ leb (f a.from) (f c) && leb (f c) (f (a.to - 1))
  unfolding marked
  marked-is a c e s l h =
      let t : a.to ≤ 2 ^ r = rw e at s.within in
      ap₂ ◌&&◌
      (leb-same _ _ _ _ (λ m. kept a.from c m h) (λ m. rises c a.from m (omega arith)))
      (leb-same (suc c) a.to _ _ (λ m. kept c (a.to - 1) (omega arith) (omega arith)) (λ m. rises (a.to - 1) c (omega arith) h))

module _ (g : Extents) (p : Part) (f : Framed g p) (s : Sized p) (m : missed p ≡ false) where
  abbrev pub bits-x : ℕ
  bits-x = key_of g (on-x (2 ^ 32 - 1))

  abbrev pub bits-y : ℕ
  bits-y = key_of g (on-y (2 ^ 32 - 1))

  abbrev pub bits-z : ℕ
  bits-z = key_of g (on-z (2 ^ 32 - 1))

  abbrev pub low : ℕ
  low = key_of g (first_cell p)

  abbrev pub high : ℕ
  high = key_of g (last_cell p)

  rises-x : (v w : ℕ) → v < w → w < 2 ^ p.x.bits → key_of g (on-x v) < key_of g (on-x w)
  rises-x v w l h = x-rises g v w p.x.bits l h s.x.most f.x

  rises-y : (v w : ℕ) → v < w → w < 2 ^ p.y.bits → key_of g (on-y v) < key_of g (on-y w)
  rises-y v w l h = y-rises g v w p.y.bits l h s.y.most f.y

  rises-z : (v w : ℕ) → v < w → w < 2 ^ p.z.bits → key_of g (on-z v) < key_of g (on-z w)
  rises-z v w l h = z-rises g v w p.z.bits l h s.z.most f.z

  -- the bits of a key along an axis are the key of its cell's coordinate there
  module _ (k : ℕ) (h : k < 2 ^ key_bits_of g) where
    at_x : bit_and k bits-x ≡ key_of g (on-x (cell_of g k).x)
    at_x = ap (λ (n : ℕ). bit_and n bits-x) (sym (key_of_cell g k h)) ∙ along_x g (cell_of g k)

    at_y : bit_and k bits-y ≡ key_of g (on-y (cell_of g k).y)
    at_y = ap (λ (n : ℕ). bit_and n bits-y) (sym (key_of_cell g k h)) ∙ along_y g (cell_of g k)

    at-z : bit_and k bits-z ≡ key_of g (on-z (cell_of g k).z)
    at-z = ap (λ (n : ℕ). bit_and n bits-z) (sym (key_of_cell g k h)) ∙ along_z g (cell_of g k)

  last_fits : (a : Along) → Fitting a → a.from < a.to → a.to - 1 < 2 ^ a.bits
  last_fits a t l = omega (arith, t.within)

  corners : BoxCorners bits-x bits-y bits-z low high
  corners =
      let q = some-each p m in
      record {
        x = rw (along_x, along_x) (kept _ _ rises-x p.x.from (p.x.to - 1) (omega (arith, q.0)) (last_fits p.x s.x q.0));
        y = rw (along_y, along_y) (kept _ _ rises-y p.y.from (p.y.to - 1) (omega (arith, q.1)) (last_fits p.y s.y q.1));
        z = rw (along_z, along_z) (kept _ _ rises-z p.z.from (p.z.to - 1) (omega (arith, q.2)) (last_fits p.z s.z q.2));
        bits = key_bits_of g;
        fits = key_below g (last_cell p);
        whole = whole;
      }
    where
      whole : (k : ℕ) → k < 2 ^ key_bits_of g → bit_and k bits-x + bit_and k bits-y + bit_and k bits-z ≡ k
      whole k h = rw (at_x k h, at_y k h, at-z k h) (key-whole g (cell_of g k) ∙ key_of_cell g k h)

  -- a key's cell is marked exactly when it is in the box
  module _ (k : ℕ) (h : k < 2 ^ key_bits_of g) where
    c : Cell
    c = cell_of g k

    c-inside : Inside (frame p) c
    unfolding c frame
    c-inside = rw (frame-cell g p f k) (inside-cube p.x.bits p.y.bits p.z.bits k)

    axis_x : between bits-x low high k ≡ marked p.x c.x
    unfolding between c
    axis_x =
        rw (at_x k h, along_x, along_x)
        (sym (marked-is _ _ rises-x p.x c.x refl s.x (some-each p m).0 (unfold frame in c-inside.x)))

    axis_y : between bits-y low high k ≡ marked p.y c.y
    unfolding between c
    axis_y =
        rw (at_y k h, along_y, along_y)
        (sym (marked-is _ _ rises-y p.y c.y refl s.y (some-each p m).1 (unfold frame in c-inside.y)))

    axis_z : between bits-z low high k ≡ marked p.z c.z
    unfolding between c
    axis_z =
        rw (at-z k h, along_z, along_z)
        (sym (marked-is _ _ rises-z p.z c.z refl s.z (some-each p m).2 (unfold frame in c-inside.z)))

    boxed : marked_cell p (cell_of (frame p) k) ≡ in_box bits-x bits-y bits-z low high k
    unfolding marked_cell in_box c
    boxed = rw (← frame-cell g p f k, axis_x, axis_y, axis_z)

  ordered : low ≤ high
  unfolding corners
  ordered = by_axes _ _ _ low high corners low high (key_below g (first_cell p)) (key_below g (last_cell p)) corners.x corners.y corners.z

  -- the whole grid holds it
  pub in-grid : key_bits_of g ≤ 64 → InHalf bits-x bits-y bits-z low high 0 (key_bits_of g)
  unfolding corners
  in-grid l =
      record {
        corners = corners;
        ordered = ordered;
        number = 0;
        begins = sym (zero-mul (2 ^ key_bits_of g));
        from = omega arith;
        to = omega (arith, key_below g (last_cell p));
        grid = omega arith;
        most = l;
      }

  in_range : (k : ℕ) → k < 2 ^ key_bits_of g → in_box bits-x bits-y bits-z low high k ≡ true → (low ≤ k) × (k ≤ high)
  unfolding corners
  in_range k h t = inside _ _ _ low high corners low high k (key_below g (first_cell p)) (key_below g (last_cell p)) h t

  pub box_is : part_keys p 0 ≡ box_keys bits-x bits-y bits-z low high
  unfolding part_keys box_keys
  box_is =
      rw (frame-bits g p f)
      (passing-same _ _ 0 (2 ^ key_bits_of g)
      (λ k l n. ap (λ (i : ℕ). marked_cell p (cell_of (frame p) i)) (omega arith) ∙ boxed k (omega arith))
      ∙ ap (passing test 0) sizes
      ∙ passing_split test 0 low ((suc high - low) + (2 ^ key_bits_of g - suc high))
      ∙ ap₂ ◌++◌ before
      (ap (λ (k : ℕ). passing test k ((suc high - low) + (2 ^ key_bits_of g - suc high))) (zero-add low)
      ∙ passing_split test low (suc high - low) (2 ^ key_bits_of g - suc high)
      ∙ ap (λ (l : List ℕ). passing test low (suc high - low) ++ l) after
      ∙ append-nil _))
    where
      test : ℕ → Bool
      test = in_box bits-x bits-y bits-z low high

      sizes : 2 ^ key_bits_of g ≡ low + ((suc high - low) + (2 ^ key_bits_of g - suc high))
      sizes = omega (arith, ordered, key_below g (last_cell p))

      before : passing test 0 low ≡ []
      before = passing_nothing test 0 low (λ k l n. not-true-false _ (λ t. omega (arith, (in_range k (omega (arith, key_below g (first_cell p))) t).0)))

      after : passing test (low + (suc high - low)) (2 ^ key_bits_of g - suc high) ≡ []
      after =
          passing_nothing test (low + (suc high - low)) (2 ^ key_bits_of g - suc high)
          (λ k l n. not-true-false _ (λ t. omega (arith, ordered, (in_range k (omega (arith, ordered, key_below g (last_cell p))) t).1)))
