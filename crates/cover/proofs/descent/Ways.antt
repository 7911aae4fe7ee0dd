-- Each way out of a function, shaped like its needs.
use Prim.Native.Nat.{ℕ, suc, ◌+◌, ◌-◌, ◌^◌, ◌≤◌, ◌<◌}
use mathlib.Core.Path.{◌≡◌, sym, ap, ◌∙◌}
use mathlib.Core.Bool.{Bool, true, false}
use mathlib.Core.List.{List, ◌++◌}
use native.Mathlib.Omega.{arith}
use lib.Dec.{leb, eqb}
use lib.ListN.{length, length-append}
use lib.Pow.{pow_pos}
use borrow.Author.Rules.{rules}
use borrow.Author.Tests.{lt-leb, le-leb, eqb-true}
use mir.Syntax.{w64}
use mir.Val.{Fits}
use Rattle.endian.specs.Place.{paste}
use Rattle.endian.proofs.Paste.{paste-nil, length-paste, paste-then}
use Rattle.morton.specs.declared.grid.Cell.{Cell}
use Rattle.morton.specs.declared.grid.Extents.{Extents}
use Rattle.morton.specs.Key.{key_bits_of, key_of}
use Rattle.cover.specs.declared.overlap.Part.{Part}
use Rattle.cover.specs.declared.halves.Halves.{Halves}
use Rattle.cover.specs.declared.halves.Cut.{Cut}
use Rattle.cover.specs.overlap.Marked.{Sized, missed, part_keys, first_cell, last_cell, Framed}
use Rattle.cover.specs.halves.Box.{counting, box_keys, BoxCorners, InHalf, SplitAt}
use Rattle.cover.specs.halves.Halving.{Halvable, Halved, CutBox}
use Rattle.cover.proofs.halves.Counting.{length-counting}
use Rattle.cover.proofs.halves.Boxes.{one_key, run_keys, keys_split}
use Rattle.cover.proofs.halves.Missing.{missed-low, met_low, missed-high, met_high}
use Rattle.cover.proofs.halves.Halving.{within_64, bits_most, no_bits, double, in_lower, in_upper, split_here, lower-part, upper-part}
use Rattle.cover.proofs.descent.Axis.{on-x, on-y, on-z}
use Rattle.cover.proofs.descent.Cuts.{missed-none, some-each}
use Rattle.cover.proofs.descent.Corner.{in-grid, box_is}

-- ---- marked cells
module _ (p : Part) where
  pub missed-x : p.x.to ≤ p.x.from → true ≡ missed p
  unfolding missed
  missed-x h = rw (le-leb _ _ h)

  pub missed-y : p.x.from < p.x.to → p.y.to ≤ p.y.from → true ≡ missed p
  unfolding missed
  missed-y l h = rw (lt-leb _ _ l, le-leb _ _ h)

  pub missed-z : p.x.from < p.x.to → p.y.from < p.y.to → leb p.z.to p.z.from ≡ missed p
  unfolding missed
  missed-z l h = rw (lt-leb _ _ l, lt-leb _ _ h)

module _ (p : Part) (m : missed p ≡ false) where
  pub some-x : 1 ≤ p.x.to
  some-x = omega (arith, (some-each p m).0)

  pub some-y : 1 ≤ p.y.to
  some-y = omega (arith, (some-each p m).1)

  pub some-z : 1 ≤ p.z.to
  some-z = omega (arith, (some-each p m).2)

-- ---- the search: the keys of the box from low to high go into d from `at` on
module _ (x y z low high first bits at : ℕ) (d : List ℕ) (h : InHalf x y z low high first bits) where
  module _ (e : bits ≡ 0) where
    one : box_keys x y z low high ≡ counting low 1
    unfolding counting
    one = rw (← no_bits x y z low high first bits h e) (one_key x y z low)

    pub one-room : at + length (box_keys x y z low high) ≤ length d → at + 1 ≤ length d
    one-room r = let q : at + length (counting low 1) ≤ length d = rw one at r in omega (arith, length-counting low 1)

    pub one-next : {r : ℕ} → r ≡ at + 1 → r ≡ at + length (box_keys x y z low high)
    one-next q = rw (one, length-counting) q

    pub one_left : {f : List ℕ} → f ≡ paste at (counting low 1) d → f ≡ paste at (box_keys x y z low high) d
    one_left q = rw one q

  pub box_ordered : low ≤ high
  box_ordered = h.ordered

  -- one bit fewer
  module _ (f : bits ≡ 0 → ⊥) where
    fewer : bits ≡ suc (bits - 1)
    fewer = omega arith

    doubled : 2 ^ bits ≡ 2 ^ (bits - 1) + 2 ^ (bits - 1)
    doubled = double x y z low high first bits h (bits - 1) fewer

    within : first + (2 ^ (bits - 1) + 2 ^ (bits - 1)) ≤ 2 ^ 64
    within = omega (arith, within_64 x y z low high first bits h, doubled)

    pub left-few : bits - 1 < 64
    left-few = omega (arith, bits_most x y z low high first bits h)

    pub left-falls : {t : ℕ} → bits ≡ t → bits - 1 < t
    left-falls e = omega arith

    pub halvable : Halvable low high first (bits - 1)
    halvable = record { from = h.from; to = omega (arith, h.to, doubled); fits = omega (arith, within) }

    module _ {t : Bool} (et : t ≡ eqb (high - low) (2 ^ (bits - 1) + (2 ^ (bits - 1) - 1))) (k : t ≡ true) where
      run_split : SplitAt low high (bits - 1)
      run_split =
          let e : high - low ≡ 2 ^ (bits - 1) + (2 ^ (bits - 1) - 1) = eqb-true _ _ (sym et ∙ k) in
          split_here x y z low high first bits h (bits - 1) fewer
          (omega (arith, h.from, h.to, doubled, pow_pos (bits - 1)))
          (omega (arith, h.from, h.to, doubled, pow_pos (bits - 1)))

      run : box_keys x y z low high ≡ counting low (high - low + 1)
      run = run_keys x y z low high (bits - 1) run_split (eqb-true _ _ (sym et ∙ k)) ∙ ap (counting low) (omega (arith, h.ordered))

      run_long : length (box_keys x y z low high) ≡ high - low + 1
      run_long = rw run (length-counting low (high - low + 1))

      pub run_count : at + length (box_keys x y z low high) ≤ length d → length d < 2 ^ 64 → Fits w64 (high - low + 1)
      run_count r m = record { fits = omega (arith, run_long) }

      pub run_room : at + length (box_keys x y z low high) ≤ length d → at + (high - low + 1) ≤ length d
      run_room r = omega (arith, run_long)

      pub run_next : {r : ℕ} → r ≡ at + (high - low + 1) → r ≡ at + length (box_keys x y z low high)
      run_next q = omega (arith, run_long)

      pub run_left : {g : List ℕ} → g ≡ paste at (counting low (high - low + 1)) d → g ≡ paste at (box_keys x y z low high) d
      run_left q = rw run q

    module _ {r : Halves} (q : Halved low high first (bits - 1) r) where
      lower-grid : first + 2 ^ (bits - 1) ≤ 2 ^ h.corners.bits
      lower-grid = omega (arith, h.grid, doubled)

      upper-grid : first + 2 ^ (bits - 1) + 2 ^ (bits - 1) ≤ 2 ^ h.corners.bits
      upper-grid = omega (arith, h.grid, doubled)

      pub upper-alone : r.lower.misses ≡ true → InHalf x y z low high r.upper.first (bits - 1)
      upper-alone k =
          rw q.above
          (in_upper x y z low high first bits h (bits - 1) fewer
          (missed-low x y z low high h.corners h.ordered first (bits - 1) lower-grid q.lower k h.from))

      pub lower-alone : r.upper.misses ≡ true → InHalf x y z low high r.lower.first (bits - 1)
      lower-alone k =
          let e : high < first + 2 ^ (bits - 1) + 2 ^ (bits - 1) = omega (arith, h.to, doubled) in
          rw q.below
          (in_lower x y z low high first bits h (bits - 1) fewer
          (missed-high x y z low high h.corners h.ordered (first + 2 ^ (bits - 1)) (bits - 1) upper-grid q.upper k e))

      module _ (k : r.lower.misses ≡ false) (l : r.upper.misses ≡ false) where
        low-here : low < first + 2 ^ (bits - 1)
        low-here = met_low x y z low high h.corners h.ordered first (bits - 1) lower-grid q.lower k

        high-here : first + 2 ^ (bits - 1) ≤ high
        high-here = met_high x y z low high h.corners h.ordered (first + 2 ^ (bits - 1)) (bits - 1) upper-grid q.upper l

        pub split : SplitAt low high (bits - 1)
        split = split_here x y z low high first bits h (bits - 1) fewer low-here high-here

        pub box_corners : BoxCorners x y z low high
        box_corners = h.corners

        module _ {b : Cut} (v : CutBox x y z low high (bits - 1) b) where
          pub lower_box : InHalf x y z low b.last r.lower.first (bits - 1)
          lower_box = rw (v.last, q.below) (lower-part x y z low high first bits h (bits - 1) fewer low-here high-here v.owns)

          pub upper_box : InHalf x y z b.first high r.upper.first (bits - 1)
          upper_box = rw (v.first, q.above) (upper-part x y z low high first bits h (bits - 1) fewer low-here high-here v.owns)

          halves : box_keys x y z low high ≡ box_keys x y z low b.last ++ box_keys x y z b.first high
          halves = rw (v.last, v.first) (keys_split x y z low high (bits - 1) v.own h.corners split v.owns)

          lengths : length (box_keys x y z low high) ≡ length (box_keys x y z low b.last) + length (box_keys x y z b.first high)
          lengths = rw (halves, length-append)

          module _ (room : at + length (box_keys x y z low high) ≤ length d) where
            pub last-room : at + length (box_keys x y z low b.last) ≤ length d
            last-room = omega (arith, lengths)

            module _ {next : ℕ} {g : List ℕ} (en : next ≡ at + length (box_keys x y z low b.last)) (eq : g ≡ paste at (box_keys x y z low b.last) d) where
              pub first-room : next + length (box_keys x y z b.first high) ≤ length g
              first-room = rw (eq, length-paste at (box_keys x y z low b.last) d last-room) (omega (arith, lengths))

              pub both-next : {m : ℕ} → m ≡ next + length (box_keys x y z b.first high) → m ≡ at + length (box_keys x y z low high)
              both-next e = omega (arith, lengths)

              pub both_left : {m : List ℕ} → m ≡ paste next (box_keys x y z b.first high) g → m ≡ paste at (box_keys x y z low high) d
              both_left e =
                  rw halves
                  (paste-then at next (box_keys x y z low b.last) (box_keys x y z b.first high) d eq e (sym en) (omega (arith, lengths)))

pub run_reach : (low high : ℕ) → low ≤ high → Fits w64 high → low + (high - low + 1) ≤ 2 ^ 64
run_reach low high l f = omega (arith, f.fits)

-- ---- the whole grid
module _ (p : Part) {t : Bool} (e : t ≡ missed p) where
  pub whole-some : t ≡ false → missed p ≡ false
  whole-some k = sym e ∙ k

  module _ (k : t ≡ true) where
    pub whole-none : 0 ≡ length (part_keys p 0)
    whole-none = rw (missed-none p 0 (sym e ∙ k))

    pub whole-kept : (d : List ℕ) → d ≡ paste 0 (part_keys p 0) d
    whole-kept d = rw (missed-none p 0 (sym e ∙ k)) (sym (paste-nil 0 d))

module _ (g : Extents) (p : Part) (f : Framed g p) (s : Sized p) {t : Bool} (e : t ≡ missed p) (k : t ≡ false) (d : List ℕ) {x y z low high : ℕ}
    (ex : x ≡ key_of g (on-x (2 ^ 32 - 1))) (ey : y ≡ key_of g (on-y (2 ^ 32 - 1))) (ez : z ≡ key_of g (on-z (2 ^ 32 - 1))) where
  module _ {a b : Cell} (ea : a ≡ first_cell p) (eb : b ≡ last_cell p) (el : low ≡ key_of g a) (eh : high ≡ key_of g b) where
    pub whole_half : key_bits_of g ≤ 64 → {bits : ℕ} → bits ≡ key_bits_of g → InHalf x y z low high 0 bits
    whole_half m q = rw (ex, ey, ez, el, eh, ea, eb, q) (in-grid g p f s (sym e ∙ k) m)

    keys : part_keys p 0 ≡ box_keys x y z low high
    keys = rw (ex, ey, ez, el, eh, ea, eb) (box_is g p f s (sym e ∙ k))

    pub whole_room : length (part_keys p 0) ≤ length d → 0 + length (box_keys x y z low high) ≤ length d
    whole_room h = let q : length (box_keys x y z low high) ≤ length d = rw keys at h in omega arith

    pub whole-count : {r : ℕ} → r ≡ 0 + length (box_keys x y z low high) → r ≡ length (part_keys p 0)
    whole-count q = rw keys (omega arith)

    pub whole-left : {r : List ℕ} → r ≡ paste 0 (box_keys x y z low high) d → r ≡ paste 0 (part_keys p 0) d
    whole-left q = rw keys q

pub ruleset searching = (whole-some, whole-none, whole-kept, whole_half, whole_room, whole-count, whole-left, rules)

pub ruleset walking = (
  one-room,
  one-next,
  one_left,
  box_ordered,
  left-few,
  run_count,
  run_room,
  run_reach,
  run_next,
  run_left,
  halvable,
  rules,
)

pub ruleset alone = (left-falls, upper-alone, lower-alone, rules)

pub ruleset parting = (left-few, split, box_corners, rules)

pub ruleset lower = (left-falls, lower_box, last-room, rules)

pub ruleset upper = (left-falls, upper_box, first-room, rules)

pub ruleset joining = (both-next, both_left, rules)

pub ruleset ways = (missed-x, missed-y, missed-z, some-x, some-y, some-z, rules)
