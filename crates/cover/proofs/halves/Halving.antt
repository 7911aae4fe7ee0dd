-- A half that holds the box, with one bit fewer: the half of it that holds the box, or both with a part of the box in each.
use Prim.Native.Nat.{ℕ, suc, ◌+◌, ◌*◌, ◌/◌, ◌^◌, ◌≤◌, ◌<◌}
use mathlib.Core.Path.{◌≡◌, sym, ap, ◌∙◌}
use native.Mathlib.Omega.{arith}
use native.Mathlib.Nat.{two-pow-succ, mul_assoc, suc-mul, lt_of_not-le}
use lib.Pow.{pow_mono}
use Rattle.cover.specs.halves.Box.{InHalf, SplitAt, Owns, last_below, first_above}
use Rattle.cover.proofs.halves.Boxes.{block_of, last_mid, mid_first, low-last, first-high, last-corners, first-corners}

module _ (x y z low high first bits : ℕ) (h : InHalf x y z low high first bits) where
  pub within_64 : first + 2 ^ bits ≤ 2 ^ 64
  within_64 = omega (arith, h.grid, pow_mono h.most)

  pub bits_most : bits < 65
  bits_most = lt_of_not-le (λ m. omega (arith, within_64, pow_mono m))

  pub no_bits : bits ≡ 0 → low ≡ high
  no_bits e = let t : high < first + 2 ^ 0 = rw e at h.to in omega (arith, h.from, h.ordered)

  module _ (n : ℕ) (e : bits ≡ suc n) where
    pub double : 2 ^ bits ≡ 2 ^ n + 2 ^ n
    double = rw e (two-pow-succ n)

    -- the number of the lower half among those of n bits
    abbrev lower : ℕ
    lower = h.number * 2

    begins : first ≡ lower * 2 ^ n
    begins =
        let p : 2 ^ bits ≡ 2 * 2 ^ n = omega (arith, double) in
        h.begins ∙ ap (λ (m : ℕ). h.number * m) p ∙ sym (mul_assoc h.number 2 (2 ^ n))

    middle : suc lower * 2 ^ n ≡ first + 2 ^ n
    middle = rw suc-mul (omega (arith, begins))

    -- the other half misses the box
    pub in_lower : high < first + 2 ^ n → InHalf x y z low high first n
    in_lower m =
        record {
          corners = h.corners;
          ordered = h.ordered;
          number = lower;
          begins = begins;
          from = h.from;
          to = m;
          grid = omega (arith, h.grid, double);
          most = h.most;
        }

    pub in_upper : first + 2 ^ n ≤ low → InHalf x y z low high (first + 2 ^ n) n
    in_upper m =
        record {
          corners = h.corners;
          ordered = h.ordered;
          number = suc lower;
          begins = sym middle;
          from = m;
          to = omega (arith, h.to, double);
          grid = omega (arith, h.grid, double);
          most = h.most;
        }

    -- neither half misses it
    module _ (l : low < first + 2 ^ n) (m : first + 2 ^ n ≤ high) where
      low-number : low / 2 ^ n ≡ lower
      low-number = block_of n lower low (omega (arith, begins, h.from)) (omega (arith, middle))

      high-number : high / 2 ^ n ≡ suc lower
      high-number = block_of n (suc lower) high (omega (arith, middle)) (rw suc-mul (omega (arith, middle, h.to, double)))

      pub split_here : SplitAt low high n
      split_here = record { even = rw low-number (omega arith); next = high-number ∙ ap suc (sym low-number) }

      mid_is : suc (low / 2 ^ n) * 2 ^ n ≡ first + 2 ^ n
      mid_is = rw low-number middle

      module _ {own : ℕ} (s : Owns x y z n own) where
        pub lower-part : InHalf x y z low (last_below own high n) first n
        unfolding last-corners
        lower-part =
            record {
              corners = last-corners x y z low high n own h.corners split_here s;
              ordered = low-last x y z low high n own h.corners split_here s;
              number = lower;
              begins = begins;
              from = h.from;
              to = omega (arith, last_mid low high n own split_here, mid_is);
              grid = omega (arith, h.grid, double);
              most = h.most;
            }

        pub upper-part : InHalf x y z (first_above own low n) high (first + 2 ^ n) n
        unfolding first-corners
        upper-part =
            record {
              corners = first-corners x y z low high n own h.corners split_here s;
              ordered = first-high x y z low high n own h.corners split_here s;
              number = suc lower;
              begins = sym middle;
              from = omega (arith, mid_first low high n own split_here, mid_is);
              to = omega (arith, h.to, double);
              grid = omega (arith, h.grid, double);
              most = h.most;
            }
