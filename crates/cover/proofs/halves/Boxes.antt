-- Boxes between two keys, in two at a bit with one of the keys on each side.
use Prim.Native.Nat.{ℕ, suc, ◌+◌, ◌-◌, ◌*◌, ◌/◌, ◌%◌, ◌^◌, ◌≤◌, ◌<◌, min}
use mathlib.Core.Path.{◌≡◌, refl, sym, ap, ap₂, ◌∙◌}
use mathlib.Core.Bool.{Bool, true, false, ◌&&◌}
use mathlib.Core.List.{[], ◌∷◌, ◌++◌}
use native.Mathlib.Omega.{arith}
use native.Mathlib.Decide.{dec_lt}
use native.Mathlib.Nat.{div_self, mod_self, eq_of_mul-eq-mul_right, add-mul, add-zero, mod-lt, mod-eq_of_lt, div-eq_of_lt, suc-mul, zero-mul, zero-add, le_refl, div-lt_iff_lt-mul, le-div_iff_mul-le, lt_of_not-le}
use lib.Dec.{leb}
use lib.Pow.{split, pow_pos, pow-add, pow_mono, high as div-of, low as mod-of}
use lib.Bits.{and_self, and_comm, and_mask, bit_and, bit_or, and_step, and_zero_r, and_le_l, and_le_r, or_zero_r, or_block, or_lt}
use borrow.Author.Tests.{le-leb, leb-true}
use Rattle.refusal.proofs.Tests.{both}
use Rattle.cover.specs.overlap.Cover.{passing, keep}
use Rattle.cover.specs.halves.Box.{counting, between, in_box, box_keys, BoxCorners, SplitAt, Axes, Side, mine, other, Owns, last_below, first_above}
use Rattle.cover.proofs.overlap.Tests.{leb-same, not-true-false}
use Rattle.cover.proofs.overlap.Lists.{passing_split, passing-same, passing_nothing}
use Rattle.cover.proofs.halves.Counting.{passing-all}
use Rattle.cover.proofs.halves.Bits.{and_parts, set_own, set_other, clear_own, clear_other}

-- ---- along one axis, whose bits are m
-- an even number and the one after it
next-and : (p q m : ℕ) → q ≡ suc p → p % 2 ≡ 0 → bit_and q m ≡ bit_and p m + m % 2
next-and p q m e f =
    let g : q / 2 ≡ p / 2 = omega arith in
    let h : q % 2 ≡ 1 = omega arith in
    let b : bit_and q m ≡ bit_and (p / 2) (m / 2) * 2 + min 1 (m % 2) = and_step q m ∙ rw (g, h) in
    omega (arith, and_step p m)

low-div : (n a : ℕ) → a % 2 ^ n / 2 ^ n ≡ 0
low-div n a = div-eq_of_lt (mod-lt a (pow_pos n))

low-mod : (n a : ℕ) → a % 2 ^ n % 2 ^ n ≡ a % 2 ^ n
low-mod n a = mod-eq_of_lt (mod-lt a (pow_pos n))

-- the halves of the numbers from low to high, and their bits along the axis
module _ (low high n own : ℕ) (w : SplitAt low high n) where
  abbrev p : ℕ
  p = low / 2 ^ n

  -- where the upper half begins
  abbrev pub mid : ℕ
  mid = suc p * 2 ^ n

  low-is : low ≡ p * 2 ^ n + low % 2 ^ n
  low-is = sym (split low n)

  pub high_is : high ≡ p * 2 ^ n + 2 ^ n + high % 2 ^ n
  high_is = let s = split high n in omega (arith, rw (w.next, suc-mul) at s)

  high_less : high - 2 ^ n ≡ p * 2 ^ n + high % 2 ^ n
  high_less = omega (arith, high_is)

  last-is : last_below own high n ≡ p * 2 ^ n + bit_or (high % 2 ^ n) (own % 2 ^ n)
  unfolding last_below
  last-is =
      let z : own % 2 ^ n ≡ 0 * 2 ^ n + own % 2 ^ n = rw zero-mul (omega arith) in
      ap₂ bit_or high_less z
      ∙ or_block n p 0 (high % 2 ^ n) (own % 2 ^ n) (mod-lt high (pow_pos n)) (mod-lt own (pow_pos n))
      ∙ rw (or_zero_r p)

  last_fits : bit_or (high % 2 ^ n) (own % 2 ^ n) < 2 ^ n
  last_fits = or_lt n _ _ (mod-lt high (pow_pos n)) (mod-lt own (pow_pos n))

  -- the box's last key of the lower half lies in that half
  pub last_mid : last_below own high n < mid
  last_mid = rw suc-mul (omega (arith, last-is, last_fits))

  last-div : last_below own high n / 2 ^ n ≡ p
  last-div = rw last-is (div-of p n last_fits)

  last-mod : last_below own high n % 2 ^ n ≡ bit_or (high % 2 ^ n) (own % 2 ^ n)
  last-mod = rw last-is (mod-of p n last_fits)

  cleared : bit_and low (own % 2 ^ n) ≡ bit_and (low % 2 ^ n) (own % 2 ^ n)
  cleared = and_parts low (own % 2 ^ n) n ∙ rw (low-div, low-mod, and_zero_r, zero-mul) (omega arith)

  first-is : first_above own low n ≡ mid + (low % 2 ^ n - bit_and (low % 2 ^ n) (own % 2 ^ n))
  unfolding first_above
  first-is = rw (cleared, suc-mul) (omega (arith, low-is, and_le_l (low % 2 ^ n) (own % 2 ^ n)))

  first_fits : low % 2 ^ n - bit_and (low % 2 ^ n) (own % 2 ^ n) < 2 ^ n
  first_fits = omega (arith, mod-lt low (pow_pos n))

  -- and its first key of the upper half in that one
  pub mid_first : mid ≤ first_above own low n
  mid_first = omega (arith, first-is)

  first-div : first_above own low n / 2 ^ n ≡ suc p
  first-div = rw first-is (div-of (suc p) n first_fits)

  first-mod : first_above own low n % 2 ^ n ≡ low % 2 ^ n - bit_and (low % 2 ^ n) (own % 2 ^ n)
  first-mod = rw first-is (mod-of (suc p) n first_fits)

  low_and : (k m : ℕ) → k / 2 ^ n ≡ p → bit_and k m ≡ bit_and p (m / 2 ^ n) * 2 ^ n + bit_and (k % 2 ^ n) (m % 2 ^ n)
  low_and k m e = and_parts k m n ∙ rw e

  high-and : (k m : ℕ) → k / 2 ^ n ≡ suc p → bit_and k m ≡ (bit_and p (m / 2 ^ n) + m / 2 ^ n % 2) * 2 ^ n + bit_and (k % 2 ^ n) (m % 2 ^ n)
  high-and k m e = and_parts k m n ∙ rw (next-and p (k / 2 ^ n) (m / 2 ^ n) e w.even)

  -- along the bit's own axis the upper half lies past the lower; along another both halves are alike
  module _ (m k : ℕ) where
    past : m / 2 ^ n % 2 ≡ 1 → k / 2 ^ n ≡ suc p → bit_and k m ≡ bit_and p (m / 2 ^ n) * 2 ^ n + 2 ^ n + bit_and (k % 2 ^ n) (m % 2 ^ n)
    past b e = high-and k m e ∙ rw (b, add-mul) (omega arith)

    alike : m / 2 ^ n % 2 ≡ 0 → k / 2 ^ n ≡ suc p → bit_and k m ≡ bit_and p (m / 2 ^ n) * 2 ^ n + bit_and (k % 2 ^ n) (m % 2 ^ n)
    alike b e = high-and k m e ∙ rw (b, add-zero)

  module _ (m : ℕ) where
    last-alike : m / 2 ^ n % 2 ≡ 0 → bit_and (own % 2 ^ n) (m % 2 ^ n) ≡ 0 → bit_and (last_below own high n) m ≡ bit_and high m
    last-alike b d = low_and (last_below own high n) m last-div ∙ rw (last-mod, set_other (high % 2 ^ n) (own % 2 ^ n) (m % 2 ^ n) d) (sym (alike m high b w.next))

    first_alike : m / 2 ^ n % 2 ≡ 0 → bit_and (own % 2 ^ n) (m % 2 ^ n) ≡ 0 → bit_and (first_above own low n) m ≡ bit_and low m
    first_alike b d = alike m (first_above own low n) b first-div ∙ rw (first-mod, clear_other (low % 2 ^ n) (own % 2 ^ n) (m % 2 ^ n) d) (sym (low_and low m refl))

  last-own : bit_and (last_below own high n) own ≡ bit_and p (own / 2 ^ n) * 2 ^ n + own % 2 ^ n
  last-own = low_and (last_below own high n) own last-div ∙ rw (last-mod, set_own)

  first-own : own / 2 ^ n % 2 ≡ 1 → bit_and (first_above own low n) own ≡ bit_and p (own / 2 ^ n) * 2 ^ n + 2 ^ n
  first-own b = past own (first_above own low n) b first-div ∙ rw (first-mod, clear_own) (omega arith)

  -- the last key of the lower half: no key of that half lies past it, unless it lies past the box
  pub last-holds : {m : ℕ} → Side own n m → (k : ℕ) → k / 2 ^ n ≡ p → bit_and k m ≤ bit_and high m → bit_and k m ≤ bit_and (last_below own high n) m
  last-holds (mine e b) k q h = rw e (omega (arith, last-own, low_and k own q, and_le_r (k % 2 ^ n) (own % 2 ^ n)))
  last-holds {m} (other b d) k q h = rw (last-alike m b d) h

  pub last_within : {m : ℕ} → Side own n m → bit_and (last_below own high n) m ≤ bit_and high m
  last_within (mine e b) = rw e (omega (arith, last-own, past own high (rw e at b) w.next, mod-lt own (pow_pos n)))
  last_within {m} (other b d) = omega (arith, last-alike m b d)

  -- the first key of the upper half, the same way round
  pub first_holds : {m : ℕ} → Side own n m → (k : ℕ) → k / 2 ^ n ≡ suc p → bit_and low m ≤ bit_and k m → bit_and (first_above own low n) m ≤ bit_and k m
  first_holds (mine e b) k q h = rw e (omega (arith, first-own (rw e at b), past own k (rw e at b) q))
  first_holds {m} (other b d) k q h = rw (first_alike m b d) h

  pub first-within : {m : ℕ} → Side own n m → bit_and low m ≤ bit_and (first_above own low n) m
  first-within (mine e b) = rw e (omega (arith, first-own (rw e at b), low_and low own refl, and_le_r (low % 2 ^ n) (own % 2 ^ n), mod-lt own (pow_pos n)))
  first-within {m} (other b d) = omega (arith, first_alike m b d)

-- ---- along each axis
-- a number from the begin of block q up to its end
pub block_of : (n q k : ℕ) → q * 2 ^ n ≤ k → k < suc q * 2 ^ n → k / 2 ^ n ≡ q
block_of n q k l h =
    let a : q ≤ k / 2 ^ n = (le-div_iff_mul-le (pow_pos n)).1 l in
    let b : k / 2 ^ n < suc q = (div-lt_iff_lt-mul (pow_pos n)).1 h in
    omega arith

block-lt : (n bits a b : ℕ) → a / 2 ^ n ≡ b / 2 ^ n → 2 ^ n ≤ b → b < 2 ^ bits → a < 2 ^ bits
block-lt n bits a b e l h =
    let m : n < bits = lt_of_not-le (λ g. omega (arith, pow_mono g)) in
    let f : 2 ^ bits ≡ 2 ^ (bits - n) * 2 ^ n = ap (λ (i : ℕ). 2 ^ i) (omega arith) ∙ pow-add 2 (bits - n) n in
    let g : b / 2 ^ n < 2 ^ (bits - n) = (div-lt_iff_lt-mul (pow_pos n)).1 (rw f at h) in
    rw f ((div-lt_iff_lt-mul (pow_pos n)).0 (rw e g))

module _ (x y z low high : ℕ) (c : BoxCorners x y z low high) where
  -- numbers in the order of their bits along each axis
  pub by_axes : (a b : ℕ) → a < 2 ^ c.bits → b < 2 ^ c.bits → bit_and a x ≤ bit_and b x → bit_and a y ≤ bit_and b y → bit_and a z ≤ bit_and b z → a ≤ b
  by_axes a b ha hb lx ly lz = omega (arith, c.whole a ha, c.whole b hb)

  pub inside : (l h k : ℕ) → l < 2 ^ c.bits → h < 2 ^ c.bits → k < 2 ^ c.bits → in_box x y z l h k ≡ true → (l ≤ k) × (k ≤ h)
  unfolding in_box between
  inside l h k hl hh hk t =
      let a = both _ _ t in
      let b = both _ _ a.1 in
      let ax = both _ _ a.0 in
      let ay = both _ _ b.0 in
      let az = both _ _ b.1 in (
        by_axes l k hl hk (leb-true _ _ ax.0) (leb-true _ _ ay.0) (leb-true _ _ az.0),
        by_axes k h hk hh (leb-true _ _ ax.1) (leb-true _ _ ay.1) (leb-true _ _ az.1),
      )

-- the box in two, where `own` is the axis of bit n
module _ (x y z low high n own : ℕ) (c : BoxCorners x y z low high) (w : SplitAt low high n) (s : Owns x y z n own) where
  abbrev last : ℕ
  last = last_below own high n

  abbrev first : ℕ
  first = first_above own low n

  below-high : 2 ^ n ≤ high
  below-high = omega (arith, high_is low high n own w)

  in_upper : (k : ℕ) → k / 2 ^ n ≡ suc (low / 2 ^ n) → k < 2 ^ c.bits
  in_upper k e = block-lt n c.bits k high (e ∙ sym w.next) below-high c.fits

  pub last-lt : last < high
  last-lt = omega (arith, last-is low high n own w, last_fits low high n own w, high_is low high n own w)

  pub first_gt : low < first
  first_gt = omega (arith, first-is low high n own w, low-is low high n own w, mod-lt low (pow_pos n), suc-mul (low / 2 ^ n) (2 ^ n))

  unfoldable pub last-corners : BoxCorners x y z low last
  last-corners =
      record {
        x = last-holds low high n own w s.x low refl c.x;
        y = last-holds low high n own w s.y low refl c.y;
        z = last-holds low high n own w s.z low refl c.z;
        bits = c.bits;
        fits = omega (arith, last-lt, c.fits);
        whole = c.whole;
      }

  unfoldable pub first-corners : BoxCorners x y z first high
  first-corners =
      record {
        x = first_holds low high n own w s.x high w.next c.x;
        y = first_holds low high n own w s.y high w.next c.y;
        z = first_holds low high n own w s.z high w.next c.z;
        bits = c.bits;
        fits = c.fits;
        whole = c.whole;
      }

  low_fits : low < 2 ^ c.bits
  low_fits = omega (arith, low-is low high n own w, high_is low high n own w, mod-lt low (pow_pos n), c.fits)

  pub low-last : low ≤ last
  unfolding last-corners
  low-last = by_axes x y z low high c low last low_fits last-corners.fits last-corners.x last-corners.y last-corners.z

  pub first-high : first ≤ high
  first-high = by_axes x y z low high c first high (in_upper first (first-div low high n own w)) c.fits first-corners.x first-corners.y first-corners.z

  module _ (k : ℕ) where
    lower_axis : {m : ℕ} → Side own n m → k / 2 ^ n ≡ low / 2 ^ n → between m low high k ≡ between m low last k
    unfolding between
    lower_axis {m} d e =
        ap (λ (t : Bool). leb (bit_and low m) (bit_and k m) && t)
        (leb-same _ _ _ _ (λ h. last-holds low high n own w d k e h) (λ h. omega (arith, last_within low high n own w d)))

    upper_axis : {m : ℕ} → Side own n m → k / 2 ^ n ≡ suc (low / 2 ^ n) → between m low high k ≡ between m first high k
    unfolding between
    upper_axis {m} d e =
        ap (λ (t : Bool). t && leb (bit_and k m) (bit_and high m))
        (leb-same _ _ _ _ (λ h. first_holds low high n own w d k e h) (λ h. omega (arith, first-within low high n own w d)))

    lower_box : k / 2 ^ n ≡ low / 2 ^ n → in_box x y z low high k ≡ in_box x y z low last k
    unfolding in_box
    lower_box e = rw (lower_axis s.x e, lower_axis s.y e, lower_axis s.z e)

    upper_box : k / 2 ^ n ≡ suc (low / 2 ^ n) → in_box x y z low high k ≡ in_box x y z first high k
    unfolding in_box
    upper_box e = rw (upper_axis s.x e, upper_axis s.y e, upper_axis s.z e)

    none_between : last < k → k < first → in_box x y z low high k ≡ false
    none_between l h = go (dec_lt k (mid low high n own w))
      where
        low-block : k < mid low high n own w → k / 2 ^ n ≡ low / 2 ^ n
        low-block m = block_of n (low / 2 ^ n) k (omega (arith, low-last, low-is low high n own w)) m

        high-block : mid low high n own w ≤ k → k / 2 ^ n ≡ suc (low / 2 ^ n)
        high-block m =
            block_of n (suc (low / 2 ^ n)) k m
            (rw suc-mul (omega (arith, first-high, high_is low high n own w, mod-lt high (pow_pos n), suc-mul (low / 2 ^ n) (2 ^ n))))

        in_bits : k < 2 ^ c.bits
        in_bits = omega (arith, first-high, c.fits)

        go : Dec (k < mid low high n own w) → in_box x y z low high k ≡ false
        go (yes m) =
            lower_box (low-block m)
            ∙ not-true-false _ (λ t. omega (arith, (inside x y z low high c low last k low_fits (omega (arith, last-lt, c.fits)) in_bits t).1))
        go (no m) =
            let g : mid low high n own w ≤ k = omega arith in
            upper_box (high-block g)
            ∙ not-true-false _ (λ t. omega (arith, (inside x y z low high c first high k (omega (arith, first-high, c.fits)) c.fits in_bits t).0))

  pub keys_split : box_keys x y z low high ≡ box_keys x y z low last ++ box_keys x y z first high
  unfolding box_keys
  keys_split =
      let e : suc high - low ≡ (suc last - low) + ((first - suc last) + (suc high - first)) = omega (arith, low-last, last-lt, first-high, first_gt, last-first) in
      let f : low + (suc last - low) ≡ suc last = omega (arith, low-last) in
      let g : suc last + (first - suc last) ≡ first = omega (arith, last-first) in
      ap (passing (in_box x y z low high) low) e
      ∙ passing_split (in_box x y z low high) low (suc last - low) ((first - suc last) + (suc high - first))
      ∙ ap₂ ◌++◌ lower
      (ap (λ (k : ℕ). passing (in_box x y z low high) k ((first - suc last) + (suc high - first))) f
      ∙ passing_split (in_box x y z low high) (suc last) (first - suc last) (suc high - first)
      ∙ ap₂ ◌++◌ between_halves (ap (λ (k : ℕ). passing (in_box x y z low high) k (suc high - first)) g ∙ upper))
    where
      last-first : last < first
      last-first = omega (arith, last-is low high n own w, last_fits low high n own w, first-is low high n own w, suc-mul (low / 2 ^ n) (2 ^ n))

      lower : passing (in_box x y z low high) low (suc last - low) ≡ passing (in_box x y z low last) low (suc last - low)
      lower =
          passing-same _ _ low (suc last - low)
          (λ k l h.
          lower_box k
          (block_of n (low / 2 ^ n) k (omega (arith, low-is low high n own w))
          (rw suc-mul (omega (arith, low-last, last-is low high n own w, last_fits low high n own w)))))

      between_halves : passing (in_box x y z low high) (suc last) (first - suc last) ≡ []
      between_halves = passing_nothing _ (suc last) (first - suc last) (λ k l h. none_between k (omega arith) (omega (arith, last-first)))

      upper : passing (in_box x y z low high) first (suc high - first) ≡ passing (in_box x y z first high) first (suc high - first)
      upper =
          passing-same _ _ first (suc high - first)
          (λ k l h.
          upper_box k
          (block_of n (suc (low / 2 ^ n)) k (omega (arith, first-is low high n own w))
          (rw suc-mul (omega (arith, first-high, high_is low high n own w, mod-lt high (pow_pos n), suc-mul (low / 2 ^ n) (2 ^ n))))))

-- ---- which axis has bit n
bit-and : (n m : ℕ) → bit_and (2 ^ n) m ≡ m / 2 ^ n % 2 * 2 ^ n
bit-and n m =
    let q : 2 ^ n / 2 ^ n ≡ 1 = div_self (pow_pos n) in
    let r : 2 ^ n % 2 ^ n ≡ 0 = mod_self (2 ^ n) in
    let f : bit_and (2 ^ n / 2 ^ n) (m / 2 ^ n) ≡ m / 2 ^ n % 2 = next-and 0 (2 ^ n / 2 ^ n) (m / 2 ^ n) q refl ∙ zero-add _ in
    and_parts (2 ^ n) m n ∙ rw (f, r) (omega arith)

low-and_axis : (n a m : ℕ) → bit_and (a % 2 ^ n) m ≡ bit_and (a % 2 ^ n) (m % 2 ^ n)
low-and_axis n a m = and_parts (a % 2 ^ n) m n ∙ rw (low-div, low-mod) (omega arith)

module _ (x y z low high n : ℕ) (c : BoxCorners x y z low high) (w : SplitAt low high n) where
  small : 2 ^ n < 2 ^ c.bits
  small = omega (arith, high_is low high n 0 w, c.fits)

  -- the bits below n of one axis, along each
  parted : (a : ℕ) → bit_and (a % 2 ^ n) (x % 2 ^ n) + bit_and (a % 2 ^ n) (y % 2 ^ n) + bit_and (a % 2 ^ n) (z % 2 ^ n) ≡ a % 2 ^ n
  parted a =
      rw (← low-and_axis n a x, ← low-and_axis n a y, ← low-and_axis n a z)
      (c.whole (a % 2 ^ n) (omega (arith, mod-lt a (pow_pos n), small)))

  one_axis : x / 2 ^ n % 2 + y / 2 ^ n % 2 + z / 2 ^ n % 2 ≡ 1
  one_axis =
      let e = c.whole (2 ^ n) small in
      let f : (x / 2 ^ n % 2 + y / 2 ^ n % 2 + z / 2 ^ n % 2) * 2 ^ n ≡ 1 * 2 ^ n = rw (add-mul, add-mul) (omega (arith, bit-and n x, bit-and n y, bit-and n z)) in
      eq_of_mul-eq-mul_right (2 ^ n) (pow_pos n) _ 1 f

  pub axes-at : Axes x y z n
  axes-at =
      record {
        one = one_axis;
        xy = omega (arith, parted x, and_self (x % 2 ^ n));
        xz = omega (arith, parted x, and_self (x % 2 ^ n));
        yx = omega (arith, parted y, and_self (y % 2 ^ n));
        yz = omega (arith, parted y, and_self (y % 2 ^ n));
        zx = omega (arith, parted z, and_self (z % 2 ^ n));
        zy = omega (arith, parted z, and_self (z % 2 ^ n));
      }

module _ (x y z n : ℕ) (a : Axes x y z n) {own : ℕ} where
  pub z-owns : own ≡ z → z / 2 ^ n % 2 ≡ 1 → Owns x y z n own
  z-owns e b =
      record {
        x = other (omega (arith, a.one)) (rw e a.zx);
        y = other (omega (arith, a.one)) (rw e a.zy);
        z = mine (sym e) b;
      }

  pub y-owns : own ≡ y → (z / 2 ^ n % 2 ≡ 1 → ⊥) → y / 2 ^ n % 2 ≡ 1 → Owns x y z n own
  y-owns e d b =
      record {
        x = other (omega (arith, a.one)) (rw e a.yx);
        y = mine (sym e) b;
        z = other (omega (arith, a.one)) (rw e a.yz);
      }

  pub x-owns : own ≡ x → (z / 2 ^ n % 2 ≡ 1 → ⊥) → (y / 2 ^ n % 2 ≡ 1 → ⊥) → Owns x y z n own
  x-owns e d b =
      record {
        x = mine (sym e) (omega (arith, a.one));
        y = other (omega (arith, a.one)) (rw e a.xy);
        z = other (omega (arith, a.one)) (rw e a.xz);
      }

-- ---- no more bits
pub one_key : (x y z low : ℕ) → box_keys x y z low low ≡ low ∷ []
unfolding box_keys passing keep in_box between
one_key x y z low =
    let e : suc low - low ≡ 1 = omega arith in
    rw (e, le-leb (bit_and low x) (bit_and low x) (le_refl _), le-leb (bit_and low y) (bit_and low y) (le_refl _), le-leb (bit_and low z) (bit_and low z) (le_refl _))

-- ---- each number from low to high is in the box
module _ (x y z low high n : ℕ) (w : SplitAt low high n) (e : high - low ≡ 2 ^ n + (2 ^ n - 1)) where
  begins : low % 2 ^ n ≡ 0
  begins = omega (arith, low-is low high n 0 w, high_is low high n 0 w, mod-lt high (pow_pos n))

  ends : high % 2 ^ n ≡ 2 ^ n - 1
  ends = omega (arith, low-is low high n 0 w, high_is low high n 0 w, mod-lt high (pow_pos n))

  all_ones : (m : ℕ) → bit_and (high % 2 ^ n) (m % 2 ^ n) ≡ m % 2 ^ n
  all_ones m = rw (ends, and_comm (2 ^ n - 1) (m % 2 ^ n), and_mask (m % 2 ^ n) n) (low-mod n m)

  abbrev base : ℕ → ℕ
  base m = bit_and (low / 2 ^ n) (m / 2 ^ n) * 2 ^ n

  low-at : (m : ℕ) → bit_and low m ≡ base m
  low-at m = low_and low high n 0 w low m refl ∙ rw begins (omega arith)

  high-at : (m : ℕ) → bit_and high m ≡ base m + m / 2 ^ n % 2 * 2 ^ n + m % 2 ^ n
  high-at m = high-and low high n 0 w high m w.next ∙ rw (add-mul, all_ones m)

  run_axis : (m k : ℕ) → low ≤ k → k ≤ high → between m low high k ≡ true
  unfolding between
  run_axis m k l h = go (dec_lt k (mid low high n 0 w))
    where
      close : (bit_and low m ≤ bit_and k m) → (bit_and k m ≤ bit_and high m) → leb (bit_and low m) (bit_and k m) && leb (bit_and k m) (bit_and high m) ≡ true
      close p q = rw (le-leb _ _ p) (le-leb _ _ q)

      go : Dec (k < mid low high n 0 w) → leb (bit_and low m) (bit_and k m) && leb (bit_and k m) (bit_and high m) ≡ true
      go (yes b) =
          let f = low_and low high n 0 w k m (block_of n (low / 2 ^ n) k (omega (arith, low-is low high n 0 w)) b) in
          close (omega (arith, low-at m)) (omega (arith, high-at m, and_le_r (k % 2 ^ n) (m % 2 ^ n)))
      go (no b) =
          let g : mid low high n 0 w ≤ k = omega arith in
          let f = high-and low high n 0 w k m (block_of n (suc (low / 2 ^ n)) k g (rw (suc-mul, suc-mul) (omega (arith, high_is low high n 0 w, mod-lt high (pow_pos n))))) in
          let j : bit_and k m ≡ base m + m / 2 ^ n % 2 * 2 ^ n + bit_and (k % 2 ^ n) (m % 2 ^ n) = f ∙ rw add-mul in
          close (omega (arith, low-at m)) (omega (arith, high-at m, and_le_r (k % 2 ^ n) (m % 2 ^ n)))

  pub run_keys : box_keys x y z low high ≡ counting low (suc high - low)
  unfolding box_keys in_box
  run_keys =
      passing-same _ (λ i. true) low (suc high - low)
      (λ k l h. rw (run_axis x k l (omega arith), run_axis y k l (omega arith)) (run_axis z k l (omega arith)))
      ∙ passing-all (λ i. true) low (suc high - low) (λ i. refl)
