-- Signed places as natural numbers: how far each lies above a place that is below them all.
use Prim.Native.Nat.{ℕ, zero, suc, ◌+◌, ◌-◌, ◌*◌, ◌≤◌, ◌<◌, min, max}
use mathlib.Core.Path.{◌≡◌, refl, sym, ap₂, ◌∙◌}
use mathlib.Core.Bool.{Bool, true, false, cond}
use native.Mathlib.Omega.{arith}
use native.Mathlib.Nat.{le_trans}
use lib.Dec.{ltb, leb}
use lib.IntN.{ℤ, pos, negsuc, sub_ℕ, ◌+ℤ◌, ◌-ℤ◌}
use lib.Signed.{lt_z, le_z}
use borrow.Author.Tests.{ltb-true, ltb-false, lt-ltb, le-ltb, le-leb, lt-leb}
use Rattle.refusal.specs.Choice.{pick}
use Rattle.morton.specs.bounds.Bounds.{cell_begin, cell_end}
use Rattle.cover.specs.overlap.Cover.{larger, smaller, shares}
use Rattle.cover.specs.overlap.Marked.{natural}
use Rattle.cover.proofs.overlap.Tests.{ltb-same, leb-same}

-- how far a place lies below 0
abbrev pub below : ℤ → ℕ
below (pos n) = 0
below (negsuc n) = suc n

-- how far it lies above -n
abbrev pub above : ℕ → ℤ → ℕ
above n (pos k) = n + k
above n (negsuc k) = n - suc k

module _ (n : ℕ) where
  pub above-lt : (a b : ℤ) → below a ≤ n → below b ≤ n → lt_z a b ≡ ltb (above n a) (above n b)
  above-lt (pos a) (pos b) p q = ltb-same a b (n + a) (n + b) (λ h. omega arith) (λ h. omega arith)
  above-lt (pos a) (negsuc b) p q = sym (le-ltb (n + a) (n - suc b) (omega arith))
  above-lt (negsuc a) (pos b) p q = sym (lt-ltb (n - suc a) (n + b) (omega arith))
  above-lt (negsuc a) (negsuc b) p q = ltb-same b a (n - suc a) (n - suc b) (λ h. omega arith) (λ h. omega arith)

  pub above-le : (a b : ℤ) → below a ≤ n → below b ≤ n → le_z a b ≡ leb (above n a) (above n b)
  above-le (pos a) (pos b) p q = leb-same a b (n + a) (n + b) (λ h. omega arith) (λ h. omega arith)
  above-le (pos a) (negsuc b) p q = sym (lt-leb (n + a) (n - suc b) (omega arith))
  above-le (negsuc a) (pos b) p q = sym (le-leb (n - suc a) (n + b) (omega arith))
  above-le (negsuc a) (negsuc b) p q = leb-same b a (n - suc a) (n - suc b) (λ h. omega arith) (λ h. omega arith)

  sub-above : (a b : ℕ) → b ≤ n → above n (sub_ℕ a b) ≡ n + a - b
  sub-above a b h = go (ltb a b) refl
    where
      go : (t : Bool) → ltb a b ≡ t → above n (cond t (negsuc (b - suc a)) (pos (a - b))) ≡ n + a - b
      go true e = omega (arith, ltb-true a b e)
      go false e = omega (arith, ltb-false a b e)

  pub above-sum : (a : ℤ) (k : ℕ) → below a ≤ n → above n (a +ℤ pos k) ≡ above n a + k
  above-sum (pos a) k p = omega arith
  above-sum (negsuc a) k p = sub-above k (suc a) p ∙ omega arith

sub-below : (a b : ℕ) → below (sub_ℕ a b) ≤ b
sub-below a b = go (ltb a b) refl
  where
    go : (t : Bool) → ltb a b ≡ t → below (cond t (negsuc (b - suc a)) (pos (a - b))) ≤ b
    go true e = omega (arith, ltb-true a b e)
    go false e = omega arith

pub below-sum : (a : ℤ) (k : ℕ) → below (a +ℤ pos k) ≤ below a
below-sum (pos a) k = omega arith
below-sum (negsuc a) k = sub-below k (suc a)

-- ---- differences
sub-natural : (a b : ℕ) → natural (sub_ℕ a b) ≡ a - b
unfolding natural
sub-natural a b = go (ltb a b) refl
  where
    go : (t : Bool) → ltb a b ≡ t → natural (cond t (negsuc (b - suc a)) (pos (a - b))) ≡ a - b
    go true e = omega (arith, ltb-true a b e)
    go false e = refl

pub difference : (n : ℕ) (a b : ℤ) → below a ≤ n → below b ≤ n → natural (a -ℤ b) ≡ above n a - above n b
unfolding natural
difference n (pos a) (pos zero) p q = omega arith
difference n (pos a) (pos (suc b)) p q = sub-natural a (suc b) ∙ omega arith
difference n (pos a) (negsuc b) p q = omega arith
difference n (negsuc a) (pos zero) p q = sub-natural 0 (suc a) ∙ omega arith
difference n (negsuc a) (pos (suc b)) p q = omega arith
difference n (negsuc a) (negsuc b) p q = sub-natural (suc b) (suc a) ∙ omega arith

-- ---- one axis: what shares a place, as numbers
pub test-same : (s t : Bool) → (s ≡ true → t ≡ true) → (t ≡ true → s ≡ true) → s ≡ t
test-same true t f g = sym (f refl)
test-same false true f g = g refl
test-same false false f g = refl

module _ (n : ℕ) (a b : ℤ) (p : below a ≤ n) (q : below b ≤ n) where
  pub larger-above : above n (larger a b) ≡ max (above n a) (above n b)
  unfolding larger
  larger-above = rw (above-lt n a b p q) (go (ltb (above n a) (above n b)) refl)
    where
      go : (t : Bool) → ltb (above n a) (above n b) ≡ t → above n (pick t b a) ≡ max (above n a) (above n b)
      go true e = omega (arith, ltb-true (above n a) (above n b) e)
      go false e = omega (arith, ltb-false (above n a) (above n b) e)

  smaller-above : above n (smaller a b) ≡ min (above n a) (above n b)
  unfolding smaller
  smaller-above = rw (above-lt n a b p q) (go (ltb (above n a) (above n b)) refl)
    where
      go : (t : Bool) → ltb (above n a) (above n b) ≡ t → above n (pick t a b) ≡ min (above n a) (above n b)
      go true e = omega (arith, ltb-true (above n a) (above n b) e)
      go false e = omega (arith, ltb-false (above n a) (above n b) e)

  pub larger-low : below (larger a b) ≤ n
  unfolding larger
  larger-low = go (lt_z a b)
    where
      go : (t : Bool) → below (pick t b a) ≤ n
      go true = q
      go false = p

  smaller-low : below (smaller a b) ≤ n
  unfolding smaller
  smaller-low = go (lt_z a b)
    where
      go : (t : Bool) → below (pick t a b) ≤ n
      go true = p
      go false = q

pub shares-above : (n : ℕ) (b e l u : ℤ) → below b ≤ n → below e ≤ n → below l ≤ n → below u ≤ n
    → shares b e l u ≡ ltb (max (above n b) (above n l)) (min (above n e) (above n u))
unfolding shares
shares-above n b e l u p q r s =
    above-lt n (larger b l) (smaller e u) (larger-low n b l p r) (smaller-low n e u q s)
    ∙ ap₂ ltb (larger-above n b l p r) (smaller-above n e u q s)

-- a cell of an axis: all places as numbers
module _ (o : ℤ) (lower upper : ℤ) where
  abbrev pub ground : ℕ
  ground = below o + (below lower + below upper)

  pub low_o : below o ≤ ground
  low_o = omega arith

  pub low_l : below lower ≤ ground
  low_l = omega arith

  pub low_u : below upper ≤ ground
  low_u = omega arith

pub cell-shares : (o : ℤ) (size chunk c : ℕ) (lower upper : ℤ) → shares (cell_begin o chunk c) (cell_end o size chunk c) lower upper
    ≡ ltb (max (above (ground o lower upper) o + c * chunk) (above (ground o lower upper) lower))
    (min (above (ground o lower upper) o + min ((c + 1) * chunk) size) (above (ground o lower upper) upper))
unfolding cell_begin cell_end
cell-shares o size chunk c lower upper =
    let n = ground o lower upper in
    let l = low_o o lower upper in
    shares-above n (o +ℤ pos (c * chunk)) (o +ℤ pos (min ((c + 1) * chunk) size)) lower upper
    (le_trans (below-sum o (c * chunk)) l) (le_trans (below-sum o (min ((c + 1) * chunk) size)) l) (low_l o lower upper) (low_u o lower upper)
    ∙ rw (above-sum n o (c * chunk) l, above-sum n o (min ((c + 1) * chunk) size) l)

all_four : (p q r s : ℕ) → max p q < min r s → (p < r) × (p < s) × (q < r) × (q < s)
all_four p q r s h = (omega arith, omega arith, omega arith, omega arith)

from_four : (p q r s : ℕ) → p < r → p < s → q < r → q < s → max p q < min r s
from_four p q r s h i j k = omega arith

-- o, l and u as numbers: of an axis of `size` voxels m lie before l and w before u; a cell has those from b up to e
low_met : (o l size e m : ℕ) → m ≡ min size (l - o) → 0 < e → l < o + e → m < e
low_met o l size e m em h i = omega arith

high_met : (o u size b w : ℕ) → w ≡ min size (u - o) → b < size → o + b < u → b < w
high_met o u size b w ew h i = omega arith

some_met : (o l u size m w : ℕ) → m ≡ min size (l - o) → w ≡ min size (u - o) → 0 < size → o < u → l < o + size → l < u → m < w
some_met o l u size m w em ew g h i j = omega arith

before-end : (o l size e m : ℕ) → m ≡ min size (l - o) → m < size → m < e → l < o + e
before-end o l size e m em h i = omega arith

after-begin : (o u size b w : ℕ) → w ≡ min size (u - o) → b < w → (o + b < u) × (b < size) × (w ≤ size)
after-begin o u size b w ew h = (omega arith, omega arith, omega arith)

ordered : (o l u size m w : ℕ) → m ≡ min size (l - o) → w ≡ min size (u - o) → m < w → l < u
ordered o l u size m w em ew h = omega arith

module _ (o l u size b f m w : ℕ) (em : m ≡ min size (l - o)) (ew : w ≡ min size (u - o)) (bf : b < f) where
  end : ℕ
  end = min f size

  end_is : (end ≤ f) × (end ≤ size) × (m < f → m < size → m < end) × (b < size → b < end)
  unfolding end
  end_is = (omega arith, omega arith, λ p q. omega arith, λ p. omega arith)

  pub met : max (o + b) l < min (o + min f size) u → (m < f) × (b < w) × (m < w)
  unfolding end
  met h =
      let q = all_four (o + b) l (o + end) u h in
      let e = end_is in
      let c : b < end = omega (arith, q.0) in
      let a = low_met o l size end m em (omega arith) q.2 in
      (omega (arith, e.0), high_met o u size b w ew (omega (arith, e.1)) q.1, some_met o l u size m w em ew (omega (arith, e.1)) (omega (arith, q.1)) (omega (arith, q.2, e.1)) q.3)

  pub meets-yes : m < w → m < f → b < w → max (o + b) l < min (o + min f size) u
  unfolding end
  meets-yes p q r =
      let a = after-begin o u size b w ew r in
      let e = end_is in
      let g : m < end = e.2 q (omega (arith, a.2)) in
      let k : b < end = e.3 a.1 in
      from_four (o + b) l (o + end) u (omega arith) a.0 (before-end o l size end m em (omega (arith, a.2)) g) (ordered o l u size m w em ew p)
