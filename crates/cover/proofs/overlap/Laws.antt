-- What holds of the keys that cover a box: which they are, that they rise, and that some boxes have none.
use Prim.Native.Nat.{ℕ, zero, suc, ◌+◌, ◌*◌, ◌^◌, ◌≤◌, ◌<◌, min, max}
use mathlib.Core.Path.{◌≡◌, refl, sym, ap, ◌∙◌}
use mathlib.Core.Bool.{Bool, true, false, ◌&&◌, ◌||◌}
use mathlib.Core.Logic.{◌↔◌, ◌⊎◌, inl, inr, ⊎_elim}
use mathlib.Core.List.Memᴰ
use mathlib.Core.List.{List, [], ◌∷◌, Memᴰ}
use native.Mathlib.Omega.{arith}
use native.Mathlib.Decide.{dec_lt}
use native.Mathlib.Nat.{le_trans}
use lib.IntN.{ℤ, pos, ◌+ℤ◌}
use lib.ListN.{length}
use lib.Signed.{le_z}
use borrow.Author.Tests.{ltb-true, lt-ltb, le-ltb, leb-true, le-leb}
use Rattle.refusal.specs.Checks.{first_number}
use Rattle.refusal.specs.Buffer.{over}
use Rattle.std.specs.Prelude.{Ok}
use Rattle.refusal.specs.Answers.{refuse}
use Rattle.refusal.proofs.Tests.{both}
use Rattle.refusal.proofs.Refusing.{by_none}
use Rattle.morton.specs.declared.grid.Cell.{Cell}
use Rattle.morton.specs.declared.bounds.Point.{Point}
use Rattle.morton.specs.declared.grid.Volume.{Volume}
use Rattle.morton.specs.grid.Grid.{grid_of, zero_extent, InU32}
use Rattle.morton.specs.Key.{key_bits_of, too_many_bits, cell_of, is_key}
use Rattle.morton.specs.Answers.{key_answer}
use Rattle.morton.specs.bounds.Bounds.{cell_begin, cell_end, begin_point, end_point}
use Rattle.morton.proofs.Laws.{celled, key_back}
use Rattle.cover.specs.overlap.Cover.{larger, shares, meets, covers, keep, passing, cover_keys, cover_checks, cover_answer, cover_left}
use Rattle.cover.specs.overlap.Meaning.{From, SharesVoxel, RisingFrom, reversed, apart, outside_volume}
use Rattle.cover.proofs.overlap.Lists.{passing-none}
use Rattle.cover.proofs.overlap.Tests.{false-last}
use Rattle.cover.proofs.overlap.Places.{below, above, above-lt, above-le, above-sum, below-sum, larger-above, larger-low, shares-above, ground, low_o, low_l, low_u, cell-shares}

-- ---- a cell meets the box exactly when they have a voxel in common
module _ (b e l u : ℤ) (n : ℕ) (p : below b ≤ n) (q : below e ≤ n) (r : below l ≤ n) (s : below u ≤ n) where
  abbrev m : ℕ
  m = max (above n b) (above n l)

  module _ (t : shares b e l u ≡ true) where
    m_below : m < min (above n e) (above n u)
    m_below = ltb-true m (min (above n e) (above n u)) (sym (shares-above n b e l u p q r s) ∙ t)

    in_first : From b e (larger b l)
    in_first =
        let h = m_below in
        let z = larger-low n b l p r in
        record {
          from = above-le n b (larger b l) p z ∙ rw (larger-above n b l p r) (le-leb (above n b) m (omega arith));
          before = above-lt n (larger b l) e z q ∙ rw (larger-above n b l p r) (lt-ltb m (above n e) (omega arith));
        }

    in_second : From l u (larger b l)
    in_second =
        let h = m_below in
        let z = larger-low n b l p r in
        record {
          from = above-le n l (larger b l) r z ∙ rw (larger-above n b l p r) (le-leb (above n l) m (omega arith));
          before = above-lt n (larger b l) u z s ∙ rw (larger-above n b l p r) (lt-ltb m (above n u) (omega arith));
        }

  shares_at : (place : ℤ) → below place ≤ n → From b e place → From l u place → shares b e l u ≡ true
  shares_at place o w x =
      let f = leb-true (above n b) (above n place) (sym (above-le n b place p o) ∙ w.from) in
      let g = ltb-true (above n place) (above n e) (sym (above-lt n place e o q) ∙ w.before) in
      let h = leb-true (above n l) (above n place) (sym (above-le n l place r o) ∙ x.from) in
      let k = ltb-true (above n place) (above n u) (sym (above-lt n place u o s) ∙ x.before) in
      shares-above n b e l u p q r s ∙ lt-ltb m (min (above n e) (above n u)) (omega arith)

module _ (b e l u : ℤ) where
  shares-first : shares b e l u ≡ true → From b e (larger b l)
  shares-first t = in_first b e l u (below b + below e + below l + below u) (omega arith) (omega arith) (omega arith) (omega arith) t

  shares-second : shares b e l u ≡ true → From l u (larger b l)
  shares-second t = in_second b e l u (below b + below e + below l + below u) (omega arith) (omega arith) (omega arith) (omega arith) t

  some-shares : (place : ℤ) → From b e place → From l u place → shares b e l u ≡ true
  some-shares place w x =
      shares_at b e l u (below b + below e + below l + below u + below place) (omega arith) (omega arith) (omega arith) (omega arith) place (omega arith) w x

module _ (v : Volume) (lower upper : Point) (c : Cell) where
  pub meets_in_a_voxel : meets v lower upper c ≡ true → SharesVoxel v lower upper c
  unfolding meets
  meets_in_a_voxel t =
      let p = both _ _ t in
      let q = both _ _ p.1 in
      record {
        voxel = record { x = _; y = _; z = _ };
        inside = record { x = shares-first _ _ _ _ p.0; y = shares-first _ _ _ _ q.0; z = shares-first _ _ _ _ q.1 };
        boxed = record { x = shares-second _ _ _ _ p.0; y = shares-second _ _ _ _ q.0; z = shares-second _ _ _ _ q.1 };
      }

  pub a_voxel-meets : SharesVoxel v lower upper c → meets v lower upper c ≡ true
  unfolding meets
  a_voxel-meets w =
      rw (some-shares _ _ _ _ _ w.inside.x w.boxed.x, some-shares _ _ _ _ _ w.inside.y w.boxed.y)
      (some-shares _ _ _ _ _ w.inside.z w.boxed.z)

-- ---- the keys rise
rising_less : (k : ℕ) (ns : List ℕ) → RisingFrom (suc k) ns → RisingFrom k ns
rising_less k [] r = tt
rising_less k (n ∷ ns) r = (omega (arith, r.0), r.1)

pub passing-rises : (test : ℕ → Bool) (k n : ℕ) → RisingFrom k (passing test k n)
unfolding passing
passing-rises test k zero = tt
passing-rises test k (suc n) = go (test k) (passing-rises test (suc k) n)
  where
    go : (t : Bool) → RisingFrom (suc k) (passing test (suc k) n) → RisingFrom k (keep t k (passing test (suc k) n))
    go true r = unfold keep in (omega arith, r)
    go false r = unfold keep in rising_less k (passing test (suc k) n) r

pub keys_rise : (v : Volume) (lower upper : Point) → RisingFrom 0 (cover_keys v lower upper)
unfolding cover_keys
keys_rise v lower upper = passing-rises (covers v lower upper) 0 (2 ^ key_bits_of (grid_of v))

-- ---- which keys are listed
module _ (test : ℕ → Bool) where
  kept : (t : Bool) (k m : ℕ) (ns : List ℕ) → Memᴰ k (keep t m ns) → ((k ≡ m) × (t ≡ true)) ⊎ Memᴰ k ns
  unfolding keep
  kept true k m ns h = ⊎_elim (λ e. inl (e, refl)) (λ i. inr i) (Memᴰ.cases_cons h)
  kept false k m ns h = inr h

  pub passing-passes : (k m n : ℕ) → Memᴰ k (passing test m n) → (test k ≡ true) × (k < m + n)
  unfolding passing
  passing-passes k m zero h = absurd (Memᴰ.not-nil h)
  passing-passes k m (suc n) h = go (passing-passes k (suc m) n) (kept (test m) k m (passing test (suc m) n) h)
    where
      go : (Memᴰ k (passing test (suc m) n) → (test k ≡ true) × (k < suc m + n))
          → ((k ≡ m) × (test m ≡ true)) ⊎ Memᴰ k (passing test (suc m) n) → (test k ≡ true) × (k < m + suc n)
      go ih (inl e) = (ap test e.0 ∙ e.1, omega (arith, e.0))
      go ih (inr i) = ((ih i).0, omega (arith, (ih i).1))

  keeps : (t : Bool) (k m : ℕ) (ns : List ℕ) → Memᴰ k ns → Memᴰ k (keep t m ns)
  unfolding keep
  keeps true k m ns h = Memᴰ.tail h
  keeps false k m ns h = h

  here : (t : Bool) (k m : ℕ) (ns : List ℕ) → t ≡ true → k ≡ m → Memᴰ k (keep t m ns)
  unfolding keep
  here t k m ns f e = rw f (Memᴰ.head e)

  pub passes-passing : (k m n : ℕ) → test k ≡ true → m ≤ k → k < m + n → Memᴰ k (passing test m n)
  unfolding passing
  passes-passing k m zero t l h = absurd (omega arith)
  passes-passing k m (suc n) t l h = go (λ o. passes-passing k (suc m) n t o (omega arith)) (dec_lt m k)
    where
      go : (suc m ≤ k → Memᴰ k (passing test (suc m) n)) → Dec (m < k) → Memᴰ k (keep (test m) m (passing test (suc m) n))
      go ih (yes o) = keeps (test m) k m (passing test (suc m) n) (ih (omega arith))
      go ih (no o) =
          let e : k ≡ m = omega arith in
          here (test m) k m (passing test (suc m) n) (sym (ap test e) ∙ t) e

module _ (v : Volume) (lower upper : Point) where
  -- a listed key is a cell's, and the cell shares a voxel with the box; and each such key is listed
  pub listed-is : (k : ℕ) → Memᴰ k (cover_keys v lower upper) ↔ ((is_key (grid_of v) k ≡ true) × SharesVoxel v lower upper (cell_of (grid_of v) k))
  unfolding cover_keys covers is_key
  listed-is k = (
    λ m.
        let p = both _ _ (passing-passes (covers v lower upper) k 0 (2 ^ key_bits_of (grid_of v)) m).0 in
        (p.0, meets_in_a_voxel v lower upper _ p.1),
    λ w.
        let l : k < 2 ^ key_bits_of (grid_of v) = ltb-true _ _ (both _ _ w.0).0 in
        passes-passing (covers v lower upper) k 0 (2 ^ key_bits_of (grid_of v)) (rw w.0 (a_voxel-meets v lower upper _ w.1)) (omega arith) (omega arith),
  )

  -- the same of a cell and its key, as they are answered
  pub cell-listed : (c : Cell) (k : ℕ) → InU32 v.size → key_answer v c ≡ Ok k → Memᴰ k (cover_keys v lower upper) ↔ SharesVoxel v lower upper c
  unfolding is_key
  cell-listed c k u e =
      let p = celled v k c (key_back v c k u e) in
      let h : is_key (grid_of v) k ≡ true = rw (lt-ltb _ _ p.below, ← p.is) p.inside in
      let l = listed-is k in
      (λ m. rw p.is (l.0 m).1, λ w. l.1 (h, rw p.is at w))

-- ---- boxes that list none
module _ (o : ℤ) (size chunk c : ℕ) (lower upper : ℤ) where
  abbrev n : ℕ
  n = ground o lower upper

  reversed-shares : le_z upper lower ≡ true → shares (cell_begin o chunk c) (cell_end o size chunk c) lower upper ≡ false
  reversed-shares t =
      let h = leb-true (above n upper) (above n lower) (sym (above-le n upper lower (low_u o lower upper) (low_l o lower upper)) ∙ t) in
      cell-shares o size chunk c lower upper ∙ le-ltb _ _ (numbers (above n o + c * chunk) (above n lower) (above n o + min ((c + 1) * chunk) size) (above n upper) h)
    where
      numbers : (b l e u : ℕ) → u ≤ l → min e u ≤ max b l
      numbers b l e u h = omega arith

  apart-shares : apart o size lower upper ≡ true → shares (cell_begin o chunk c) (cell_end o size chunk c) lower upper ≡ false
  unfolding apart
  apart-shares t = go (le_z upper o) refl t
    where
      before : (a b l e u : ℕ) → u ≤ a → min e u ≤ max (a + b) l
      before a b l e u h = omega arith

      past : (a b l e s u : ℕ) → a + s ≤ l → min (a + min e s) u ≤ max (a + b) l
      past a b l e s u h = omega arith

      go : (s : Bool) → le_z upper o ≡ s → s || le_z (o +ℤ pos size) lower ≡ true → shares (cell_begin o chunk c) (cell_end o size chunk c) lower upper ≡ false
      go true p q =
          let h = leb-true (above n upper) (above n o) (sym (above-le n upper o (low_u o lower upper) (low_o o lower upper)) ∙ p) in
          cell-shares o size chunk c lower upper ∙ le-ltb _ _ (before (above n o) (c * chunk) (above n lower) (above n o + min ((c + 1) * chunk) size) (above n upper) h)
      go false p q =
          let h = leb-true (above n (o +ℤ pos size)) (above n lower) (sym (above-le n (o +ℤ pos size) lower (le_trans (below-sum o size) (low_o o lower upper)) (low_l o lower upper)) ∙ q) in
          let k : above n o + size ≤ above n lower = rw (above-sum n o size (low_o o lower upper)) at h in
          cell-shares o size chunk c lower upper ∙ le-ltb _ _ (past (above n o) (c * chunk) (above n lower) ((c + 1) * chunk) size (above n upper) k)

module _ (v : Volume) (lower upper : Point) where
  none-listed : ((c : Cell) → meets v lower upper c ≡ false) → cover_keys v lower upper ≡ []
  unfolding cover_keys
  none-listed h = passing-none (covers v lower upper) 0 (2 ^ key_bits_of (grid_of v)) (λ k. unfold covers in rw (h (cell_of (grid_of v) k)) (false-last (is_key (grid_of v) k)))

  one_axis : (p q r s t w : Bool) → p || (q || r) ≡ true → (p ≡ true → s ≡ false) → (q ≡ true → t ≡ false) → (r ≡ true → w ≡ false) → s && (t && w) ≡ false
  one_axis true q r s t w h a b c = rw (a refl)
  one_axis false true r s t w h a b c = rw (b refl) (false-last s)
  one_axis false false r s t w h a b c = rw (c h, false-last t) (false-last s)

  -- "an empty or reversed one"
  pub reversed-lists-none : reversed lower upper ≡ true → cover_keys v lower upper ≡ []
  unfolding reversed
  reversed-lists-none t = none-listed (λ c. unfold meets begin_point end_point in one_axis _ _ _ _ _ _ t (reversed-shares _ _ _ _ _ _) (reversed-shares _ _ _ _ _ _) (reversed-shares _ _ _ _ _ _))

  -- "or one outside the volume"
  pub outside_lists-none : outside_volume v lower upper ≡ true → cover_keys v lower upper ≡ []
  unfolding outside_volume
  outside_lists-none t = none-listed (λ c. unfold meets begin_point end_point in one_axis _ _ _ _ _ _ t (apart-shares _ _ _ _ _ _) (apart-shares _ _ _ _ _ _) (apart-shares _ _ _ _ _ _))

-- ---- where nothing is refused
module _ (v : Volume) (lower upper : Point) (out : List ℕ) (z : zero_extent v ≡ false) (m : too_many_bits (grid_of v) ≡ false)
    (h : length (cover_keys v lower upper) ≤ length out) where
  none-holds : first_number (cover_checks v lower upper out) ≡ 0
  unfolding first_number cover_checks
  none-holds = rw (z, m, le-ltb _ _ h)

  pub keys-written : (cover_answer v lower upper out ≡ Ok (length (cover_keys v lower upper))) × (cover_left v lower upper out ≡ over (cover_keys v lower upper) out)
  unfolding cover_answer cover_left
  keys-written = (by_none refuse (cover_checks v lower upper out) _ none-holds, by_none (λ j. out) (cover_checks v lower upper out) _ none-holds)
