-- Headers and channel offsets: what the walk over them finds.
use Prim.Native.Nat.{ℕ, suc, ◌+◌, ◌*◌, ◌/◌, ◌<◌, ◌≤◌, min, max}
use mathlib.Core.Path.{◌≡◌, refl, sym, ap, ◌∙◌}
use mathlib.Core.Bool.{Bool, true, false}
use mathlib.Core.List.{List}
use mathlib.Core.Logic.{◌⊎◌, ⊎_elim, inl, inr}
use native.Mathlib.Omega.{arith}
use native.Mathlib.Nat.{le_antisymm}
use lib.ListN.{length}
use Rattle.refusal.specs.Choice.{pick}
use Rattle.compressed_segmentation.specs.declared.Shape.{Shape}
use Rattle.compressed_segmentation.specs.Words.{word}
use Rattle.compressed_segmentation.specs.Layout.{width_in, is_width}
use Rattle.compressed_segmentation.specs.block.Checks.{greatest, block_count, header_refusal, channel_headers, headers_refusal}
use Rattle.bitmap.specs.visited.Seen.{Seen, Sees, Blank}
use Rattle.compressed_segmentation.proofs.Shapes.{whole-yes, whole-no}
use Rattle.compressed_segmentation.proofs.block.Greatest.{within-or-past, greatest-step, le-greatest, greatest-le, greatest-is, greatest-same, greatest-at}

-- ---- one header

module _ (s : List ℕ) (o n : ℕ) where
  header-past : length s / 4 < o + 2 * n + 2 → header_refusal s o n ≡ 28
  unfolding header_refusal
  header-past h = rw (whole-no s (o + 2 * n) 2 h)

  header-within : o + 2 * n + 2 ≤ length s / 4 → header_refusal s o n ≡ pick (is_width (width_in (word s (o + 2 * n)))) 0 29
  unfolding header_refusal
  header-within h = rw (whole-yes s (o + 2 * n) 2 h)

  pub header_28 : {k : ℕ} → k ≡ length s / 4 → k < o + 2 * n + 2 → 28 ≡ header_refusal s o n
  header_28 e h = sym (header-past (omega arith))

  module _ {k f : ℕ} (e : k ≡ length s / 4) (h : o + 2 * n + 2 ≤ k) (g : f ≡ word s (o + 2 * n)) where
    pub header_0 : {b : Bool} → b ≡ is_width (width_in f) → b ≡ true → 0 ≡ header_refusal s o n
    header_0 q t = sym (header-within (omega arith) ∙ rw (← g, ← q, t))

    pub header_29 : {b : Bool} → b ≡ is_width (width_in f) → b ≡ false → 29 ≡ header_refusal s o n
    header_29 q t = sym (header-within (omega arith) ∙ rw (← g, ← q, t))

  -- 0 or 29 of a whole one
  header-whole-cases : o + 2 * n + 2 ≤ length s / 4 → (header_refusal s o n ≡ 0) ⊎ (header_refusal s o n ≡ 29)
  header-whole-cases h = go (is_width (width_in (word s (o + 2 * n)))) refl
    where
      go : (t : Bool) → is_width (width_in (word s (o + 2 * n))) ≡ t → (header_refusal s o n ≡ 0) ⊎ (header_refusal s o n ≡ 29)
      go true e = inl (header-within h ∙ rw e)
      go false e = inr (header-within h ∙ rw e)

  pub header_good_whole : header_refusal s o n ≡ 0 → o + 2 * n + 2 ≤ length s / 4
  header_good_whole e = ⊎_elim (λ h. h) (λ h. absurd (omega (arith, header-past h))) (within-or-past (o + 2 * n + 2) (length s / 4))

  pub header_good_width : header_refusal s o n ≡ 0 → is_width (width_in (word s (o + 2 * n))) ≡ true
  header_good_width e = go (is_width (width_in (word s (o + 2 * n)))) refl
    where
      go : (t : Bool) → is_width (width_in (word s (o + 2 * n))) ≡ t → is_width (width_in (word s (o + 2 * n))) ≡ true
      go true q = q
      go false q = absurd (omega (arith, rw q at (header-within (header_good_whole e))))

  pub header-most : header_refusal s o n ≤ 29
  header-most =
      ⊎_elim (λ h. ⊎_elim (λ e. omega arith) (λ e. omega arith) (header-whole-cases h)) (λ h. let e = header-past h in omega arith)
      (within-or-past (o + 2 * n + 2) (length s / 4))

  pub header-least : 0 < header_refusal s o n → 28 ≤ header_refusal s o n
  header-least l =
      ⊎_elim (λ h. ⊎_elim (λ e. omega arith) (λ e. omega arith) (header-whole-cases h)) (λ h. let e = header-past h in omega arith)
      (within-or-past (o + 2 * n + 2) (length s / 4))

-- ---- the headers of a channel

module _ (s : List ℕ) (o : ℕ) where
  -- the first that is refused is the greatest
  pub headers_hit : (count n : ℕ) {k : ℕ} → 0 ≡ greatest (header_refusal s o) n → n < count → k ≡ header_refusal s o n → 0 < k → k ≡ greatest (header_refusal s o) count
  headers_hit count n z h e k = e ∙ greatest-is (header_refusal s o) count n h (λ j l. at j)
    where
      at : (j : ℕ) → header_refusal s o j ≤ header_refusal s o n
      at j =
          ⊎_elim
          (λ (l : suc j ≤ n). let p = le-greatest (header_refusal s o) n j l in omega arith)
          (λ (l : n < suc j).
          ⊎_elim
          (λ w. ⊎_elim (λ q. let x : ⊥ = omega arith in absurd x) (λ q. let m = header-most s o j in omega arith) (header-whole-cases s o n w))
          (λ w. let a = header-past s o n w in let b = header-past s o j (omega arith) in omega arith)
          (within-or-past (o + 2 * n + 2) (length s / 4)))
          (within-or-past (suc j) n)

  pub headers_most : (count : ℕ) → greatest (header_refusal s o) count ≤ 29
  headers_most count = greatest-le (header_refusal s o) count 29 (λ i h. header-most s o i)

  -- no more than the chunk could hold need be looked at
  pub headers_capped : (g : ℕ) → greatest (header_refusal s o) (min g (length s / 4 / 2 + 1)) ≡ greatest (header_refusal s o) g
  headers_capped g = ⊎_elim few many (within-or-past g (length s / 4 / 2 + 1))
    where
      few : g ≤ length s / 4 / 2 + 1 → greatest (header_refusal s o) (min g (length s / 4 / 2 + 1)) ≡ greatest (header_refusal s o) g
      few h = let e : min g (length s / 4 / 2 + 1) ≡ g = omega arith in ap (greatest (header_refusal s o)) e

      many : length s / 4 / 2 + 1 < g → greatest (header_refusal s o) (min g (length s / 4 / 2 + 1)) ≡ greatest (header_refusal s o) g
      many h =
          let m = length s / 4 / 2 in
          let e : min g (m + 1) ≡ m + 1 = omega arith in
          let last = header-past s o m (omega arith) in
          let b = le-greatest (header_refusal s o) (m + 1) m (omega arith) in
          ap (greatest (header_refusal s o)) e
          ∙ le_antisymm
          (greatest-le (header_refusal s o) (m + 1) _ (λ i l. le-greatest (header_refusal s o) g i (omega arith)))
          (greatest-le (header_refusal s o) g _ (λ i l.
          ⊎_elim
          (λ (k : suc i ≤ m + 1). le-greatest (header_refusal s o) (m + 1) i k)
          (λ (k : m + 1 < suc i). let q = header-past s o i (omega arith) in omega arith)
          (within-or-past (suc i) (m + 1))))

-- where none is refused, each is whole and has a width
module _ (s : List ℕ) (o : ℕ) (count n : ℕ) (z : greatest (header_refusal s o) count ≡ 0) (h : n < count) where
  header-none : header_refusal s o n ≡ 0
  header-none = omega (arith, le-greatest (header_refusal s o) count n h)

  pub each-whole : o + 2 * n + 2 ≤ length s / 4
  each-whole = header_good_whole s o n header-none

  pub each_width : is_width (width_in (word s (o + 2 * n))) ≡ true
  each_width = header_good_width s o n header-none

-- ---- channels

module _ (s : List ℕ) (g c : ℕ) where
  pub channel-past : length s / 4 ≤ c → channel_headers s g c ≡ 28
  unfolding channel_headers
  channel-past h = rw (whole-no s c 1 (omega arith))

  pub channel-within : c < length s / 4 → channel_headers s g c ≡ greatest (header_refusal s (word s c)) g
  unfolding channel_headers
  channel-within h = rw (whole-yes s c 1 (omega arith))

  pub channel-most : channel_headers s g c ≤ 29
  channel-most =
      ⊎_elim
      (λ (h : suc c ≤ length s / 4). let e = channel-within h in let m = headers_most s (word s c) g in omega arith)
      (λ (h : length s / 4 < suc c). let e = channel-past (omega arith) in omega arith)
      (within-or-past (suc c) (length s / 4))

  pub channel-least : 0 < channel_headers s g c → 28 ≤ channel_headers s g c
  channel-least l =
      ⊎_elim
      (λ (h : suc c ≤ length s / 4).
      let e = channel-within h in
      let r = greatest-at (header_refusal s (word s c)) g (omega arith) in
      let m = header-least s (word s c) r.0 (omega (arith, r.2)) in
      omega (arith, r.2))
      (λ (h : length s / 4 < suc c). let e = channel-past (omega arith) in omega arith)
      (within-or-past (suc c) (length s / 4))

pub channel-capped : (s : List ℕ) (g c : ℕ) → channel_headers s (min g (length s / 4 / 2 + 1)) c ≡ channel_headers s g c
channel-capped s g c =
    ⊎_elim
    (λ (h : suc c ≤ length s / 4). channel-within s _ c h ∙ headers_capped s (word s c) g ∙ sym (channel-within s g c h))
    (λ (h : length s / 4 < suc c). channel-past s _ c (omega arith) ∙ sym (channel-past s g c (omega arith)))
    (within-or-past (suc c) (length s / 4))

-- the walk over the channels: what is found, and that places which are noted are among those looked at
pub record Walked (s : List ℕ) (count n c worst : ℕ) (seen : List ℕ) : Type 0 where
  pub within : c ≤ n
  pub found : worst ≡ greatest (channel_headers s count) c
  pub below : worst < 29
  pub known : (o : ℕ) → Seen seen o → greatest (header_refusal s o) count ≤ worst

pub walked_start : (s : List ℕ) (count n : ℕ) {seen : List ℕ} → Blank seen → Walked s count n 0 0 seen
unfolding greatest
walked_start s count n b = record { within = omega arith; found = refl; below = omega arith; known = λ o h. absurd (b.none o h) }

module _ {s : List ℕ} {count n c worst : ℕ} {seen : List ℕ} (r : Walked s count n c worst seen) (h : c < n) (k : n ≤ length s / 4) {o next : ℕ} (oe : o ≡ word s c) (e : next ≡ max worst (greatest (header_refusal s o) count)) where
  more : next ≡ greatest (channel_headers s count) (c + 1)
  more =
      let q : channel_headers s count c ≡ greatest (header_refusal s o) count = channel-within s count c (omega arith) ∙ ap (λ (x : ℕ). greatest (header_refusal s x) count) (sym oe) in
      omega (arith, greatest-step (channel_headers s count) c, r.found)

  pub walked_29 : next ≡ 29 → 29 ≡ greatest (channel_headers s count) n
  walked_29 q =
      le_antisymm
      (let m = greatest-le (channel_headers s count) (c + 1) _ (λ i l. le-greatest (channel_headers s count) n i (omega arith)) in omega (arith, more))
      (greatest-le (channel_headers s count) n 29 (λ i l. channel-most s count i))

  pub walked_on : (next ≡ 29 → ⊥) → {later : List ℕ} → Sees seen later o → Walked s count n (c + 1) next later
  walked_on q v =
      let m = greatest-le (channel_headers s count) (c + 1) 29 (λ i l. channel-most s count i) in
      record {
        within = omega arith;
        found = more;
        below = omega (arith, more);
        known = λ x l.
            ⊎_elim (λ a. let z = r.known x a in omega arith)
            (λ (y : x ≡ o). let z = ap (λ (x : ℕ). greatest (header_refusal s x) count) y in omega arith) (v.only x l);
      }

pub walked_known : {s : List ℕ} {count n c worst : ℕ} {seen : List ℕ} → Walked s count n c worst seen → {o : ℕ} → Seen seen o → greatest (header_refusal s o) count ≤ worst
walked_known r {o} h = r.known o h

-- ---- all channels

module _ (s : List ℕ) (sh : Shape) {w count : ℕ} (we : w ≡ length s / 4) (ce : count ≡ min (block_count sh) (w / 2 + 1)) where
  capped : (c : ℕ) → channel_headers s count c ≡ channel_headers s (block_count sh) c
  capped c =
      let e : count ≡ min (block_count sh) (length s / 4 / 2 + 1) = ce ∙ ap (λ (x : ℕ). min (block_count sh) (x / 2 + 1)) we in
      ap (λ (x : ℕ). channel_headers s x c) e ∙ channel-capped s (block_count sh) c

  pub headers_whole : {r : ℕ} → r ≡ greatest (channel_headers s count) sh.channels → r ≡ headers_refusal s sh
  unfolding headers_refusal
  headers_whole e = e ∙ greatest-same (channel_headers s count) (channel_headers s (block_count sh)) sh.channels (λ i h. capped i)

  pub headers_cut : {r k : ℕ} → w < sh.channels → k ≡ greatest (channel_headers s count) w → r ≡ max k 28 → r ≡ headers_refusal s sh
  unfolding headers_refusal
  headers_cut {r} {k} h e q =
      let f = channel_headers s (block_count sh) in
      let a : k ≡ greatest f w = e ∙ greatest-same (channel_headers s count) f w (λ i h. capped i) in
      let b = le-greatest f sh.channels w h in
      let z : f w ≡ 28 = channel-past s (block_count sh) w (omega arith) in
      let l = greatest-le f w (greatest f sh.channels) (λ i l. le-greatest f sh.channels i (omega arith)) in
      let m = greatest-le f sh.channels (max k 28) (λ i l.
      ⊎_elim
      (λ (x : suc i ≤ w). let y = le-greatest f w i x in omega arith)
      (λ (x : w < suc i). let y = channel-past s (block_count sh) i (omega arith) in omega arith)
      (within-or-past (suc i) w)) in
      omega arith

-- ---- where no header is refused

module _ (s : List ℕ) (sh : Shape) (z : headers_refusal s sh ≡ 0) where
  module _ (c : ℕ) (h : c < sh.channels) where
    channel-none : channel_headers s (block_count sh) c ≡ 0
    unfolding headers_refusal
    channel-none = omega (arith, le-greatest (channel_headers s (block_count sh)) sh.channels c h)

    pub offset-whole : c < length s / 4
    offset-whole =
        ⊎_elim (λ (l : suc c ≤ length s / 4). l) (λ (l : length s / 4 < suc c). absurd (omega (arith, channel-none, channel-past s (block_count sh) c (omega arith))))
        (within-or-past (suc c) (length s / 4))

    pub headers_none : greatest (header_refusal s (word s c)) (block_count sh) ≡ 0
    headers_none = sym (channel-within s (block_count sh) c offset-whole) ∙ channel-none

    pub headers_none-at : {o count : ℕ} → o ≡ word s c → count ≡ block_count sh → greatest (header_refusal s o) count ≡ 0
    headers_none-at {count = count} e q = ap (λ (x : ℕ). greatest (header_refusal s x) count) e ∙ ap (greatest (header_refusal s (word s c))) q ∙ headers_none

  -- all blocks are among those that the chunk could hold
  pub count-whole : 0 < sh.channels → {w count : ℕ} → w ≡ length s / 4 → count ≡ min (block_count sh) (w / 2 + 1) → count ≡ block_count sh
  count-whole h {w} {count} we ce =
      ⊎_elim
      (λ (l : block_count sh ≤ length s / 4 / 2). omega arith)
      (λ (l : length s / 4 / 2 < block_count sh).
      let m = le-greatest (header_refusal s (word s 0)) (block_count sh) (length s / 4 / 2) l in
      let p = header-past s (word s 0) (length s / 4 / 2) (omega arith) in
      absurd (omega (arith, headers_none 0 h)))
      (within-or-past (block_count sh) (length s / 4 / 2))
