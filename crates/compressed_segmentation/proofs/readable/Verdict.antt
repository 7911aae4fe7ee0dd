-- The refusal found by headers and blocks is that of the voxels.
use Prim.Native.Nat.{ℕ, suc, ◌+◌, ◌*◌, ◌/◌, ◌%◌, ◌<◌, ◌≤◌}
use mathlib.Core.Path.{◌≡◌, refl, sym, ap, ◌∙◌}
use mathlib.Core.Bool.{Bool, true, false, true≢false}
use mathlib.Core.List.{List}
use mathlib.Core.Logic.{⊎_elim}
use native.Mathlib.Omega.{arith}
use lib.ListN.{length}
use borrow.Author.Tests.{eq-eqb, ne_eqb, lt-leb}
use Rattle.refusal.specs.Choice.{pick}
use Rattle.endian.proofs.Ranges.{any_hit, any-no}
use Rattle.compressed_segmentation.specs.declared.Shape.{Shape}
use Rattle.refusal.specs.Answers.{refuse}
use Rattle.compressed_segmentation.specs.Words.{word}
use Rattle.compressed_segmentation.specs.Layout.{no_voxels, outside_shape, across, down, deep, block_number, place_number, width_in, is_width}
use Rattle.compressed_segmentation.specs.Labels.{label_words, label_answer}
use Rattle.compressed_segmentation.specs.Steps.{value_answer, block_answer, channel_answer, voxel_answer}
use Rattle.compressed_segmentation.specs.block.Voxels.{refusal_in, Within, some_refused, chunk_refusal, AllReadable}
use Rattle.compressed_segmentation.specs.block.Checks.{greatest, inside_of, block_count, header_refusal, channel_headers, headers_refusal, place_refusal, row_refusal, layer_refusal, voxels_refusal, block_refusal, blocks_refusal}
use Rattle.compressed_segmentation.proofs.Stepwise.{stepwise}
use Rattle.compressed_segmentation.proofs.Shapes.{some-voxels, whole-yes, whole-no}
use Rattle.compressed_segmentation.proofs.block.Greatest.{within-or-past, le-greatest, greatest-le, greatest-at}
use Rattle.compressed_segmentation.proofs.readable.Offsets.{header_good_whole, header_good_width, channel-past, channel-within, channel-most, channel-least, each-whole, each_width, offset-whole, headers_none}
use Rattle.compressed_segmentation.proofs.block.Mild.{Mild, value_mild, greatest_mild, channel_mild, place-row, row_layer, layer_voxels, block-channel, channel_blocks, voxels-at, layer_at, row_at, channel-found, blocks_found}
use Rattle.compressed_segmentation.proofs.block.Inside.{voxel_in, voxel-block, voxel-place, block_in, place_in, number-below, number_column, number_layer, number_line, number-again, inside-x, inside-y, inside-z}

-- ---- one block by its header

module _ (s : List ℕ) (e o n m : ℕ) where
  block-whole : o + 2 * n + 2 ≤ length s / 4 → block_answer s e o n m ≡ pick (is_width (width_in (word s (o + 2 * n)))) (value_answer s e o (word s (o + 2 * n)) (word s (o + 2 * n + 1)) m) (refuse 29)
  unfolding block_answer
  block-whole h = rw (whole-yes s (o + 2 * n) 2 h)

  block-past : length s / 4 < o + 2 * n + 2 → block_answer s e o n m ≡ refuse 28
  unfolding block_answer
  block-past h = rw (whole-no s (o + 2 * n) 2 h)

  -- a refused header refuses its voxels
  block_refused : 0 < header_refusal s o n → refusal_in (block_answer s e o n m) ≡ header_refusal s o n
  unfolding header_refusal
  block_refused l = ⊎_elim inside (λ h. ap refusal_in (block-past h) ∙ rw (whole-no s (o + 2 * n) 2 h)) (within-or-past (o + 2 * n + 2) (length s / 4))
    where
      inside : o + 2 * n + 2 ≤ length s / 4 → refusal_in (block_answer s e o n m) ≡ header_refusal s o n
      inside h = go (is_width (width_in (word s (o + 2 * n)))) refl
        where
          go : (t : Bool) → is_width (width_in (word s (o + 2 * n))) ≡ t → refusal_in (block_answer s e o n m) ≡ header_refusal s o n
          go true q = absurd (omega (arith, rw (whole-yes s (o + 2 * n) 2 h, q) at l))
          go false q = (let g : block_answer s e o n m ≡ refuse 29 = block-whole h ∙ rw q in ap refusal_in g) ∙ rw (whole-yes s (o + 2 * n) 2 h, q)

  -- only a header without a width gives 29
  block-not_29 : header_refusal s o n ≤ 28 → refusal_in (block_answer s e o n m) ≡ 29 → ⊥
  unfolding header_refusal
  block-not_29 l f = ⊎_elim inside (λ h. omega (arith, ap refusal_in (block-past h))) (within-or-past (o + 2 * n + 2) (length s / 4))
    where
      inside : o + 2 * n + 2 ≤ length s / 4 → ⊥
      inside h = go (is_width (width_in (word s (o + 2 * n)))) refl
        where
          go : (t : Bool) → is_width (width_in (word s (o + 2 * n))) ≡ t → ⊥
          go true q =
              let b : block_answer s e o n m ≡ value_answer s e o (word s (o + 2 * n)) (word s (o + 2 * n + 1)) m = block-whole h ∙ rw q in
              let g = ap refusal_in b in
              ⊎_elim (λ a. omega arith) (λ a. omega arith) (value_mild s e o (word s (o + 2 * n)) (word s (o + 2 * n + 1)) m)
          go false q = omega (arith, rw (whole-yes s (o + 2 * n) 2 h, q) at l)

-- ---- a channel

module _ (s : List ℕ) (e c n m : ℕ) where
  channel-cut : length s / 4 ≤ c → channel_answer s e c n m ≡ refuse 28
  unfolding channel_answer
  channel-cut h = rw (whole-no s c 1 (omega arith))

  channel-whole : c < length s / 4 → channel_answer s e c n m ≡ block_answer s e (word s c) n m
  unfolding channel_answer
  channel-whole h = rw (whole-yes s c 1 (omega arith))

  -- what a label that is not refused says of its channel and its block
  channel-answers : refusal_in (channel_answer s e c n m) ≡ 0 → c < length s / 4
  channel-answers z =
      ⊎_elim (λ (h : suc c ≤ length s / 4). h) (λ (h : length s / 4 < suc c). absurd (omega (arith, ap refusal_in (channel-cut (omega arith)))))
      (within-or-past (suc c) (length s / 4))

  pub channel-whole-at : refusal_in (channel_answer s e c n m) ≡ 0 → c < length s / 4
  channel-whole-at = channel-answers

  block-answers : refusal_in (channel_answer s e c n m) ≡ 0 → header_refusal s (word s c) n ≡ 0
  block-answers z =
      ⊎_elim (λ (h : header_refusal s (word s c) n ≤ 0). omega arith)
      (λ (h : 0 < header_refusal s (word s c) n).
      absurd (omega (arith, block_refused s e (word s c) n m h, ap refusal_in (channel-whole (channel-answers z)))))
      (within-or-past (header_refusal s (word s c) n) 0)

  pub header-whole-at : refusal_in (channel_answer s e c n m) ≡ 0 → word s c + 2 * n + 2 ≤ length s / 4
  header-whole-at z = header_good_whole s (word s c) n (block-answers z)

  pub header-width-at : refusal_in (channel_answer s e c n m) ≡ 0 → is_width (width_in (word s (word s c + 2 * n))) ≡ true
  header-width-at z = header_good_width s (word s c) n (block-answers z)

  pub value-at : refusal_in (channel_answer s e c n m) ≡ 0 → channel_answer s e c n m ≡ value_answer s e (word s c) (word s (word s c + 2 * n)) (word s (word s c + 2 * n + 1)) m
  value-at z = channel-whole (channel-answers z) ∙ block-whole s e (word s c) n m (header-whole-at z) ∙ rw (header-width-at z)

  channel-values : (refusal_in (channel_answer s e c n m) ≡ 28 → ⊥) → (refusal_in (channel_answer s e c n m) ≡ 29 → ⊥) → refusal_in (channel_answer s e c n m) ≡ 0
  channel-values a b = ⊎_elim whole-case (λ (h : length s / 4 < suc c). absurd (a (ap refusal_in (channel-cut (omega arith))))) (within-or-past (suc c) (length s / 4))
    where
      whole-case : suc c ≤ length s / 4 → refusal_in (channel_answer s e c n m) ≡ 0
      whole-case h =
          let q = ap refusal_in (channel-whole h) in
          ⊎_elim
          (λ (l : word s c + 2 * n + 2 ≤ length s / 4). go h l (is_width (width_in (word s (word s c + 2 * n)))) refl)
          (λ l. absurd (a (q ∙ ap refusal_in (block-past s e (word s c) n m l))))
          (within-or-past (word s c + 2 * n + 2) (length s / 4))
        where
          go : suc c ≤ length s / 4 → word s c + 2 * n + 2 ≤ length s / 4 → (t : Bool) → is_width (width_in (word s (word s c + 2 * n))) ≡ t → refusal_in (channel_answer s e c n m) ≡ 0
          go h l true t =
              let v : channel_answer s e c n m ≡ value_answer s e (word s c) (word s (word s c + 2 * n)) (word s (word s c + 2 * n + 1)) m = channel-whole h ∙ block-whole s e (word s c) n m l ∙ rw t in
              ⊎_elim (λ x. ap refusal_in v ∙ x) (λ x. absurd (a (ap refusal_in v ∙ x))) (value_mild s e (word s c) (word s (word s c + 2 * n)) (word s (word s c + 2 * n + 1)) m)
          go h l false t =
              let v : channel_answer s e c n m ≡ refuse 29 = channel-whole h ∙ block-whole s e (word s c) n m l ∙ rw t in
              absurd (b (ap refusal_in v))

-- ---- all voxels

module _ (s : List ℕ) (sh : Shape) where
  pub some-yes : (k x y z c : ℕ) → Within sh x y z c → refusal_in (label_answer s sh x y z c) ≡ k → some_refused k s sh ≡ true
  unfolding some_refused
  some-yes k x y z c r e =
      any_hit _ _ c r.in_c (any_hit _ _ z r.in_z (any_hit _ _ y r.in_y (any_hit _ _ x r.in_x (eq-eqb _ _ e))))

  some-no : (k : ℕ) → ((x y z c : ℕ) → Within sh x y z c → refusal_in (label_answer s sh x y z c) ≡ k → ⊥) → some_refused k s sh ≡ false
  unfolding some_refused
  some-no k g =
      any-no _ _ (λ c ch. any-no _ _ (λ z zh. any-no _ _ (λ y yh. any-no _ _ (λ x xh.
      ne_eqb _ _ (λ e. g x y z c (record { in_x = xh; in_y = yh; in_z = zh; in_c = ch }) e)))))

  module _ (h : no_voxels sh ≡ false) where
    answer_in : (x y z c : ℕ) → Within sh x y z c → label_answer s sh x y z c ≡ voxel_answer s sh x y z c
    unfolding outside_shape
    answer_in x y z c r = stepwise s sh x y z c ∙ rw (h, lt-leb _ _ r.in_x, lt-leb _ _ r.in_y, lt-leb _ _ r.in_z, lt-leb _ _ r.in_c)

    -- a voxel of block n is one of the chunk's
    block-voxel : (k c n w v u : ℕ) → c < sh.channels → u < (inside_of sh n).x → v < (inside_of sh n).y → w < (inside_of sh n).z
        → refusal_in (channel_answer s (label_words sh.wide) c n (u + sh.block.x * (v + sh.block.y * w))) ≡ k → some_refused k s sh ≡ true
    unfolding inside_of voxel_answer block_number place_number
    block-voxel k c n w v u ch uh vh wh e =
        let p = some-voxels sh h in
        let i = n % across sh in
        let j = n / across sh % down sh in
        let l = n / across sh / down sh in
        let x = sh.block.x * i + u in
        let y = sh.block.y * j + v in
        let z = sh.block.z * l + w in
        let r : Within sh x y z c = record {
          in_x = voxel_in sh.extents.x sh.block.x p.bx i u uh;
          in_y = voxel_in sh.extents.y sh.block.y p.by j v vh;
          in_z = voxel_in sh.extents.z sh.block.z p.bz l w wh;
          in_c = ch;
        } in
        let bx = voxel-block sh.extents.x sh.block.x p.bx i u uh in
        let by = voxel-block sh.extents.y sh.block.y p.by j v vh in
        let bz = voxel-block sh.extents.z sh.block.z p.bz l w wh in
        let px = voxel-place sh.extents.x sh.block.x p.bx i u uh in
        let py = voxel-place sh.extents.y sh.block.y p.by j v vh in
        let pz = voxel-place sh.extents.z sh.block.z p.bz l w wh in
        let nn : x / sh.block.x + across sh * (y / sh.block.y + down sh * (z / sh.block.z)) ≡ n = cc (number-again (across sh) (down sh) n) in
        let mm : x % sh.block.x + sh.block.x * (y % sh.block.y + sh.block.y * (z % sh.block.z)) ≡ u + sh.block.x * (v + sh.block.y * w) = cc in
        some-yes k x y z c r (ap refusal_in (answer_in x y z c r ∙ ap (λ (q : ℕ). channel_answer s (label_words sh.wide) c q (place_number sh x y z)) nn ∙ ap (channel_answer s (label_words sh.wide) c n) mm) ∙ e)

    -- every voxel is one of its block's
    module _ (x y z c : ℕ) (r : Within sh x y z c) where
      pub answer-block : label_answer s sh x y z c ≡ channel_answer s (label_words sh.wide) c (block_number sh x y z) (place_number sh x y z)
      unfolding voxel_answer
      answer-block = answer_in x y z c r

      column : x / sh.block.x < across sh
      column = block_in sh.extents.x sh.block.x (some-voxels sh h).bx x r.in_x

      line : y / sh.block.y < down sh
      line = block_in sh.extents.y sh.block.y (some-voxels sh h).by y r.in_y

      layer : z / sh.block.z < deep sh
      layer = block_in sh.extents.z sh.block.z (some-voxels sh h).bz z r.in_z

      block-counted : block_number sh x y z < block_count sh
      unfolding block_number block_count
      block-counted = number-below _ _ _ _ _ _ column line layer

      place-x : x % sh.block.x < (inside_of sh (block_number sh x y z)).x
      unfolding block_number inside_of
      place-x =
          let e = number_column (across sh) (down sh) (deep sh) (x / sh.block.x) (y / sh.block.y) (z / sh.block.z) column line in
          rw e (place_in sh.extents.x sh.block.x (some-voxels sh h).bx x r.in_x)

      place-y : y % sh.block.y < (inside_of sh (block_number sh x y z)).y
      unfolding block_number inside_of
      place-y =
          let e = number_line (across sh) (down sh) (deep sh) (x / sh.block.x) (y / sh.block.y) (z / sh.block.z) column line in
          rw e (place_in sh.extents.y sh.block.y (some-voxels sh h).by y r.in_y)

      place-z : z % sh.block.z < (inside_of sh (block_number sh x y z)).z
      unfolding block_number inside_of
      place-z =
          let e = number_layer (across sh) (down sh) (deep sh) (x / sh.block.x) (y / sh.block.y) (z / sh.block.z) column line in
          rw e (place_in sh.extents.z sh.block.z (some-voxels sh h).bz z r.in_z)

    -- ---- by headers

    some_block : 0 < block_count sh
    some_block =
        let p = some-voxels sh h in
        let b = block-counted 0 0 0 0 (record { in_x = p.ex; in_y = p.ey; in_z = p.ez; in_c = p.ch }) in
        omega arith

    headers_some : (k : ℕ) → k ≡ headers_refusal s sh → 0 < k → some_refused k s sh ≡ true
    unfolding headers_refusal
    headers_some k e l = ⊎_elim inside cut (within-or-past (suc c) (length s / 4))
      where
        at : (c : ℕ) × (c < sh.channels) × (channel_headers s (block_count sh) c ≡ greatest (channel_headers s (block_count sh)) sh.channels)
        at = greatest-at (channel_headers s (block_count sh)) sh.channels (omega arith)

        c : ℕ
        c = at.0

        voxel : (n : ℕ) → n < block_count sh → refusal_in (channel_answer s (label_words sh.wide) c n (0 + sh.block.x * (0 + sh.block.y * 0))) ≡ k → some_refused k s sh ≡ true
        voxel n b q = block-voxel k c n 0 0 0 at.1 (inside-x sh h n b) (inside-y sh h n b) (inside-z sh h n b) q

        cut : length s / 4 < suc c → some_refused k s sh ≡ true
        cut b =
            let q = channel-past s (block_count sh) c (omega arith) in
            let z : 28 ≡ k = omega (arith, at.2) in
            voxel 0 some_block (ap refusal_in (channel-cut s (label_words sh.wide) c 0 _ (omega arith)) ∙ z)

        inside : suc c ≤ length s / 4 → some_refused k s sh ≡ true
        inside b =
            let q = channel-within s (block_count sh) c b in
            let a = greatest-at (header_refusal s (word s c)) (block_count sh) (omega (arith, at.2)) in
            let z : header_refusal s (word s c) a.0 ≡ k = omega (arith, at.2, a.2) in
            voxel a.0 a.1 (ap refusal_in (channel-whole s (label_words sh.wide) c a.0 _ b) ∙ block_refused s (label_words sh.wide) (word s c) a.0 _ (omega arith) ∙ z)

    no_29 : headers_refusal s sh ≤ 28 → some_refused 29 s sh ≡ false
    unfolding headers_refusal
    no_29 l = some-no 29 (λ x y z c r e.
        let n = block_number sh x y z in
        let m = place_number sh x y z in
        let w = label_words sh.wide in
        let f = sym e ∙ ap refusal_in (answer-block x y z c r) in
        let g = le-greatest (channel_headers s (block_count sh)) sh.channels c r.in_c in
        ⊎_elim
        (λ (b : suc c ≤ length s / 4).
        let q = channel-within s (block_count sh) c b in
        let a = le-greatest (header_refusal s (word s c)) (block_count sh) n (block-counted x y z c r) in
        block-not_29 s w (word s c) n m (omega arith) (sym (f ∙ ap refusal_in (channel-whole s w c n m b))))
        (λ (b : length s / 4 < suc c). omega (arith, f ∙ ap refusal_in (channel-cut s w c n m (omega arith))))
        (within-or-past (suc c) (length s / 4)))

    -- ---- by voxels, where no header is refused

    module _ (none : headers_refusal s sh ≡ 0) where
      answer_good : (c n m : ℕ) → c < sh.channels → n < block_count sh
          → channel_answer s (label_words sh.wide) c n m ≡ value_answer s (label_words sh.wide) (word s c) (word s (word s c + 2 * n)) (word s (word s c + 2 * n + 1)) m
      answer_good c n m ch nh =
          let z = headers_none s sh none c ch in
          channel-whole s (label_words sh.wide) c n m (offset-whole s sh none c ch)
          ∙ block-whole s (label_words sh.wide) (word s c) n m (each-whole s (word s c) (block_count sh) n z nh)
          ∙ rw (each_width s (word s c) (block_count sh) n z nh)

      module _ (c n : ℕ) where
        block-is : block_refusal s sh (word s c) n
            ≡ voxels_refusal s (label_words sh.wide) (word s c) (word s (word s c + 2 * n)) (word s (word s c + 2 * n + 1)) sh.block (inside_of sh n)
        unfolding block_refusal
        block-is = refl

        place_is : (w v u : ℕ) → c < sh.channels → n < block_count sh
            → refusal_in (channel_answer s (label_words sh.wide) c n (u + sh.block.x * (v + sh.block.y * w)))
            ≡ place_refusal s (label_words sh.wide) (word s c) (word s (word s c + 2 * n)) (word s (word s c + 2 * n + 1)) sh.block w v u
        unfolding place_refusal
        place_is w v u ch nh = ap refusal_in (answer_good c n _ ch nh)

      -- a place, a row, a layer and a block that are refused with k
      module _ (k c n : ℕ) (ch : c < sh.channels) (nh : n < block_count sh) (l : 0 < k) where
        place-some : (w v u : ℕ) → u < (inside_of sh n).x → v < (inside_of sh n).y → w < (inside_of sh n).z
            → place_refusal s (label_words sh.wide) (word s c) (word s (word s c + 2 * n)) (word s (word s c + 2 * n + 1)) sh.block w v u ≡ k → some_refused k s sh ≡ true
        place-some w v u uh vh wh q = block-voxel k c n w v u ch uh vh wh (place_is c n w v u ch nh ∙ q)

        row-some : (w v : ℕ) → v < (inside_of sh n).y → w < (inside_of sh n).z
            → row_refusal s (label_words sh.wide) (word s c) (word s (word s c + 2 * n)) (word s (word s c + 2 * n + 1)) sh.block (inside_of sh n) w v ≡ k → some_refused k s sh ≡ true
        row-some w v vh wh q =
            let u = row_at s (label_words sh.wide) (word s c) (word s (word s c + 2 * n)) (word s (word s c + 2 * n + 1)) sh.block (inside_of sh n) w v (omega arith) in
            place-some w v u.0 u.1 vh wh (u.2 ∙ q)

        layer_some : (w : ℕ) → w < (inside_of sh n).z → layer_refusal s (label_words sh.wide) (word s c) (word s (word s c + 2 * n)) (word s (word s c + 2 * n + 1)) sh.block (inside_of sh n) w ≡ k → some_refused k s sh ≡ true
        layer_some w wh q =
            let v = layer_at s (label_words sh.wide) (word s c) (word s (word s c + 2 * n)) (word s (word s c + 2 * n + 1)) sh.block (inside_of sh n) w (omega arith) in
            row-some w v.0 v.1 wh (v.2 ∙ q)

        block-some : block_refusal s sh (word s c) n ≡ k → some_refused k s sh ≡ true
        block-some q =
            let e = sym (block-is c n) ∙ q in
            let w = voxels-at s (label_words sh.wide) (word s c) (word s (word s c + 2 * n)) (word s (word s c + 2 * n + 1)) sh.block (inside_of sh n) (omega arith) in
            layer_some w.0 w.1 (w.2 ∙ e)

      blocks_some : (k : ℕ) → k ≡ blocks_refusal s sh → 0 < k → some_refused k s sh ≡ true
      blocks_some k e l =
          let c = blocks_found s sh (omega arith) in
          let n = channel-found s sh c.0 (omega (arith, c.2)) in
          block-some k c.0 n.0 c.1 n.1 l (n.2 ∙ c.2 ∙ sym e)

      no_28 : 0 ≡ blocks_refusal s sh → some_refused 28 s sh ≡ false
      unfolding place_number
      no_28 q = some-no 28 (λ x y z c r e.
          let n = block_number sh x y z in
          let bc = block-counted x y z c r in
          let f = place_is c n (z % sh.block.z) (y % sh.block.y) (x % sh.block.x) r.in_c bc in
          let g = sym (ap refusal_in (answer-block x y z c r)) ∙ e in
          let i = block-is c n in
          let a1 = place-row s (label_words sh.wide) (word s c) (word s (word s c + 2 * n)) (word s (word s c + 2 * n + 1)) sh.block (inside_of sh n) (z % sh.block.z) (y % sh.block.y) (x % sh.block.x) (place-x x y z c r) in
          let a2 = row_layer s (label_words sh.wide) (word s c) (word s (word s c + 2 * n)) (word s (word s c + 2 * n + 1)) sh.block (inside_of sh n) (z % sh.block.z) (y % sh.block.y) (place-y x y z c r) in
          let a3 = layer_voxels s (label_words sh.wide) (word s c) (word s (word s c + 2 * n)) (word s (word s c + 2 * n + 1)) sh.block (inside_of sh n) (z % sh.block.z) (place-z x y z c r) in
          let a4 = block-channel s sh c n bc in
          let a5 = channel_blocks s sh c r.in_c in
          omega arith)

      blocks_values : Mild (blocks_refusal s sh)
      unfolding blocks_refusal
      blocks_values = greatest_mild _ (channel_mild s sh) _

    -- ---- what is answered

    pub verdict_headers : (k : ℕ) → k ≡ headers_refusal s sh → 0 < k → k ≡ chunk_refusal s sh
    unfolding chunk_refusal headers_refusal
    verdict_headers k e l =
        let t = headers_some k e l in
        let at = greatest-at (channel_headers s (block_count sh)) sh.channels (omega arith) in
        let low = channel-least s (block_count sh) at.0 (omega (arith, at.2)) in
        let top = greatest-le (channel_headers s (block_count sh)) sh.channels 29 (λ i b. channel-most s (block_count sh) i) in
        ⊎_elim
        (λ (b : k ≤ 28).
        let z : k ≡ 28 = omega (arith, at.2) in
        rw (no_29 (omega arith), ap (λ (x : ℕ). some_refused x s sh) (sym z) ∙ t) z)
        (λ (b : 28 < k). let z : k ≡ 29 = omega (arith, at.2) in rw (ap (λ (x : ℕ). some_refused x s sh) (sym z) ∙ t) z)
        (within-or-past k 28)

    pub verdict_blocks : (h k : ℕ) → h ≡ headers_refusal s sh → h ≤ 0 → k ≡ blocks_refusal s sh → k ≡ chunk_refusal s sh
    unfolding chunk_refusal
    verdict_blocks h k he hz e =
        let z : headers_refusal s sh ≡ 0 = omega arith in
        let n = no_29 (omega arith) in
        ⊎_elim
        (λ b. let y : 0 ≡ blocks_refusal s sh = sym b in rw (n, no_28 z y) (e ∙ b))
        (λ b. let t = blocks_some z 28 (sym b) (omega arith) in rw (n, t) (e ∙ b))
        (blocks_values z)

    -- ---- where nothing is refused

    none_of : (k x y z c : ℕ) → some_refused k s sh ≡ false → Within sh x y z c → refusal_in (label_answer s sh x y z c) ≡ k → ⊥
    none_of k x y z c f r e = true≢false (sym (some-yes k x y z c r e) ∙ f)

    neither-some : chunk_refusal s sh ≡ 0 → (some_refused 29 s sh ≡ false) × (some_refused 28 s sh ≡ false)
    unfolding chunk_refusal
    neither-some z = go (some_refused 29 s sh) refl (some_refused 28 s sh) refl
      where
        go : (a : Bool) → some_refused 29 s sh ≡ a → (b : Bool) → some_refused 28 s sh ≡ b → (some_refused 29 s sh ≡ false) × (some_refused 28 s sh ≡ false)
        go true p b q = absurd (omega (arith, rw p at z))
        go false p true q = absurd (omega (arith, rw (p, q) at z))
        go false p false q = (p, q)

    pub all-readable : {k : ℕ} → k ≡ chunk_refusal s sh → k ≤ 0 → AllReadable s sh
    all-readable {k} e l =
        let n = neither-some (omega arith) in
        record {
          answer = λ x y z c r.
              let q = ap refusal_in (answer-block x y z c r) in
              q ∙ channel-values s (label_words sh.wide) c (block_number sh x y z) (place_number sh x y z)
              (λ b. none_of 28 x y z c n.1 r (q ∙ b)) (λ b. none_of 29 x y z c n.0 r (q ∙ b));
        }
