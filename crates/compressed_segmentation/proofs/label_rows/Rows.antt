-- Writing a row of voxels, run by run.
use Prim.Native.Nat.{ℕ, ◌+◌, ◌-◌, ◌*◌, ◌/◌, ◌<◌, ◌≤◌, min}
use mathlib.Core.Path.{◌≡◌, sym, ap, ◌∙◌}
use mathlib.Core.Bool.{true, false}
use mathlib.Core.List.{List}
use native.Mathlib.Omega.{arith}
use native.Mathlib.Nat.{mul_comm, mul-add, mul-one}
use lib.ListN.{length}
use mir.Syntax.{w64}
use mir.Val.{Fits}
use Rattle.endian.specs.Little.{le}
use Rattle.endian.specs.Place.{paste}
use Rattle.endian.proofs.Little.{length-le}
use Rattle.morton.specs.grid.Grid.{grid_size}
use Rattle.morton.proofs.grid.Covers.{grid-size_reaches, cell-begins-inside}
use native.Mathlib.Nat.{mul-zero}
use Rattle.compressed_segmentation.specs.declared.Shape.{Shape}
use Rattle.refusal.specs.Answers.{Answer}
use Rattle.compressed_segmentation.specs.Words.{word}
use Rattle.compressed_segmentation.specs.Layout.{no_voxels, across, block_number, place_number, width_in, is_width}
use Rattle.compressed_segmentation.specs.Labels.{label_words, label_answer}
use Rattle.compressed_segmentation.specs.Steps.{value_answer, channel_answer}
use Rattle.compressed_segmentation.specs.raw_form.Raw.{concat_to, label_in, label_bytes, raw_voxel, raw_row}
use Rattle.compressed_segmentation.specs.block.Voxels.{refusal_in, Within}
use Rattle.compressed_segmentation.specs.block.Checks.{span}
use Rattle.compressed_segmentation.specs.raw_form.Writing.{Row, HeadersAt, raw_run, run_voxel, ReadableRun, block_row, place_row, row_bytes}
use Rattle.compressed_segmentation.proofs.Shapes.{some-voxels}
use Rattle.compressed_segmentation.proofs.block.Inside.{span-some, voxel_in, voxel-block, voxel-place, across-some}
use Rattle.compressed_segmentation.proofs.readable.Verdict.{answer-block, channel-whole-at, header-whole-at, header-width-at, value-at}
use Rattle.compressed_segmentation.proofs.raw_form.Filled.{Filled, filled_start, filled_by, filled_room, filled_place, filled_end, joined_same}

module _ (s : List ℕ) (sh : Shape) (c z y : ℕ) (row : Row s sh c z y) where
  h : no_voxels sh ≡ false
  h = row.some

  -- the voxels of the run in block i
  module _ (i : ℕ) (ih : i < across sh) where
    module _ (u : ℕ) (uh : u < span sh.extents.x sh.block.x i) where
      inside : Within sh (sh.block.x * i + u) y z c
      inside = record { in_x = voxel_in sh.extents.x sh.block.x (some-voxels sh h).bx i u uh; in_y = row.in_y; in_z = row.in_z; in_c = row.in_c }

      answer_run : label_answer s sh (sh.block.x * i + u) y z c ≡ channel_answer s (label_words sh.wide) c (i + across sh * block_row sh z y) (u + sh.block.x * place_row sh z y)
      unfolding block_number place_number
      answer_run =
          let a = voxel-block sh.extents.x sh.block.x (some-voxels sh h).bx i u uh in
          let b = voxel-place sh.extents.x sh.block.x (some-voxels sh h).bx i u uh in
          answer-block s sh h (sh.block.x * i + u) y z c inside
          ∙ ap (λ (q : ℕ). channel_answer s (label_words sh.wide) c (q + across sh * block_row sh z y) (place_number sh (sh.block.x * i + u) y z)) a
          ∙ ap (λ (q : ℕ). channel_answer s (label_words sh.wide) c (i + across sh * block_row sh z y) (q + sh.block.x * place_row sh z y)) b

      answered : refusal_in (channel_answer s (label_words sh.wide) c (i + across sh * block_row sh z y) (u + sh.block.x * place_row sh z y)) ≡ 0
      answered = ap refusal_in (sym answer_run) ∙ row.all.answer _ y z c inside

      value_run : label_answer s sh (sh.block.x * i + u) y z c
          ≡ value_answer s (label_words sh.wide) (word s c) (word s (word s c + 2 * (i + across sh * block_row sh z y))) (word s (word s c + 2 * (i + across sh * block_row sh z y) + 1)) (u + sh.block.x * place_row sh z y)
      value_run = answer_run ∙ value-at s (label_words sh.wide) c (i + across sh * block_row sh z y) (u + sh.block.x * place_row sh z y) answered

    first-in : 0 < span sh.extents.x sh.block.x i
    first-in = span-some sh.extents.x sh.block.x (some-voxels sh h).bx i ih

    pub run_some : {count : ℕ} → count ≡ span sh.extents.x sh.block.x i → 0 < count
    run_some e = omega (arith, first-in)

    block-whole : word s c + 2 * (i + across sh * block_row sh z y) + 2 ≤ length s / 4
    block-whole = header-whole-at s (label_words sh.wide) c _ _ (answered 0 first-in)

    block-width : is_width (width_in (word s (word s c + 2 * (i + across sh * block_row sh z y)))) ≡ true
    block-width = header-width-at s (label_words sh.wide) c _ _ (answered 0 first-in)

    offset-in : c < length s / 4
    offset-in = channel-whole-at s (label_words sh.wide) c _ _ (answered 0 first-in)

    -- what the code holds of it
    module _ {o headers first second high count : ℕ} (oe : o ≡ word s c) (he : HeadersAt s sh c z y headers)
        (fe : first ≡ word s (headers + 2 * i)) (se : second ≡ word s (headers + 2 * i + 1)) (ge : high ≡ place_row sh z y) (ce : count ≡ span sh.extents.x sh.block.x i) where
      head-place : headers + 2 * i ≡ word s c + 2 * (i + across sh * block_row sh z y)
      head-place = omega (arith, he.place)

      first-is : first ≡ word s (word s c + 2 * (i + across sh * block_row sh z y))
      first-is = fe ∙ ap (word s) head-place

      second_is : second ≡ word s (word s c + 2 * (i + across sh * block_row sh z y) + 1)
      second_is = se ∙ ap (λ (x : ℕ). word s (x + 1)) head-place

      pub run_width : is_width (width_in first) ≡ true
      run_width = ap (λ (x : ℕ). is_width (width_in x)) first-is ∙ block-width

      run_value : (u : ℕ) → u < count → label_answer s sh (sh.block.x * i + u) y z c ≡ value_answer s (label_words sh.wide) o first second (u + sh.block.x * high)
      run_value u uh = value_run u (omega arith) ∙ sym
          (ap (λ (q : ℕ). value_answer s (label_words sh.wide) q first second (u + sh.block.x * high)) oe
          ∙ ap (λ (q : ℕ). value_answer s (label_words sh.wide) (word s c) q second (u + sh.block.x * high)) first-is
          ∙ ap (λ (q : ℕ). value_answer s (label_words sh.wide) (word s c) (word s (word s c + 2 * (i + across sh * block_row sh z y))) q (u + sh.block.x * high)) second_is
          ∙ ap (λ (q : ℕ). value_answer s (label_words sh.wide) (word s c) (word s (word s c + 2 * (i + across sh * block_row sh z y))) (word s (word s c + 2 * (i + across sh * block_row sh z y) + 1)) (u + sh.block.x * q)) ge)

      pub run_readable : ReadableRun s (label_words sh.wide) o first second sh.block.x high count
      run_readable =
          record { label = λ u uh. ap refusal_in (sym (run_value u uh)) ∙ row.all.answer _ y z c (inside u (omega arith)) }

      run_same : (u : ℕ) → u < count → run_voxel s (label_words sh.wide) o first second sh.block.x high u ≡ raw_voxel s sh c z y (sh.block.x * i + u)
      unfolding run_voxel raw_voxel
      run_same u uh = ap (λ (a : Answer ℕ). le (label_bytes sh) (label_in a)) (sym (run_value u uh))

      pub run_written : (at : ℕ) (d : List ℕ) {g : List ℕ} → g ≡ paste at (concat_to (run_voxel s (label_words sh.wide) o first second sh.block.x high) count) d → g ≡ paste at (raw_run s sh c z y i) d
      unfolding raw_run
      run_written at d w =
          w ∙ ap (λ (l : List ℕ). paste at l d)
          (joined_same (run_voxel s (label_words sh.wide) o first second sh.block.x high) (λ u. raw_voxel s sh c z y (sh.block.x * i + u)) count run_same
          ∙ ap (concat_to (λ u. raw_voxel s sh c z y (sh.block.x * i + u))) ce)

    -- ---- one run more of the row is written
    module _ {at : ℕ} {d e : List ℕ} {p : ℕ} (f : Filled (raw_voxel s sh c z y) (label_bytes sh) sh.extents.x at d (min sh.extents.x (sh.block.x * i)) p e) where
      begins : min sh.extents.x (sh.block.x * i) ≡ sh.block.x * i
      begins =
          let l = cell-begins-inside sh.extents.x sh.block.x (some-voxels sh h).bx i ih in
          omega (arith, mul_comm sh.block.x i)

      ends : sh.block.x * i + span sh.extents.x sh.block.x i ≡ min sh.extents.x (sh.block.x * (i + 1))
      unfolding span
      ends =
          let l = cell-begins-inside sh.extents.x sh.block.x (some-voxels sh h).bx i ih in
          omega (arith, mul_comm sh.block.x i, mul-add sh.block.x i 1, mul-one sh.block.x)

      room-on : p + span sh.extents.x sh.block.x i * label_bytes sh ≤ length e
      room-on = filled_room f (span sh.extents.x sh.block.x i) (omega (arith, begins, ends))

      run_on : {q : ℕ} {g : List ℕ} → q ≡ p + span sh.extents.x sh.block.x i * label_bytes sh → g ≡ paste p (raw_run s sh c z y i) e
          → Filled (raw_voxel s sh c z y) (label_bytes sh) sh.extents.x at d (min sh.extents.x (sh.block.x * (i + 1))) q g
      unfolding raw_run
      run_on {q} {g} qe w =
          let x = min sh.extents.x (sh.block.x * i) in
          let count = span sh.extents.x sh.block.x i in
          let b = begins in
          let j = joined_same (λ u. raw_voxel s sh c z y (sh.block.x * i + u)) (λ u. raw_voxel s sh c z y (x + u)) count (λ u uh. ap (λ (v : ℕ). raw_voxel s sh c z y (v + u)) (sym b)) in
          let r = filled_by f count (omega (arith, begins, ends)) qe (w ∙ ap (λ (l : List ℕ). paste p l e) j) in
          let a : x + count ≡ min sh.extents.x (sh.block.x * (i + 1)) = omega (arith, begins, ends) in
          rw a at r

  -- ---- the headers of the row

  pub row-some : no_voxels sh ≡ false
  row-some = h

  pub row-offset : c < length s / 4
  row-offset = offset-in 0 (across-some sh h)

  headers_in : word s c + 2 * (across sh * block_row sh z y) + 2 * across sh ≤ length s / 4
  headers_in =
      let a = across-some sh h in
      omega (arith, block-whole (across sh - 1) (omega arith))

  module _ {g d line : ℕ} (ge : g ≡ grid_size sh.extents.x sh.block.x) (de : d ≡ grid_size sh.extents.y sh.block.y) (re : line ≡ y / sh.block.y + d * (z / sh.block.z)) where
    product_is : g * line ≡ across sh * block_row sh z y
    product_is = cc

    pub headers_product : Fits w64 (length s) → Fits w64 (g * line)
    headers_product f = omega (arith, product_is, headers_in)

    pub headers_twice : Fits w64 (length s) → Fits w64 (2 * (g * line))
    headers_twice f = omega (arith, product_is, headers_in)

    module _ {o : ℕ} (oe : o ≡ word s c) where
      pub headers_sum : Fits w64 (length s) → Fits w64 (o + 2 * (g * line))
      headers_sum f = omega (arith, product_is, headers_in)

      pub headers_are : HeadersAt s sh c z y (o + 2 * (g * line))
      headers_are = record { place = omega (arith, product_is); end = omega (arith, product_is, headers_in) }

-- ---- a turn of the loop, and its ends

module _ (s : List ℕ) (sh : Shape) (c z y : ℕ) (row : Row s sh c z y) {a i : ℕ} (ae : a ≡ across sh) (ih : i < a) {at : ℕ} {d e : List ℕ} {p : ℕ}
    (f : Filled (raw_voxel s sh c z y) (label_bytes sh) sh.extents.x at d (min sh.extents.x (sh.block.x * i)) p e) where
  pub row_room : p + span sh.extents.x sh.block.x i * label_bytes sh ≤ length e
  row_room = room-on s sh c z y row i (omega arith) f

  pub row_on : {q : ℕ} {g : List ℕ} → q ≡ p + span sh.extents.x sh.block.x i * label_bytes sh → g ≡ paste p (raw_run s sh c z y i) e
      → Filled (raw_voxel s sh c z y) (label_bytes sh) sh.extents.x at d (min sh.extents.x (sh.block.x * (i + 1))) q g
  row_on qe w = run_on s sh c z y row i (omega arith) f qe w

module _ (s : List ℕ) (sh : Shape) (c z y : ℕ) where
  voxel-each : (x : ℕ) → length (raw_voxel s sh c z y x) ≡ label_bytes sh
  unfolding raw_voxel
  voxel-each x = length-le (label_bytes sh) _

  pub row-start : {at : ℕ} {d : List ℕ} → at + row_bytes sh ≤ length d → Filled (raw_voxel s sh c z y) (label_bytes sh) sh.extents.x at d (min sh.extents.x (sh.block.x * 0)) at d
  row-start {at} {d} h =
      let r : Filled (raw_voxel s sh c z y) (label_bytes sh) sh.extents.x at d 0 at d = filled_start voxel-each h in
      let a : 0 ≡ min sh.extents.x (sh.block.x * 0) = omega (arith, mul-zero sh.block.x) in
      rw a at r

  module _ {at i p g : ℕ} {d e : List ℕ} (h : Row s sh c z y) (f : Filled (raw_voxel s sh c z y) (label_bytes sh) sh.extents.x at d (min sh.extents.x (sh.block.x * i)) p e) (ge : g ≡ across sh) (l : g ≤ i) where
    reached : sh.extents.x ≤ min sh.extents.x (sh.block.x * i)
    reached =
        let r = grid-size_reaches sh.extents.x sh.block.x (some-voxels sh h.some).bx i (omega arith) in
        omega (arith, mul_comm sh.block.x i)

    pub row-place : p ≡ at + row_bytes sh
    row-place = filled_place f reached

    pub row_done : e ≡ paste at (raw_row s sh c z y) d
    unfolding raw_row
    row_done = filled_end f reached
