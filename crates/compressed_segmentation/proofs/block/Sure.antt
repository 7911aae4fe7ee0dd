-- A block whose last packed word is whole: its runs, and no refused voxel where its table is whole for every value of its width.
use Prim.Native.Nat.{ℕ, ◌+◌, ◌-◌, ◌*◌, ◌/◌, ◌^◌, ◌<◌, ◌≤◌, min}
use mathlib.Core.Path.{◌≡◌, ap, ◌∙◌}
use mathlib.Core.Bool.{Bool, true, false}
use mathlib.Core.List.{List}
use native.Mathlib.Omega.{arith}
use native.Mathlib.Nat.{mul-le-mul_left, mul-le-mul, mod-lt, le-div_iff_mul-le, div-mul-le_self, le_antisymm}
use lib.Dec.{eqb, ltb}
use lib.Pow.{pow_pos}
use lib.ListN.{length}
use mir.Syntax.{w64}
use mir.Val.{Fits}
use borrow.Author.Tests.{ne_eqb, ltb-true, ltb-false}
use Rattle.morton.specs.declared.grid.Extents.{Extents}
use Rattle.compressed_segmentation.specs.Layout.{width_in, table_in}
use Rattle.compressed_segmentation.specs.Steps.{value_answer}
use Rattle.compressed_segmentation.specs.Labels.{label_words, value_in}
use Rattle.compressed_segmentation.specs.block.Voxels.{refusal_in}
use Rattle.compressed_segmentation.specs.block.Checks.{greatest, Packed, Reached, whole_entries_of, run_refusal, place_refusal, row_refusal, layer_refusal, voxels_refusal}
use Rattle.compressed_segmentation.proofs.Shapes.{whole-yes, whole-no}
use Rattle.compressed_segmentation.proofs.block.Greatest.{greatest-le}
use Rattle.compressed_segmentation.proofs.block.Mild.{row_hit, layer_hit, voxels_hit}
use Rattle.compressed_segmentation.proofs.block.Runs.{label-some, entry-within}

quotient_grows : (m n p : ℕ) → 0 < p → m ≤ n → m / p ≤ n / p
quotient_grows m n p h l = (le-div_iff_mul-le h).1 (omega (arith, div-mul-le_self m p))

-- the number of the last voxel inside
abbrev last_place : Extents → Extents → ℕ
last_place b inside = inside.x - 1 + b.x * (inside.y - 1 + b.y * (inside.z - 1))

module _ (s : List ℕ) (o first second : ℕ) (b inside : Extents) (r : Reached s o first second b inside) where
  within-last : (w v u : ℕ) → u < inside.x → v < inside.y → w < inside.z → u + b.x * (v + b.y * w) ≤ last_place b inside
  within-last w v u uh vh wh =
      let a = mul-le-mul_left {m = w} {n = inside.z - 1} b.y (omega arith) in
      let c = mul-le-mul_left {m = v + b.y * w} {n = inside.y - 1 + b.y * (inside.z - 1)} b.x (omega arith) in
      omega arith

  packed-at : (m : ℕ) → m ≤ last_place b inside → o + second + m * width_in first / 32 < length s / 4
  packed-at m h =
      let same : width_in first ≤ width_in first = omega arith in
      let l = mul-le-mul h same in
      let q = quotient_grows (m * width_in first) (last_place b inside * width_in first) 32 (omega arith) l in
      omega (arith, r.last)

  pub row-packed : (w v : ℕ) {step high : ℕ} → step ≡ b.x → high ≡ v + b.y * w → v < inside.y → w < inside.z → Packed s o first second (step * high) inside.x
  row-packed w v {step} {high} se he vh wh =
      let e : step * high ≡ b.x * (v + b.y * w) = ap (λ (x : ℕ). x * high) se ∙ ap (◌*◌ b.x) he in
      record {
        some = r.some;
        packed = λ u uh. let l = within-last w v u uh vh wh in packed-at (u + step * high) (omega arith);
      }

  pub row_of_run : (wide : Bool) (w v : ℕ) {step high k : ℕ} → step ≡ b.x → high ≡ v + b.y * w → k ≡ greatest (run_refusal s (label_words wide) o first second (step * high)) inside.x
      → k ≡ row_refusal s (label_words wide) o first second b inside w v
  unfolding row_refusal place_refusal run_refusal
  row_of_run wide w v {step} {high} se he q =
      let e : step * high ≡ b.x * (v + b.y * w) = ap (λ (x : ℕ). x * high) se ∙ ap (◌*◌ b.x) he in
      q ∙ ap (λ (x : ℕ). greatest (λ u. refusal_in (value_answer s (label_words wide) o first second (u + x))) inside.x) e

  -- ---- a table that is whole for every value
  module _ (wide : Bool) (table : 2 ^ width_in first ≤ whole_entries_of s (label_words wide) (o + table_in first)) where
    value-small : (a m : ℕ) → value_in s a (width_in first) m < 2 ^ width_in first
    unfolding value_in
    value-small a m = mod-lt _ (pow_pos (width_in first))

    value-sure : (m : ℕ) → m ≤ last_place b inside → refusal_in (value_answer s (label_words wide) o first second m) ≡ 0
    unfolding value_answer
    value-sure m h =
        let some = r.some in
        let z : eqb (width_in first) 0 ≡ false = ne_eqb (width_in first) 0 (λ x. omega arith) in
        let l = value-small (o + second + m * width_in first / 32) m in
        rw (z, whole-yes s (o + second + m * width_in first / 32) 1 (omega (arith, packed-at m h)))
        (entry-within s (label_words wide) (o + table_in first) _ (label-some wide) (omega arith))

    voxels-sure : 0 ≡ voxels_refusal s (label_words wide) o first second b inside
    unfolding voxels_refusal layer_refusal row_refusal place_refusal
    voxels-sure = le_antisymm (omega arith)
        (greatest-le _ _ 0 (λ w wh. greatest-le _ _ 0 (λ v vh. greatest-le _ _ 0 (λ u uh.
        let p = value-sure (u + b.x * (v + b.y * w)) (within-last w v u uh vh wh) in omega arith))))

  pub sure-told : (wide : Bool) {p limit : ℕ} → p ≡ 2 ^ width_in first → limit ≡ whole_entries_of s (label_words wide) (o + table_in first) → p ≤ limit → 0 ≡ voxels_refusal s (label_words wide) o first second b inside
  sure-told wide pe le h = voxels-sure wide (omega arith)

-- ---- what is asked of the last voxel

module _ (s : List ℕ) (wide : Bool) (o first second : ℕ) (b inside : Extents) (some : 0 < width_in first)
    {high last bit q : ℕ} (he : high ≡ inside.y - 1 + b.y * (inside.z - 1)) (le : last ≡ inside.x - 1 + b.x * high)
    (be : bit ≡ min (last * width_in first) (2 ^ 128 - 1)) (qe : q ≡ length s / 4) (qf : Fits w64 q) where
  bit-is : bit ≡ min (last_place b inside * width_in first) (2 ^ 128 - 1)
  bit-is = be ∙ ap (λ (x : ℕ). min (x * width_in first) (2 ^ 128 - 1)) (le ∙ ap (λ (x : ℕ). inside.x - 1 + b.x * x) he)

  pub reached : ltb (o + second + bit / 32) q ≡ true → Reached s o first second b inside
  reached x =
      let a : o + second + bit / 32 < q = ltb-true _ _ x in
      let e = bit-is in
      record { some = some; last = omega arith }

  last-refused : ltb (o + second + bit / 32) q ≡ false → 28 ≡ place_refusal s (label_words wide) o first second b (inside.z - 1) (inside.y - 1) (inside.x - 1)
  unfolding place_refusal value_answer
  last-refused x =
      let a : q ≤ o + second + bit / 32 = ltb-false _ _ x in
      let e = bit-is in
      let z : eqb (width_in first) 0 ≡ false = ne_eqb (width_in first) 0 (λ y. omega arith) in
      rw (z, whole-no s (o + second + last_place b inside * width_in first / 32) 1 (omega arith))

  pub not-reached : 0 < inside.x → 0 < inside.y → 0 < inside.z → ltb (o + second + bit / 32) q ≡ false → 28 ≡ voxels_refusal s (label_words wide) o first second b inside
  not-reached hx hy hz x =
      let e = label_words wide in
      let row = row_hit s e o first second b inside (inside.z - 1) (inside.y - 1) (inside.x - 1) (omega arith) (last-refused x) (omega arith) in
      let layer = layer_hit s e o first second b inside (inside.z - 1) (inside.y - 1) (omega arith) row (omega arith) in
      voxels_hit s e o first second b inside (inside.z - 1) (omega arith) layer (omega arith)
