-- A run of voxels read word by word: where the value of each stands, and whether its entry is whole.
use Prim.Native.Nat.{ℕ, ◌+◌, ◌-◌, ◌*◌, ◌/◌, ◌%◌, ◌^◌, ◌<◌, ◌≤◌}
use mathlib.Core.Path.{◌≡◌, refl, sym, ap, ◌∙◌}
use mathlib.Core.Bool.{Bool, true, false}
use mathlib.Core.List.{List}
use mathlib.Core.Logic.{⊎_elim}
use native.Mathlib.Omega.{arith}
use native.Mathlib.Nat.{mod-lt, mul_comm, mul-le-mul, mul_right_comm, add-mul, one-mul, add-mul-div_left, add-mul-mod_self_left, le-div_iff_mul-le}
use mir.Syntax.{w32, w64}
use mir.Val.{Fits}
use lib.Dec.{eqb}
use lib.ListN.{length}
use borrow.Author.Tests.{ne_eqb}
use Rattle.compressed_segmentation.specs.Words.{word}
use Rattle.compressed_segmentation.specs.Layout.{width_in, table_in, is_width}
use Rattle.compressed_segmentation.specs.Labels.{label_words, value_in}
use Rattle.compressed_segmentation.specs.Steps.{entry_answer, value_answer}
use Rattle.compressed_segmentation.specs.block.Voxels.{refusal_in}
use Rattle.compressed_segmentation.specs.block.Checks.{greatest, Packed, whole_entries_of, run_refusal}
use Rattle.compressed_segmentation.proofs.Shapes.{whole-yes, whole-no}
use Rattle.compressed_segmentation.proofs.packed_values.Packed.{Width, widths, regroup}
use Rattle.compressed_segmentation.proofs.block.Greatest.{within-or-past, greatest_still}
use Rattle.compressed_segmentation.proofs.block.Mild.{value_mild, mild_hit}

-- the bits before voxel u of the run, counted from its first word on
module _ (step high w u : ℕ) (r : Width w) where
  bits-before : (u + step * high) * w ≡ (step * (high % (32 / w)) + u) * w + 32 * (step * (high / (32 / w)))
  bits-before =
      let p = 32 / w in
      let q = step * (high / p) in
      let g = regroup p u step high in
      let e : p * q * w ≡ 32 * q = mul_right_comm p q w ∙ ap (λ (x : ℕ). x * q) r.product in
      ap (λ (x : ℕ). x * w) g ∙ add-mul _ _ w ∙ omega arith

  bits_in_word : (u + step * high) * w / 32 ≡ step * (high / (32 / w)) + (step * (high % (32 / w)) + u) * w / 32
  bits_in_word = ap (λ (x : ℕ). x / 32) bits-before ∙ add-mul-div_left _ (step * (high / (32 / w))) {y = 32} (omega arith) ∙ omega arith

  bits_in_rest : (u + step * high) * w % 32 ≡ (step * (high % (32 / w)) + u) * w % 32
  bits_in_rest = ap (λ (x : ℕ). x % 32) bits-before ∙ add-mul-mod_self_left _ 32 (step * (high / (32 / w)))

module _ (s : List ℕ) (o first second step high count : ℕ) (is : is_width (width_in first) ≡ true) (p : Packed s o first second (step * high) count) where
  module _ (u : ℕ) (h : u < count) where
    pub place : ℕ
    place = o + second + (u + step * high) * width_in first / 32

    pub packed-value : (e : ℕ) → value_answer s e o first second (u + step * high) ≡ entry_answer s e (o + table_in first) (value_in s place (width_in first) (u + step * high))
    unfolding value_answer place
    packed-value e =
        let some = p.some in
        let z : eqb (width_in first) 0 ≡ false = ne_eqb (width_in first) 0 (λ x. omega arith) in
        rw (z, whole-yes s place 1 (omega (arith, p.packed u h)))

    module _ {from start : ℕ} (fe : from ≡ o + second + step * (high / (32 / width_in first))) (se : start ≡ step * (high % (32 / width_in first))) where
      place_is : place ≡ from + (start + u) * width_in first / 32
      unfolding place
      place_is =
          let a = bits_in_word step high (width_in first) u (widths _ is p.some) in
          let b = ap (λ (x : ℕ). (x + u) * width_in first / 32) se in
          omega arith

      pub run_word : from + (start + u) * width_in first / 32 < length s / 4
      unfolding place
      run_word = let q = p.packed u h in omega (arith, place_is)

      pub value-is : {q v : ℕ} → q ≡ word s (from + (start + u) * width_in first / 32) → v ≡ q / 2 ^ ((start + u) * width_in first % 32) % 2 ^ width_in first → v ≡ value_in s place (width_in first) (u + step * high)
      unfolding value_in
      value-is qe ve =
          let a = bits_in_rest step high (width_in first) u (widths _ is p.some) in
          let b : (start + u) * width_in first % 32 ≡ (u + step * high) * width_in first % 32 = ap (λ (x : ℕ). (x + u) * width_in first % 32) se ∙ sym a in
          ve ∙ ap (λ (x : ℕ). x / 2 ^ ((start + u) * width_in first % 32) % 2 ^ width_in first) (qe ∙ ap (word s) (sym place_is))
          ∙ ap (λ (x : ℕ). word s place / 2 ^ x % 2 ^ width_in first) b

  -- the first voxel's word bounds where the run begins
  run_start : 0 < count → o + second + step * (high / (32 / width_in first)) < length s / 4
  run_start h = let q = run_word 0 h refl refl in omega arith

  pub run_product-fits : 0 < count → Fits w64 (length s) → Fits w64 (step * (high / (32 / width_in first)))
  run_product-fits h f = omega (arith, run_start h)

  pub run_from-fits : 0 < count → Fits w64 (length s) → Fits w64 (o + second + step * (high / (32 / width_in first)))
  run_from-fits h f = omega (arith, run_start h)

  pub run_word-fits : (u : ℕ) → u < count → Fits w64 (length s) → Fits w64 (o + second + step * (high / (32 / width_in first)) + (step * (high % (32 / width_in first)) + u) * width_in first / 32)
  run_word-fits u h f = omega (arith, run_word u h refl refl)

module _ (first : ℕ) (is : is_width (width_in first) ≡ true) (some : 0 < width_in first) (step high : ℕ) (small : step < 4294967296) where
  start-most : step * (high % (32 / width_in first)) ≤ 133143986145
  start-most =
      let r = widths _ is some in
      let l = mod-lt high r.some in
      mul-le-mul {n₂ = 4294967295} {m₂ = 31} (omega arith) (omega (arith, r.most))

  pub start_fits : Fits w64 (step * (high % (32 / width_in first)))
  start_fits = omega (arith, start-most)

  pub start-sum-fits : (u count : ℕ) → u < count → Fits w32 count → Fits w64 (step * (high % (32 / width_in first)) + u)
  start-sum-fits u count h f = omega (arith, start-most)

  pub start-bits-fit : (u count : ℕ) → u < count → Fits w32 count → Fits w64 ((step * (high % (32 / width_in first)) + u) * width_in first)
  start-bits-fit u count h f =
      let a = start-most in
      let b : step * (high % (32 / width_in first)) + u ≤ 137438953440 = omega arith in
      let m = mul-le-mul {n₂ = 137438953440} {m₂ = 32} b (widths _ is some).small in
      omega arith

-- ---- the whole entries of a table

pub label-some : (wide : Bool) → 0 < label_words wide
label-some true = omega arith
label-some false = omega arith

module _ (s : List ℕ) (e t v : ℕ) (some : 0 < e) where
  entry-counted : (v + 1) * e ≡ e * v + e
  entry-counted = add-mul v 1 e ∙ omega (arith, mul_comm v e, one-mul e)

  pub entry-within : v < whole_entries_of s e t → refusal_in (entry_answer s e t v) ≡ 0
  unfolding entry_answer
  entry-within h =
      let k : v + 1 ≤ whole_entries_of s e t = omega arith in
      let m = (le-div_iff_mul-le some).0 k in
      rw (whole-yes s (t + e * v) e (omega (arith, entry-counted)))

  pub entry_past : whole_entries_of s e t ≤ v → refusal_in (entry_answer s e t v) ≡ 28
  unfolding entry_answer
  entry_past h =
      ⊎_elim
      (λ (l : t + e * v + e ≤ length s / 4).
      let m : (v + 1) * e ≤ length s / 4 - t = omega (arith, entry-counted) in
      let k : v + 1 ≤ whole_entries_of s e t = (le-div_iff_mul-le some).1 m in
      absurd (omega arith))
      (λ l. rw (whole-no s (t + e * v) e l))
      (within-or-past (t + e * v + e) (length s / 4))

-- ---- the walk over a run

module _ (s : List ℕ) (wide : Bool) (o first second step high count u : ℕ) (is : is_width (width_in first) ≡ true) (p : Packed s o first second (step * high) count) (h : u < count)
    {from start q v limit : ℕ} (fe : from ≡ o + second + step * (high / (32 / width_in first))) (se : start ≡ step * (high % (32 / width_in first)))
    (qe : q ≡ word s (from + (start + u) * width_in first / 32)) (ve : v ≡ q / 2 ^ ((start + u) * width_in first % 32) % 2 ^ width_in first)
    (le : limit ≡ whole_entries_of s (label_words wide) (o + table_in first)) where
  run_value : run_refusal s (label_words wide) o first second (step * high) u ≡ refusal_in (entry_answer s (label_words wide) (o + table_in first) v)
  unfolding run_refusal
  run_value =
      ap refusal_in (packed-value s o first second step high count is p u h (label_words wide)
      ∙ ap (entry_answer s (label_words wide) (o + table_in first)) (sym (value-is s o first second step high count is p u h fe se qe ve)))

  pub run_hit : limit ≤ v → 28 ≡ greatest (run_refusal s (label_words wide) o first second (step * high)) count
  unfolding run_refusal
  run_hit l =
      let a = entry_past s (label_words wide) (o + table_in first) v (label-some wide) (omega arith) in
      mild_hit _ (λ i. value_mild s (label_words wide) o first second _) count u h (sym (run_value ∙ a)) (omega arith)

  pub run_still : v < limit → 0 ≡ greatest (run_refusal s (label_words wide) o first second (step * high)) u → 0 ≡ greatest (run_refusal s (label_words wide) o first second (step * high)) (u + 1)
  run_still l g =
      let a = entry-within s (label_words wide) (o + table_in first) v (label-some wide) (omega arith) in
      greatest_still _ u g (sym (run_value ∙ a)) (omega arith)
