-- Writing runs of labels.
use Prim.Native.Nat.{ℕ, suc, ◌+◌, ◌*◌, ◌/◌, ◌%◌, ◌^◌, ◌<◌, ◌≤◌}
use mathlib.Core.Path.{◌≡◌, refl, sym, ap, ◌∙◌}
use mathlib.Core.Bool.{true, false}
use mathlib.Core.List.{List}
use native.Mathlib.Omega.{arith}
use mir.Syntax.{w64}
use mir.Val.{Fits}
use lib.Dec.{eqb}
use lib.ListN.{length}
use borrow.Author.Tests.{ne_eqb}
use Rattle.endian.specs.Little.{le, le_at}
use Rattle.endian.specs.Place.{paste}
use Rattle.endian.proofs.Little.{length-le}
use Rattle.compressed_segmentation.specs.Words.{word}
use Rattle.compressed_segmentation.specs.Layout.{width_in, table_in, is_width}
use Rattle.compressed_segmentation.specs.Labels.{value_in}
use Rattle.compressed_segmentation.specs.Steps.{entry_answer, value_answer}
use Rattle.compressed_segmentation.specs.block.Voxels.{refusal_in}
use Rattle.compressed_segmentation.specs.block.Checks.{Packed}
use Rattle.compressed_segmentation.specs.raw_form.Raw.{label_in}
use Rattle.compressed_segmentation.specs.raw_form.Writing.{run_voxel, ReadableRun}
use Rattle.compressed_segmentation.proofs.Shapes.{whole-yes, whole-no}
use Rattle.compressed_segmentation.proofs.packed_values.Entries.{no_bits}
use Rattle.compressed_segmentation.proofs.block.Greatest.{within-or-past}
use Rattle.compressed_segmentation.proofs.block.Runs as R
use mathlib.Core.Logic.{⊎_elim}
use Rattle.compressed_segmentation.proofs.raw_form.Filled.{Filled, filled_on}

-- ---- an entry that is read

module _ (s : List ℕ) (e t v : ℕ) (z : refusal_in (entry_answer s e t v) ≡ 0) where
  entry_in_lem : t + e * v + e ≤ length s / 4
  unfolding entry_answer
  entry_in_lem =
      ⊎_elim (λ h. h) (λ h. absurd (omega (arith, rw (whole-no s (t + e * v) e h) at z))) (within-or-past (t + e * v + e) (length s / 4))

  entry-label : label_in (entry_answer s e t v) ≡ le_at (4 * e) s (4 * (t + e * v))
  unfolding entry_answer
  entry-label = rw (whole-yes s (t + e * v) e entry_in_lem)

-- ---- runs

pub run_each : (s : List ℕ) (e o first second step high u : ℕ) → length (run_voxel s e o first second step high u) ≡ 4 * e
unfolding run_voxel
run_each s e o first second step high u = length-le (4 * e) _

module _ (s : List ℕ) (e o first second step high count : ℕ) (r : ReadableRun s e o first second step high count) where
  -- at width 0
  module _ (w : width_in first ≡ 0) (u : ℕ) (h : u < count) where
    flat_value : entry_answer s e (o + table_in first) 0 ≡ value_answer s e o first second (u + step * high)
    flat_value = no_bits s e o first second (u + step * high) w refl

    flat_read : refusal_in (entry_answer s e (o + table_in first) 0) ≡ 0
    flat_read = ap refusal_in flat_value ∙ r.label u h

    pub flat_in : o + table_in first + e ≤ length s / 4
    flat_in = let l = entry_in_lem s e (o + table_in first) 0 flat_read in omega arith

    pub flat_voxel : le (4 * e) (le_at (4 * e) s (4 * (o + table_in first))) ≡ run_voxel s e o first second step high u
    unfolding run_voxel
    flat_voxel =
        let l : o + table_in first ≡ o + table_in first + e * 0 = omega arith in
        ap (le (4 * e)) (ap (λ (x : ℕ). le_at (4 * e) s (4 * x)) l ∙ sym (entry-label s e (o + table_in first) 0 flat_read) ∙ ap label_in flat_value)

    pub flat_on : {at label : ℕ} {d out g : List ℕ} {p q : ℕ} → label ≡ le_at (4 * e) s (4 * (o + table_in first)) → Filled (run_voxel s e o first second step high) (4 * e) count at d u p out
        → q ≡ p + 4 * e → g ≡ paste p (le (4 * e) label) out → Filled (run_voxel s e o first second step high) (4 * e) count at d (u + 1) q g
    flat_on {out = out} {p = p} l f qe ge = filled_on f h qe (ge ∙ ap (λ (x : List ℕ). paste p x out) (ap (le (4 * e)) l ∙ flat_voxel))

-- packed: the words of a run in which each voxel has a label are whole
module _ (s : List ℕ) (e o first second step high count : ℕ) (r : ReadableRun s e o first second step high count) (is : is_width (width_in first) ≡ true) (some : 0 < width_in first) where
  packed_in : (u : ℕ) → u < count → o + second + (u + step * high) * width_in first / 32 < length s / 4
  unfolding value_answer
  packed_in u h =
      let at = o + second + (u + step * high) * width_in first / 32 in
      let z : eqb (width_in first) 0 ≡ false = ne_eqb (width_in first) 0 (λ x. omega arith) in
      let l = r.label u h in
      ⊎_elim (λ (k : suc at ≤ length s / 4). k)
      (λ (k : length s / 4 < suc at). absurd (omega (arith, rw (z, whole-no s at 1 (omega arith)) at l)))
      (within-or-past (suc at) (length s / 4))

  packed : Packed s o first second (step * high) count
  packed = record { some = some; packed = packed_in }

  module _ (u : ℕ) (h : u < count) where
    packed-read : refusal_in (entry_answer s e (o + table_in first) (value_in s (R.place s o first second step high count is packed u h) (width_in first) (u + step * high))) ≡ 0
    packed-read = ap refusal_in (sym (R.packed-value s o first second step high count is packed u h e)) ∙ r.label u h

    module _ {from start : ℕ} (fe : from ≡ o + second + step * (high / (32 / width_in first))) (se : start ≡ step * (high % (32 / width_in first))) where
      pub run_word : from + (start + u) * width_in first / 32 < length s / 4
      run_word = R.run_word s o first second step high count is packed u h fe se

      module _ {q v : ℕ} (qe : q ≡ word s (from + (start + u) * width_in first / 32)) (ve : v ≡ q / 2 ^ ((start + u) * width_in first % 32) % 2 ^ width_in first) where
        value-is : v ≡ value_in s (R.place s o first second step high count is packed u h) (width_in first) (u + step * high)
        value-is = R.value-is s o first second step high count is packed u h fe se qe ve

        pub run_entry : {i : ℕ} → i ≡ o + table_in first + e * v → i + e ≤ length s / 4
        run_entry ie =
            let l = entry_in_lem s e (o + table_in first) _ packed-read in
            let b = ap (λ (x : ℕ). e * x) value-is in
            omega arith

        pub run_on : {i at : ℕ} {d out g : List ℕ} {p n : ℕ} → i ≡ o + table_in first + e * v → Filled (run_voxel s e o first second step high) (4 * e) count at d u p out → n ≡ p + 4 * e
            → g ≡ paste p (le (4 * e) (le_at (4 * e) s (4 * i))) out → Filled (run_voxel s e o first second step high) (4 * e) count at d (u + 1) n g
        unfolding run_voxel
        run_on {out = out} {p = p} ie f ne ge =
            let b = ie ∙ ap (λ (x : ℕ). o + table_in first + e * x) value-is in
            let l = ap (λ (x : ℕ). le_at (4 * e) s (4 * x)) b ∙ sym (entry-label s e (o + table_in first) _ packed-read) ∙ ap label_in (sym (R.packed-value s o first second step high count is packed u h e)) in
            filled_on f h ne (ge ∙ ap (λ (x : ℕ). paste p (le (4 * e) x) out) l)

  pub run_product-fits : 0 < count → Fits w64 (length s) → Fits w64 (step * (high / (32 / width_in first)))
  run_product-fits h f = R.run_product-fits s o first second step high count is packed h f

  pub run_from-fits : 0 < count → Fits w64 (length s) → Fits w64 (o + second + step * (high / (32 / width_in first)))
  run_from-fits h f = R.run_from-fits s o first second step high count is packed h f

  pub run_word-fits : (u : ℕ) → u < count → Fits w64 (length s) → Fits w64 (o + second + step * (high / (32 / width_in first)) + (step * (high % (32 / width_in first)) + u) * width_in first / 32)
  run_word-fits u h f = R.run_word-fits s o first second step high count is packed u h f
