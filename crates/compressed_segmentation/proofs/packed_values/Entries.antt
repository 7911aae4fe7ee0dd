-- Each way out of the reading of a table entry and of a block's voxel, as a case of its definition.
use Prim.Native.Nat.{ℕ, ◌+◌, ◌*◌, ◌/◌, ◌%◌, ◌^◌, ◌-◌, ◌<◌, ◌≤◌, min}
use mathlib.Core.Path.{◌≡◌, sym, ap, ◌∙◌}
use mathlib.Core.Bool.{Bool, true, false}
use mathlib.Core.List.{List}
use native.Mathlib.Omega.{arith}
use lib.Dec.{eqb}
use lib.ListN.{length}
use mir.Syntax.{w64}
use mir.Val.{Fits}
use borrow.Author.Tests.{eq-eqb, ne_eqb}
use Rattle.endian.specs.Little.{le_at}
use Rattle.std.specs.Prelude.{Ok, Option, Some, None}
use Rattle.refusal.specs.Answers.{Answer, refuse}
use Rattle.compressed_segmentation.specs.Words.{word}
use Rattle.compressed_segmentation.specs.Layout.{table_in, width_in}
use Rattle.compressed_segmentation.specs.Labels.{label_words, value_in}
use Rattle.compressed_segmentation.specs.Steps.{entry_answer, value_answer}
use Rattle.compressed_segmentation.proofs.Shapes.{whole-yes, whole-no}
use Rattle.compressed_segmentation.specs.packed_values.Far.{sum_below}
use Rattle.compressed_segmentation.proofs.packed_values.Numbers.{told-past, told_at}

-- ---- a table entry

pub entry_whole : (s : List ℕ) (e t v : ℕ) → t + e * v + e ≤ length s / 4 → entry_answer s e t v ≡ Ok (le_at (4 * e) s (4 * (t + e * v)))
unfolding entry_answer
entry_whole s e t v h = rw (whole-yes s (t + e * v) e h)

entry-cut : (s : List ℕ) (e t v : ℕ) → length s / 4 < t + e * v + e → entry_answer s e t v ≡ refuse 28
unfolding entry_answer
entry-cut s e t v h = rw (whole-no s (t + e * v) e h)

module _ (s : List ℕ) (wide : Bool) (t v : ℕ) where
  pub wide_cut : {n : ℕ} → wide ≡ true → n ≡ length s / 4 → n < t + 2 * v + 2 → refuse 28 ≡ entry_answer s (label_words wide) t v
  wide_cut q e h = rw q (sym (entry-cut s 2 t v (omega arith)))

  pub wide_label : {n r : ℕ} → wide ≡ true → n ≡ length s / 4 → t + 2 * v + 2 ≤ n → r ≡ le_at 8 s (4 * (t + 2 * v)) → Ok r ≡ entry_answer s (label_words wide) t v
  wide_label q e h f = rw q (ap Ok f ∙ sym (entry_whole s 2 t v (omega arith)))

  pub narrow_cut : {n : ℕ} → wide ≡ false → n ≡ length s / 4 → n < t + v + 1 → refuse 28 ≡ entry_answer s (label_words wide) t v
  narrow_cut q e h = rw q (sym (entry-cut s 1 t v (omega arith)))

  pub narrow-label : {n r : ℕ} → wide ≡ false → n ≡ length s / 4 → t + v + 1 ≤ n → r ≡ word s (t + v) → Ok r ≡ entry_answer s (label_words wide) t v
  unfolding word
  narrow-label q e h f =
      let g : t + v ≡ t + 1 * v = omega arith in
      rw q (ap Ok (f ∙ ap (λ (x : ℕ). le_at 4 s (4 * x)) g) ∙ sym (entry_whole s 1 t v (omega arith)))

-- ---- a voxel of a block

module _ (s : List ℕ) (e o first second m : ℕ) where
  pub no_bits : {r : Answer ℕ} → width_in first ≡ 0 → r ≡ entry_answer s e (o + table_in first) 0 → r ≡ value_answer s e o first second m
  unfolding value_answer
  no_bits z q = q ∙ rw (eq-eqb (width_in first) 0 z)

  -- the bits before it, cut off at 128 bits
  module _ (some : 0 < width_in first) {bit : ℕ} (be : bit ≡ min (m * width_in first) (2 ^ 128 - 1)) where
    pub packed-cut : {q : Option ℕ} {k : ℕ} → q ≡ sum_below (o + second + bit / 32) k → k ≡ length s / 4 → q ≡ None → refuse 28 ≡ value_answer s e o first second m
    unfolding value_answer
    packed-cut t w p =
        let l = told-past t p in
        let z : eqb (width_in first) 0 ≡ false = ne_eqb (width_in first) 0 (λ x. omega arith) in
        rw (z, whole-no s (o + second + m * width_in first / 32) 1 (omega arith))

    pub packed-whole : {a : Option ℕ} {k i u v : ℕ} {r : Answer ℕ} → Fits w64 (length s) → a ≡ sum_below (o + second + bit / 32) k → k ≡ length s / 4 → a ≡ Some i
        → u ≡ word s i → v ≡ u / 2 ^ (bit % 32) % 2 ^ width_in first → r ≡ entry_answer s e (o + table_in first) v → r ≡ value_answer s e o first second m
    unfolding value_answer value_in
    packed-whole {i = i} {u = u} f h w j y g x =
        let l = told_at h j in
        let z : eqb (width_in first) 0 ≡ false = ne_eqb (width_in first) 0 (λ x. omega arith) in
        let b : m * width_in first ≡ bit = omega arith in
        let a : o + second + m * width_in first / 32 ≡ i = omega arith in
        let t : m * width_in first % 32 ≡ bit % 32 = ap (λ (x : ℕ). x % 32) b in
        x ∙ ap (entry_answer s e (o + table_in first)) g ∙ rw (z, a, t, ← y, whole-yes s i 1 (omega arith))
