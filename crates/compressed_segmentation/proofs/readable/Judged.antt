-- The judge of a whole chunk, by the number that refuses it: 0, 28 or 29.
use Rattle.std.proofs.Common.{◌≡◌, ℕ, ◌⊎◌, Bool, true, false, List, Ok, Err, refl, sym, ◌∙◌, inl, inr, arith}
use Rattle.refusal.specs.Choice.{pick}
use Rattle.refusal.specs.Answers.{judged, refuse}
use Rattle.refusal.specs.declared.Refusal.TheVariants.{LabelsCutOff, LabelWidth}
use Rattle.refusal.proofs.Passed.{pass, pass-not}
use Rattle.compressed_segmentation.specs.declared.Shape.{Shape}
use Rattle.compressed_segmentation.specs.block.Voxels.{some_refused, chunk_refusal}

one_of : (a b : Bool) {k : ℕ} → k ≡ pick a 29 (pick b 28 0) → (k ≡ 0 → ⊥) → (k ≡ 28 → ⊥) → k ≡ 29
one_of true b e n m = e
one_of false true e n m = absurd (m e)
one_of false false e n m = absurd (n e)

module _ (s : List ℕ) (sh : Shape) {k : ℕ} (e : k ≡ chunk_refusal s sh) where
  pub judged_0 : k ≡ 0 → Ok tt ≡ judged (chunk_refusal s sh)
  judged_0 z = pass (chunk_refusal s sh) (sym e ∙ z)

  pub judged_28 : k ≡ 28 → refuse 28 ≡ judged (chunk_refusal s sh)
  judged_28 z = pass-not (chunk_refusal s sh) LabelsCutOff (sym e ∙ z) (omega arith)

  pub judged_29 : (k ≡ 0 → ⊥) → (k ≡ 28 → ⊥) → refuse 29 ≡ judged (chunk_refusal s sh)
  unfolding chunk_refusal
  judged_29 n m =
      let z : k ≡ 29 = one_of (some_refused 29 s sh) (some_refused 28 s sh) e n m in
      pass-not (chunk_refusal s sh) LabelWidth (sym e ∙ z) (omega arith)
