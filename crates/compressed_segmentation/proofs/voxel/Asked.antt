-- Each way out of the reading of a label, as a case of its definition.
use Prim.Native.Nat.{ℕ, ◌+◌, ◌-◌, ◌*◌, ◌/◌, ◌<◌, ◌≤◌}
use mathlib.Core.Path.{◌≡◌, sym, ap, ◌∙◌}
use mathlib.Core.Bool.{Bool, true, false, not}
use mathlib.Core.List.{List}
use native.Mathlib.Omega.{arith}
use lib.ListN.{length}
use Rattle.refusal.proofs.Tests.{told-no, told-yes}
use Rattle.compressed_segmentation.specs.declared.Shape.{Shape}
use Rattle.refusal.specs.Answers.{Answer, refuse}
use Rattle.compressed_segmentation.specs.Words.{word}
use Rattle.compressed_segmentation.specs.Layout.{no_voxels, outside_shape, block_number, place_number, width_in, is_width}
use Rattle.compressed_segmentation.specs.Labels.{label_words, label_answer}
use Rattle.compressed_segmentation.specs.Steps.{value_answer, block_answer, channel_answer, voxel_answer}
use Rattle.compressed_segmentation.proofs.Stepwise.{stepwise}
use Rattle.compressed_segmentation.proofs.Shapes.{whole-yes, whole-no}
use Rattle.std.specs.Prelude.{Option, Some, None}
use Rattle.compressed_segmentation.specs.packed_values.Far.{sum_below}
use Rattle.compressed_segmentation.proofs.packed_values.Numbers.{told-past, told_at}

-- ---- a block of a channel

module _ (s : List ℕ) (e o n m : ℕ) where
  pub header-cut : {q : Option ℕ} → q ≡ sum_below (o + 2 * n + 1) (length s / 4) → q ≡ None → refuse 28 ≡ block_answer s e o n m
  unfolding block_answer
  header-cut t p = let l = told-past t p in rw (whole-no s (o + 2 * n) 2 (omega arith))

  module _ {q : Option ℕ} {i : ℕ} (t : q ≡ sum_below (o + 2 * n + 1) (length s / 4)) (p : q ≡ Some i) {first : ℕ} (f : first ≡ word s (i - 1)) where
    start : first ≡ word s (o + 2 * n)
    start = let l = told_at t p in f ∙ ap (word s) (omega arith)

    pub header_bad : {b : Bool} → b ≡ is_width (width_in first) → not b ≡ true → refuse 29 ≡ block_answer s e o n m
    unfolding block_answer
    header_bad d g = let l = told_at t p in rw (← start, whole-yes s (o + 2 * n) 2 (omega arith), told-no d g)

    pub header_good : {b : Bool} {second : ℕ} {r : Answer ℕ} → second ≡ word s i → b ≡ is_width (width_in first) → not b ≡ false → r ≡ value_answer s e o first second m → r ≡ block_answer s e o n m
    unfolding block_answer
    header_good g d k x =
        let l = told_at t p in
        let u = g ∙ ap (word s) l.0 in
        x ∙ rw (← start, ← u, whole-yes s (o + 2 * n) 2 (omega arith), told-yes d k)

-- ---- a channel

module _ (s : List ℕ) (e c n m : ℕ) where
  pub channel-cut : {k : ℕ} → k ≡ length s / 4 → k ≤ c → refuse 28 ≡ channel_answer s e c n m
  unfolding channel_answer
  channel-cut q h = rw (whole-no s c 1 (omega arith))

  pub channel-at : {k o : ℕ} {r : Answer ℕ} → k ≡ length s / 4 → c < k → o ≡ word s c → r ≡ block_answer s e o n m → r ≡ channel_answer s e c n m
  unfolding channel_answer
  channel-at q h g f = f ∙ rw (← g, whole-yes s c 1 (omega arith))

-- ---- a voxel

pub voxel-at : (s : List ℕ) (sh : Shape) (x y z c : ℕ) {n m : ℕ} {r : Answer ℕ} → n ≡ block_number sh x y z → m ≡ place_number sh x y z
    → r ≡ channel_answer s (label_words sh.wide) c n m → r ≡ voxel_answer s sh x y z c
unfolding voxel_answer
voxel-at s sh x y z c e f q = q ∙ rw (e, f)

-- ---- the answer

module _ (s : List ℕ) (sh : Shape) (x y z c : ℕ) {b : Bool} (e : b ≡ no_voxels sh) where
  pub answer-none : b ≡ true → refuse 2 ≡ label_answer s sh x y z c
  answer-none t = sym (stepwise s sh x y z c ∙ rw (← e, t))

  module _ (t : b ≡ false) {d : Bool} (f : d ≡ outside_shape sh x y z c) where
    pub answer_outside : d ≡ true → refuse 2 ≡ label_answer s sh x y z c
    answer_outside u = sym (stepwise s sh x y z c ∙ rw (← e, t, ← f, u))

    pub answer-inside : {r : Answer ℕ} → d ≡ false → r ≡ voxel_answer s sh x y z c → r ≡ label_answer s sh x y z c
    answer-inside u q = q ∙ sym (stepwise s sh x y z c ∙ rw (← e, t, ← f, u))
