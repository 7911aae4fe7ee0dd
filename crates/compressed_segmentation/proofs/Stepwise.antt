-- A label read step by step is the label that its checks decide.
use Prim.Native.Nat.{ℕ, ◌+◌, ◌*◌}
use mathlib.Core.Path.{◌≡◌, refl, ◌∙◌}
use mathlib.Core.Bool.{Bool, true, false, not, ◌&&◌, ◌||◌}
use mathlib.Core.List.{List}
use lib.Dec.{eqb}
use Rattle.refusal.specs.Choice.{pick}
use Rattle.refusal.specs.Checks.{first_number, unless}
use Rattle.endian.specs.Little.{le_at}
use Rattle.compressed_segmentation.specs.declared.Shape.{Shape}
use Rattle.std.specs.Prelude.{Ok}
use Rattle.refusal.specs.Answers.{Answer, refuse}
use Rattle.compressed_segmentation.specs.Words.{word, whole}
use Rattle.compressed_segmentation.specs.Layout.{no_voxels, outside_shape, block_number, place_number, table_in, is_width}
use Rattle.compressed_segmentation.specs.Labels.{label_words, value_in, header_at, width, packed_at, label_at, other_width, cut_off, label_checks, label_answer}
use Rattle.compressed_segmentation.specs.Steps.{entry_answer, value_answer, block_answer, channel_answer, voxel_answer}

-- the number of 29 and 28, over the tests of the steps: offset, header, width, width 0, packed word, entry
abbrev number : Bool → Bool → Bool → Bool → Bool → Bool → ℕ
number o h w z p e = pick (o && (h && not w)) 29 (pick (not o || (not h || ((not z && not p) || not e))) 28 0)

-- and the steps over the same tests; the entry's test and the label are those of the value, 0 or v
by_tests : (o h w z p : Bool) (whole : ℕ → Bool) (label : ℕ → ℕ) (v : ℕ)
    → unless refuse (number o h w z p (whole (pick z 0 v))) (Ok (label (pick z 0 v)))
    ≡ pick o (pick h (pick w (pick z (pick (whole 0) (Ok (label 0)) (refuse 28)) (pick p (pick (whole v) (Ok (label v)) (refuse 28)) (refuse 28))) (refuse 29)) (refuse 28)) (refuse 28)
by_tests false h w z p whole label v = unfold unless in refl
by_tests true false w z p whole label v = unfold unless in refl
by_tests true true false z p whole label v = unfold unless in refl
by_tests true true true true p whole label v = go (whole 0)
  where
    go : (b : Bool) → unless refuse (number true true true true p b) (Ok (label 0)) ≡ pick b (Ok (label 0)) (refuse 28)
    go true = unfold unless in refl
    go false = unfold unless in refl
by_tests true true true false false whole label v = unfold unless in refl
by_tests true true true false true whole label v = go (whole v)
  where
    go : (b : Bool) → unless refuse (number true true true false true b) (Ok (label v)) ≡ pick b (Ok (label v)) (refuse 28)
    go true = unfold unless in refl
    go false = unfold unless in refl

module _ (s : List ℕ) (e c n m : ℕ) where
  steps : unless refuse (pick (other_width s e c n m) 29 (pick (cut_off s e c n m) 28 0)) (Ok (label_at s e c n m)) ≡ channel_answer s e c n m
  unfolding other_width cut_off label_at channel_answer block_answer value_answer entry_answer
  steps =
      let t = word s c + table_in (word s (header_at s e c n m)) in
      by_tests (whole s c 1) (whole s (header_at s e c n m) 2) (is_width (width s e c n m)) (eqb (width s e c n m) 0) (whole s (packed_at s e c n m) 1)
      (λ v. whole s (t + e * v) e) (λ v. le_at (4 * e) s (4 * (t + e * v))) (value_in s (packed_at s e c n m) (width s e c n m) m)

refused-first : (b : Bool) (k : ℕ) (a : Answer ℕ) → unless refuse (pick b 2 k) a ≡ pick b (refuse 2) (unless refuse k a)
unfolding unless
refused-first true k a = refl
refused-first false k a = refl

pub stepwise : (s : List ℕ) (sh : Shape) (x y z c : ℕ) → label_answer s sh x y z c ≡ pick (no_voxels sh || outside_shape sh x y z c) (refuse 2) (voxel_answer s sh x y z c)
unfolding label_answer label_checks first_number voxel_answer
stepwise s sh x y z c =
    refused-first (no_voxels sh || outside_shape sh x y z c) _ _
    ∙ rw (steps s (label_words sh.wide) c (block_number sh x y z) (place_number sh x y z))
