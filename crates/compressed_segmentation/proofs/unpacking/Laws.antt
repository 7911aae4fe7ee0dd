-- What an unpacked chunk means: unpacking equals asking for each voxel, and refuses by what voxels are refused with.
use Prim.Native.Nat.{ℕ, zero, suc, ◌<◌, ◌≤◌}
use mathlib.Core.Path.{◌≡◌, refl, sym, ap, ◌∙◌}
use mathlib.Core.Bool.{Bool, true, false, true≢false}
use mathlib.Core.List.{List, [], ◌++◌}
use native.Mathlib.Omega.{arith}
use lib.Dec.{ltb}
use lib.ListN.{length, drop}
use borrow.Author.Tests.{eqb-true}
use Rattle.refusal.specs.Choice.{pick}
use Rattle.refusal.specs.Checks.{first_number, unless}
use Rattle.std.specs.Prelude.{Ok, Err}
use Rattle.refusal.specs.Answers.{Answer, refuse}
use Rattle.refusal.specs.Table.{last, InTable, refusal_of}
use Rattle.refusal.proofs.Table.{number-in, number-refusal, refusal-number, same-number}
use Rattle.refusal.proofs.Picks.{all_in_lem}
use Rattle.refusal.proofs.Refusing.{by_number, by_none, first-most}
use Rattle.endian.specs.Place.{Holds}
use Rattle.endian.specs.Range.{any_below, first}
use Rattle.endian.proofs.Holds.{holds-all}
use Rattle.endian.proofs.Ranges.{first-lt, first_holds}
use Rattle.compressed_segmentation.specs.declared.Shape.{Shape}
use Rattle.compressed_segmentation.specs.Layout.{no_voxels, block_number, place_number}
use Rattle.compressed_segmentation.specs.Labels.{label_words, label_at, label_answer}
use Rattle.compressed_segmentation.specs.block.Voxels.{refusal_in, Within, some_refused, chunk_refusal}
use Rattle.compressed_segmentation.proofs.readable.Verdict.{some-yes, all-readable}
use Rattle.compressed_segmentation.specs.raw_form.Raw.{raw_form, unpack_checks, unpack_answer, unpack_left}
use Rattle.compressed_segmentation.specs.unpacking.Meaning.{EqualsAsking, SomeRefused, RefusesByVoxels}
use Rattle.compressed_segmentation.proofs.unpacking.Places.{label-place}

-- ---- answers turned into numbers

pub length_none : (k a n : ℕ) → unless refuse k (Ok a) ≡ Ok n → k ≡ 0
unfolding unless
length_none zero a n e = refl
length_none (suc k) a n e = let z : ◌≡◌ {A = ℕ} 0 1 = cc in absurd (omega arith)

pub refused-number : (k a n : ℕ) → k ≤ last → InTable n → unless refuse k (Ok a) ≡ refuse n → k ≡ n
unfolding unless
refused-number zero a n l t e = let z : ◌≡◌ {A = ℕ} 0 1 = cc in absurd (omega arith)
refused-number (suc k) a n l t e = same-number (suc k) n (omega arith, l) t cc

label-none : (k v : ℕ) → refusal_in (unless refuse k (Ok v)) ≡ 0 → unless refuse k (Ok v) ≡ Ok v
unfolding unless
label-none zero v e = refl
label-none (suc k) v e = let i = number-in (refusal_of (suc k)) in absurd (omega (arith, i.0, e))

label-some : (k : ℕ) (a : Answer ℕ) → 0 < k → refusal_in a ≡ k → a ≡ refuse k
label-some k (Ok v) h e = absurd (omega arith)
label-some k (Err j) h e = ap Err (sym (refusal-number j) ∙ ap refusal_of e)

-- ---- the checks

abbrev number : Bool → Bool → Bool → Bool → ℕ
number a b c d = pick a 2 (pick b 29 (pick c 28 (pick d 13 0)))

number-none : (a b c d : Bool) → number a b c d ≡ 0 → (a ≡ false) × (b ≡ false) × (c ≡ false)
number-none true b c d e = absurd (omega arith)
number-none false true c d e = absurd (omega arith)
number-none false false true d e = absurd (omega arith)
number-none false false false d e = (refl, refl, refl)

number_29 : (a b c d : Bool) → number a b c d ≡ 29 → b ≡ true
number_29 true b c d e = absurd (omega arith)
number_29 false true c d e = refl
number_29 false false true d e = absurd (omega arith)
number_29 false false false true e = absurd (omega arith)
number_29 false false false false e = absurd (omega arith)

number_28 : (a b c d : Bool) → number a b c d ≡ 28 → (b ≡ false) × (c ≡ true)
number_28 true b c d e = absurd (omega arith)
number_28 false true c d e = absurd (omega arith)
number_28 false false true d e = (refl, refl)
number_28 false false false true e = absurd (omega arith)
number_28 false false false false e = absurd (omega arith)

false-or-true : (b : Bool) → (b ≡ true → ⊥) → b ≡ false
false-or-true true h = absurd (h refl)
false-or-true false h = refl

-- the first that passes
hit : (f : ℕ → Bool) (n : ℕ) → any_below n f ≡ true → (i : ℕ) × (i < n) × (f i ≡ true)
hit f n t = (first f n, first-lt f n t, first_holds f n (first-lt f n t))

module _ (s : List ℕ) (sh : Shape) (out : List ℕ) where
  abbrev short : Bool
  short = ltb (length out) (length (raw_form s sh))

  checked : first_number (unpack_checks s sh out) ≡ number (no_voxels sh) (some_refused 29 s sh) (some_refused 28 s sh) short
  unfolding first_number unpack_checks
  checked = refl

  unrefused : some_refused 29 s sh ≡ false → some_refused 28 s sh ≡ false → 0 ≡ chunk_refusal s sh
  unfolding chunk_refusal
  unrefused p q = rw (p, q)

  -- ---- unpacking equals asking for each voxel
  module _ (n : ℕ) (e : unpack_answer s sh out ≡ Ok n) where
    none : first_number (unpack_checks s sh out) ≡ 0
    unfolding unpack_answer
    none = length_none _ _ n e

    written : Holds (unpack_left s sh out) 0 (raw_form s sh)
    unfolding unpack_left
    written =
        let q : unpack_left s sh out ≡ raw_form s sh ++ drop (length (raw_form s sh)) out = by_none (λ j. out) (unpack_checks s sh out) _ none in
        rw q (holds-all [] (raw_form s sh) (drop (length (raw_form s sh)) out))

    labelled : (x y z c : ℕ) → Within sh x y z c → refusal_in (label_answer s sh x y z c) ≡ 0
    labelled x y z c w =
        let f = number-none (no_voxels sh) (some_refused 29 s sh) (some_refused 28 s sh) short (sym checked ∙ none) in
        (all-readable s sh f.0 (unrefused f.1 f.2) (omega arith)).answer x y z c w

    label_is : (x y z c : ℕ) → Within sh x y z c → label_answer s sh x y z c ≡ Ok (label_at s (label_words sh.wide) c (block_number sh x y z) (place_number sh x y z))
    label_is x y z c w = let l = labelled x y z c w in unfold label_answer in label-none _ _ (unfold label_answer in l)

  pub equals_asking : EqualsAsking s sh out
  equals_asking =
      record {
        asked = λ n e x y z c w.
            let l = label_is n e x y z c w in
            let h = label-place s sh (written n e) x y z c w in
            (label_at s (label_words sh.wide) c (block_number sh x y z) (place_number sh x y z), l, rw l at h);
      }

  -- ---- refusals
  found : (k : ℕ) → 0 < k → some_refused k s sh ≡ true → SomeRefused k s sh
  unfolding some_refused
  found k h t =
      let c = hit _ sh.channels t in
      let z = hit _ sh.extents.z c.2 in
      let y = hit _ sh.extents.y z.2 in
      let x = hit _ sh.extents.x y.2 in
      record {
        x = x.0;
        y = y.0;
        z = z.0;
        c = c.0;
        within = record { in_x = x.1; in_y = y.1; in_z = z.1; in_c = c.1 };
        refused = label-some k (label_answer s sh x.0 y.0 z.0 c.0) h (eqb-true _ k x.2);
      }

  some : (k : ℕ) → InTable k → SomeRefused k s sh → some_refused k s sh ≡ true
  some k t r = some-yes s sh k r.x r.y r.z r.c r.within (ap refusal_in r.refused ∙ number-refusal k t)

  checks-most : first_number (unpack_checks s sh out) ≤ last
  unfolding unpack_checks
  checks-most = first-most (unpack_checks s sh out) (all_in_lem (unpack_checks s sh out) refl)

  refused_by : (k : ℕ) → InTable k → unpack_answer s sh out ≡ refuse k → first_number (unpack_checks s sh out) ≡ k
  unfolding unpack_answer
  refused_by k t e = refused-number _ _ k checks-most t e

  by_first : (k : ℕ) → 0 < k → first_number (unpack_checks s sh out) ≡ k → unpack_answer s sh out ≡ refuse k
  unfolding unpack_answer
  by_first k h f = by_number refuse (unpack_checks s sh out) _ k f h

  pub refuses_by_voxels : RefusesByVoxels s sh out
  refuses_by_voxels =
      record {
        refused_29 = λ n. (
          λ e. found 29 (omega arith) (number_29 (no_voxels sh) (some_refused 29 s sh) (some_refused 28 s sh) short (sym checked ∙ refused_by 29 (omega arith, omega arith) e)),
          λ r. by_first 29 (omega arith) (checked ∙ rw (n, some 29 (omega arith, omega arith) r)),
        );
        refused_28 = λ n. (
          λ e.
              let f = number_28 (no_voxels sh) (some_refused 29 s sh) (some_refused 28 s sh) short (sym checked ∙ refused_by 28 (omega arith, omega arith) e) in
              (found 28 (omega arith) f.1, λ r. true≢false (sym (some 29 (omega arith, omega arith) r) ∙ f.0)),
          λ r. by_first 28 (omega arith) (checked ∙ rw (n, false-or-true (some_refused 29 s sh) (λ t. r.1 (found 29 (omega arith) t)), some 28 (omega arith, omega arith) r.0)),
        );
      }
