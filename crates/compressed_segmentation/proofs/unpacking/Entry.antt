-- The ways out of `unpack`: the number of the first check that holds, or 0.
use Prim.Native.Nat.{ℕ, ◌≤◌, ◌<◌}
use mathlib.Core.Path.{◌≡◌, refl, sym, ap, ◌∙◌}
use mathlib.Core.Bool.{Bool, true, false, not}
use mathlib.Core.List.{List}
use native.Mathlib.Omega.{arith}
use lib.Dec.{leb, ltb}
use lib.ListN.{length}
use borrow.Author.Tests.{lt-ltb, le-ltb, leb-true, leb-false, not-true, not-false}
use Rattle.refusal.specs.Choice.{pick}
use Rattle.refusal.specs.Checks.{first_number}
use Rattle.std.specs.Prelude.{Ok, Err}
use Rattle.refusal.specs.declared.Refusal.{Refusal}
use Rattle.refusal.specs.Answers.{refuse, judged}
use Rattle.refusal.proofs.Passed.{passed-none, passed-some, passed-refusal}
use Rattle.refusal.proofs.Refusing.{by_number, by_none}
use Rattle.endian.specs.Place.{paste}
use Rattle.endian.proofs.Paste.{paste-front}
use Rattle.compressed_segmentation.specs.declared.Shape.{Shape}
use Rattle.compressed_segmentation.specs.Layout.{no_voxels}
use Rattle.compressed_segmentation.specs.block.Voxels.{some_refused, chunk_refusal, AllReadable}
use Rattle.compressed_segmentation.proofs.readable.Verdict.{all-readable}
use Rattle.compressed_segmentation.specs.raw_form.Raw.{raw_form, unpack_checks, unpack_answer, unpack_left}
use Rattle.compressed_segmentation.specs.raw_form.Writing.{all_bytes}
use Rattle.compressed_segmentation.proofs.raw_form.Wholes.{form-length}

-- 29 and 28 together are the chunk's refusal, before the number of what is checked after them
abbrev before : Bool → Bool → ℕ → ℕ
before a b n = pick a 29 (pick b 28 n)

or_else : (a b : Bool) (n : ℕ) → 0 < before a b 0 → before a b n ≡ before a b 0
or_else true b n h = refl
or_else false true n h = refl
or_else false false n h = absurd (omega arith)

none_else : (a b : Bool) (n : ℕ) → before a b 0 ≡ 0 → before a b n ≡ n
none_else true b n h = absurd (omega arith)
none_else false true n h = absurd (omega arith)
none_else false false n h = refl

module _ (s : List ℕ) (sh : Shape) (d : List ℕ) where
  pub unpack-refused : (k : ℕ) → 0 < k → first_number (unpack_checks s sh d) ≡ k → refuse k ≡ unpack_answer s sh d
  unfolding unpack_answer
  unpack-refused k h f = sym (by_number refuse (unpack_checks s sh d) _ k f h)

  pub unpack-kept : (k : ℕ) → 0 < k → first_number (unpack_checks s sh d) ≡ k → d ≡ unpack_left s sh d
  unfolding unpack_left
  unpack-kept k h f = sym (by_number (λ j. d) (unpack_checks s sh d) _ k f h)

  module _ {b : Bool} (e : b ≡ no_voxels sh) where
    pub unpack_2 : b ≡ true → first_number (unpack_checks s sh d) ≡ 2
    unfolding first_number unpack_checks
    unpack_2 t = rw (← e, t)

    module _ (t : b ≡ false) where
      pub tested : no_voxels sh ≡ false
      tested = sym e ∙ t

      refused_first : 0 < chunk_refusal s sh → first_number (unpack_checks s sh d) ≡ chunk_refusal s sh
      unfolding first_number unpack_checks chunk_refusal
      refused_first h = rw (tested) (or_else (some_refused 29 s sh) (some_refused 28 s sh) _ h)

      module _ {k : Refusal} (ke : Err k ≡ judged (chunk_refusal s sh)) where
        some : 0 < chunk_refusal s sh
        some = passed-some (chunk_refusal s sh) ke

        pub unpack-voxel : Err k ≡ unpack_answer s sh d
        unpack-voxel = rw (passed-refusal (chunk_refusal s sh) ke) (unpack-refused (chunk_refusal s sh) some (refused_first some))

        pub voxel-kept : d ≡ unpack_left s sh d
        voxel-kept = unpack-kept (chunk_refusal s sh) some (refused_first some)

      module _ (ke : Ok tt ≡ judged (chunk_refusal s sh)) where
        z : chunk_refusal s sh ≡ 0
        z = passed-none (chunk_refusal s sh) ke

        pub all_read : AllReadable s sh
        all_read = all-readable s sh tested refl (omega (arith, z))

        rest : first_number (unpack_checks s sh d) ≡ pick (ltb (length d) (length (raw_form s sh))) 13 0
        unfolding first_number unpack_checks chunk_refusal
        rest = rw (tested) (none_else (some_refused 29 s sh) (some_refused 28 s sh) _ z)

        module _ {r : Bool} {len : ℕ} (re : r ≡ leb (all_bytes sh) len) (le : len ≡ length d) where
          pub unpack_13 : not r ≡ true → first_number (unpack_checks s sh d) ≡ 13
          unpack_13 n = rest ∙ rw (lt-ltb (length d) (length (raw_form s sh)) (omega (arith, form-length s sh, leb-false (all_bytes sh) len (sym re ∙ not-true r n))))

          module _ (n : not r ≡ false) where
            pub room-told : all_bytes sh ≤ length d
            room-told = omega (arith, leb-true (all_bytes sh) len (sym re ∙ not-false r n))

            none : first_number (unpack_checks s sh d) ≡ 0
            none = rest ∙ rw (le-ltb (length d) (length (raw_form s sh)) (omega (arith, form-length s sh, room-told)))

            pub unpack-all : {q : ℕ} → q ≡ all_bytes sh → Ok q ≡ unpack_answer s sh d
            unfolding unpack_answer
            unpack-all qe = sym (by_none refuse (unpack_checks s sh d) _ none ∙ ap Ok (form-length s sh ∙ sym qe))

            pub left-all : {g : List ℕ} → g ≡ paste 0 (raw_form s sh) d → g ≡ unpack_left s sh d
            unfolding unpack_left
            left-all q = q ∙ paste-front (raw_form s sh) d _ refl ∙ sym (by_none (λ j. d) (unpack_checks s sh d) _ none)
