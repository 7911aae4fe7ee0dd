-- Order 14's promises, from the crates' laws.
use Prim.Native.Nat.{ℕ, ◌^◌, ◌≤◌, ◌<◌}
use mathlib.Core.Path.{◌≡◌, refl, sym, ap, ◌∙◌}
use mathlib.Core.Bool.{Bool, true, false}
use mathlib.Core.List.{List, [], ◌∷◌}
use native.Mathlib.Omega.{arith}
use lib.Dec.{ltb}
use lib.ListN.{length, drop}
use lib.Seq.{drop-append_seam}
use borrow.Author.Tests.{ltb-true, ltb-false, lt-leb}
use Rattle.refusal.specs.Choice.{pick}
use Rattle.refusal.specs.Checks.{first_number, unless}
use Rattle.std.specs.Prelude.{Ok}
use Rattle.refusal.specs.Answers.{refuse}
use Rattle.refusal.proofs.Picks.{all_in_lem}
use Rattle.refusal.proofs.Refusing.{by_none, first-most}
use Rattle.endian.specs.Little.{le, le_at}
use Rattle.endian.specs.Range.{any_below}
use Rattle.morton.specs.grid.Grid.{grid_size, has_zero}
use Rattle.compressed_segmentation.specs.declared.Shape.{Shape}
use Rattle.compressed_segmentation.specs.Words.{word, whole}
use Rattle.compressed_segmentation.specs.Layout.{no_voxels, outside_shape, block_number, place_number, is_width}
use Rattle.compressed_segmentation.specs.Labels.{value_in, label_at, other_width, cut_off, label_checks, label_answer}
use Rattle.compressed_segmentation.specs.block.Voxels.{some_refused}
use Rattle.compressed_segmentation.specs.raw_form.Raw.{concat_to, raw_voxel, raw_row, raw_layer, raw_channel, raw_form, unpack_checks, unpack_answer, unpack_left, unpacked_bytes, unpacked_length_checks, length_answer}
use Rattle.compressed_segmentation.proofs.unpacking.Laws.{equals_asking, refuses_by_voxels, length_none, refused-number}
use Rattle.compressed_segmentation.proofs.raw_form.Lengths.{form-bytes}
use Rattle.theorems.specs.Labels.{worked_shape, worked_chunk, zeros, worked_raw, Order14}

-- ---- lengths

-- the number of the first of unpacking's checks that holds
abbrev number : Bool → Bool → Bool → Bool → ℕ
number a b c d = pick a 2 (pick b 29 (pick c 28 (pick d 13 0)))

number_0 : (a b c d : Bool) → number a b c d ≡ 0 → (a ≡ false) × (d ≡ false)
number_0 true b c d e = absurd (omega arith)
number_0 false true c d e = absurd (omega arith)
number_0 false false true d e = absurd (omega arith)
number_0 false false false true e = absurd (omega arith)
number_0 false false false false e = (refl, refl)

number_13 : (a b c d : Bool) → number a b c d ≡ 13 → (a ≡ false) × (d ≡ true)
number_13 true b c d e = absurd (omega arith)
number_13 false true c d e = absurd (omega arith)
number_13 false false true d e = absurd (omega arith)
number_13 false false false true e = (refl, refl)
number_13 false false false false e = absurd (omega arith)

module _ (sh : Shape) (n : ℕ) (e : length_answer sh ≡ Ok n) where
  length_unrefused : first_number (unpacked_length_checks sh) ≡ 0
  unfolding length_answer
  length_unrefused = length_none _ _ n e

  length-answered : length_answer sh ≡ Ok (unpacked_bytes sh)
  unfolding length_answer
  length-answered = by_none refuse (unpacked_length_checks sh) _ length_unrefused

  measured : n ≡ unpacked_bytes sh
  measured = let f = length-answered in cc

module _ (s : List ℕ) (sh : Shape) (out : List ℕ) (n : ℕ) where
  unpack-none : unpack_answer s sh out ≡ Ok n → first_number (unpack_checks s sh out) ≡ 0
  unfolding unpack_answer
  unpack-none e = length_none _ _ n e

  unpack-answered : unpack_answer s sh out ≡ Ok n → unpack_answer s sh out ≡ Ok (length (raw_form s sh))
  unfolding unpack_answer
  unpack-answered e = by_none refuse (unpack_checks s sh out) _ (unpack-none e)

  unpack-length : unpack_answer s sh out ≡ Ok n → n ≡ length (raw_form s sh)
  unpack-length e = let f = unpack-answered e in cc

  unpack-past : unpack_answer s sh out ≡ Ok n → drop n (unpack_left s sh out) ≡ drop n out
  unfolding unpack_left
  unpack-past e =
      ap (drop n) (by_none (λ j. out) (unpack_checks s sh out) _ (unpack-none e))
      ∙ rw (unpack-length e) (drop-append_seam (raw_form s sh) (drop (length (raw_form s sh)) out))

  unpack-told : length out < 2 ^ 64 → unpack_answer s sh out ≡ Ok n → length_answer sh ≡ Ok n
  unfolding length_answer unpacked_length_checks first_number unpack_checks
  unpack-told h e =
      let f = number_0 (no_voxels sh) (some_refused 29 s sh) (some_refused 28 s sh) (ltb (length out) (length (raw_form s sh))) (unpack-none e) in
      let g : length (raw_form s sh) ≤ length out = ltb-false (length out) (length (raw_form s sh)) f.1 in
      let l = form-bytes sh s f.0 in
      let q = unpack-length e in
      by_none refuse (unpacked_length_checks sh) _ (rw (f.0, lt-leb (2 ^ 64) (unpacked_bytes sh) (omega arith))) ∙ ap Ok (sym l ∙ sym q)

  enough-room : length_answer sh ≡ Ok n → n ≤ length out → unpack_answer s sh out ≡ refuse 13 → ⊥
  unfolding unpack_answer first_number unpack_checks
  enough-room e h r =
      let f = number_13 (no_voxels sh) (some_refused 29 s sh) (some_refused 28 s sh) (ltb (length out) (length (raw_form s sh))) (refused-number _ _ 13 (first-most (unpack_checks s sh out) (all_in_lem (unpack_checks s sh out) refl)) (omega arith, omega arith) r) in
      let g : length out < length (raw_form s sh) = ltb-true (length out) (length (raw_form s sh)) f.1 in
      let l = form-bytes sh s f.0 in
      omega (arith, measured sh n e)

-- ---- the worked chunk

worked-answer : unpack_answer worked_chunk worked_shape (zeros 32 (5 ∷ [])) ≡ Ok 32
unfolding first_number unless unpack_answer unpack_checks some_refused any_below raw_form raw_channel raw_layer raw_row raw_voxel concat_to label_answer label_checks label_at other_width cut_off value_in no_voxels has_zero outside_shape block_number place_number grid_size is_width word whole le le_at
worked-answer = refl

worked-left : unpack_left worked_chunk worked_shape (zeros 32 (5 ∷ [])) ≡ worked_raw (5 ∷ [])
unfolding first_number unless unpack_left unpack_checks some_refused any_below raw_form raw_channel raw_layer raw_row raw_voxel concat_to label_answer label_checks label_at other_width cut_off value_in no_voxels has_zero outside_shape block_number place_number grid_size is_width word whole le le_at
worked-left = refl

pub order_14 : Order14
order_14 = record {
  asking = equals_asking;
  voxels = refuses_by_voxels;
  past = unpack-past;
  told = λ s sh out n h e. unpack-told s sh out n h e;
  room = λ s sh out n e h r. enough-room s sh out n e h r;
  worked = (worked-answer, worked-left);
}
