-- The unpacked length: a product of 64 bits, or 13.
use Prim.Native.Nat.{ℕ, ◌+◌, ◌*◌, ◌^◌, ◌≤◌, ◌<◌}
use mathlib.Core.Path.{◌≡◌, sym, ap, ◌∙◌}
use mathlib.Core.Bool.{Bool, true, false, not}
use mathlib.Core.List.{List}
use native.Mathlib.Omega.{arith}
use native.Mathlib.Nat.{mul_comm, mul_assoc, mul-le-mul, one-mul}
use mir.Syntax.{w64}
use mir.Val.{Fits}
use lib.Dec.{leb}
use lib.ListN.{length}
use borrow.Author.Tests.{le-leb, lt-leb, leb-true, leb-false, not-true, not-false}
use Rattle.refusal.specs.Checks.{first_number}
use Rattle.std.specs.Prelude.{Ok}
use Rattle.refusal.specs.Answers.{refuse}
use Rattle.refusal.proofs.Refusing.{by_number, by_none}
use Rattle.compressed_segmentation.specs.declared.Shape.{Shape}
use Rattle.compressed_segmentation.specs.Layout.{no_voxels}
use Rattle.compressed_segmentation.specs.raw_form.Raw.{label_bytes, raw_form, unpacked_bytes, unpacked_length_checks, length_answer}
use Rattle.compressed_segmentation.specs.raw_form.Writing.{all_bytes}
use Rattle.compressed_segmentation.proofs.raw_form.Wholes.{bytes_are, form-length}

-- labels counted axis by axis, or layer by layer
counted : (x y z c : ℕ) → x * (y * (z * c)) ≡ x * y * (z * c)
counted x y z c = sym (mul_assoc x y (z * c))

module _ (sh : Shape) (h : no_voxels sh ≡ false) where
  pub bytes-held : {a b l : ℕ} → a ≡ 0 + sh.extents.x * sh.extents.y → b ≡ 0 + sh.extents.z * sh.channels → l ≡ label_bytes sh → l * (a * b) ≡ all_bytes sh
  bytes-held {a} {b} {l} ae be le =
      let ae' : a ≡ sh.extents.x * sh.extents.y = omega arith in
      let be' : b ≡ sh.extents.z * sh.channels = omega arith in
      let e : b * a * l ≡ all_bytes sh = sym (bytes_are sh h ∙ cc) in
      mul_comm l (a * b) ∙ ap (λ (q : ℕ). q * l) (mul_comm a b) ∙ e

  module _ {a b l : ℕ} (few : all_bytes sh < 2 ^ 64) (ae : a ≡ 0 + sh.extents.x * sh.extents.y) (be : b ≡ 0 + sh.extents.z * sh.channels) (le : l ≡ label_bytes sh) (some : 0 < l) where
    pub labels_fit : Fits w64 (a * b)
    labels_fit =
        let e = bytes-held ae be le in
        let one : 1 ≤ l = omega arith in
        let same : a * b ≤ a * b = omega arith in
        let m : 1 * (a * b) ≤ l * (a * b) = mul-le-mul one same in
        omega (arith, one-mul (a * b))

    pub bytes_fit : Fits w64 (l * (a * b))
    bytes_fit = let e = bytes-held ae be le in omega arith

-- the raw form of every chunk of this shape has the unpacked length
module _ (sh : Shape) where
  pub unpacked_are : no_voxels sh ≡ false → unpacked_bytes sh ≡ all_bytes sh
  unfolding unpacked_bytes
  unpacked_are h =
      let e : label_bytes sh * (sh.extents.x * sh.extents.y * (sh.extents.z * sh.channels)) ≡ all_bytes sh = bytes-held sh h (omega arith) (omega arith) cc in
      ap (◌*◌ (label_bytes sh)) (counted sh.extents.x sh.extents.y sh.extents.z sh.channels) ∙ e

  pub form-bytes : (s : List ℕ) → no_voxels sh ≡ false → length (raw_form s sh) ≡ unpacked_bytes sh
  form-bytes s h = form-length s sh ∙ sym (unpacked_are h)

  -- ---- the ways out of `unpacked_length`

  pub length-refused : (k : ℕ) → 0 < k → first_number (unpacked_length_checks sh) ≡ k → refuse k ≡ length_answer sh
  unfolding length_answer
  length-refused k h f = sym (by_number refuse (unpacked_length_checks sh) _ k f h)

  module _ {b : Bool} (e : b ≡ no_voxels sh) where
    pub length_2 : b ≡ true → first_number (unpacked_length_checks sh) ≡ 2
    unfolding first_number unpacked_length_checks
    length_2 t = rw (← e, t)

    module _ (t : b ≡ false) where
      pub length-tested : no_voxels sh ≡ false
      length-tested = sym e ∙ t

      module _ {r : Bool} (re : r ≡ leb (all_bytes sh) 18446744073709551615) where
        pub length_13 : not r ≡ true → first_number (unpacked_length_checks sh) ≡ 13
        unfolding first_number unpacked_length_checks
        length_13 n =
            rw (length-tested, le-leb (2 ^ 64) (unpacked_bytes sh) (omega (arith, unpacked_are length-tested, leb-false (all_bytes sh) 18446744073709551615 (sym re ∙ not-true r n))))

        module _ (n : not r ≡ false) where
          pub length-few : all_bytes sh < 2 ^ 64
          length-few = omega (arith, leb-true (all_bytes sh) 18446744073709551615 (sym re ∙ not-false r n))

          none : first_number (unpacked_length_checks sh) ≡ 0
          unfolding first_number unpacked_length_checks
          none = rw (length-tested, lt-leb (2 ^ 64) (unpacked_bytes sh) (omega (arith, unpacked_are length-tested, length-few)))

          pub length-told : {q : ℕ} → q ≡ all_bytes sh → Ok q ≡ length_answer sh
          unfolding length_answer
          length-told qe = sym (by_none refuse (unpacked_length_checks sh) _ none ∙ ap Ok (unpacked_are length-tested ∙ sym qe))
