use Rattle.std.proofs.Common.{◌≡◌, ℕ, Bool, true, false, refl, sym, ◌∙◌}
use Rattle.std.proofs.Math.Dec.{eqb}
use Rattle.std.proofs.Math.Bool.{or-false}
use borrow.Author.Tests.{eqb-true, eq-eqb}
use Rattle.compressed_segmentation.specs.Layout.{is_width}
use Rattle.compressed_segmentation.proofs.shape_tests.is_width.Goals as goal

eqb-flip : (a b : ℕ) → eqb a b ≡ eqb b a
eqb-flip a b = go (eqb a b) refl (eqb b a) refl
  where
    go : (s : Bool) → eqb a b ≡ s → (t : Bool) → eqb b a ≡ t → eqb a b ≡ eqb b a
    go true p t q = p ∙ sym (eq-eqb b a (sym (eqb-true a b p)))
    go false p true q = eq-eqb a b (sym (eqb-true b a q)) ∙ sym q
    go false p false q = p ∙ sym q

pub returns : goal.returns
unfolding is_width
returns c =
    let w = c.args.w in
    c.contains.ensures.value ∙ rw (eqb-flip 0 w, eqb-flip 1 w, eqb-flip 2 w, eqb-flip 4 w, eqb-flip 8 w, eqb-flip 16 w, eqb-flip 32 w, or-false)
