-- What a test that passed, or did not, says of its parts.
use mathlib.Core.Path.{◌≡◌, refl, sym, ◌∙◌}
use mathlib.Core.Bool.{Bool, true, false, not, ◌&&◌, ◌||◌}
use borrow.Author.Tests.{not-true, not-false}

pub both : (a b : Bool) → a && b ≡ true → (a ≡ true) × (b ≡ true)
both true b e = (refl, e)
both false b e = (cc, cc)

pub neither : (a b : Bool) → a || b ≡ false → (a ≡ false) × (b ≡ false)
neither true b e = (cc, cc)
neither false b e = (refl, e)

-- of a call's answer r to the test b
pub told-no : {r b : Bool} → r ≡ b → not r ≡ true → b ≡ false
told-no {r} e t = sym e ∙ not-true r t

pub told-yes : {r b : Bool} → r ≡ b → not r ≡ false → b ≡ true
told-yes {r} e t = sym e ∙ not-false r t
