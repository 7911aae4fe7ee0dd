-- How the cells of an axis lie: each beside the next, none where another one does.
use Prim.Native.Nat.{ℕ, ◌+◌, ◌*◌, ◌/◌, ◌≤◌, ◌<◌}
use mathlib.Core.Path.{◌≡◌, sym, ap, ◌∙◌}
use native.Mathlib.Omega.{arith}
use native.Mathlib.Nat.{mul-div_cancel}
use lib.IntN.{ℤ, pos, neg_ℤ, ◌+ℤ◌, +ℤ_assoc, +ℤ_invl, +ℤ_idl}
use Rattle.morton.specs.bounds.Bounds.{cell_begin, cell_end}

-- a whole cell ends where the next one begins, and the last one ends with the volume
pub cells_adjoin : (o : ℤ) (size chunk g : ℕ) → (g + 1) * chunk ≤ size → cell_end o size chunk g ≡ cell_begin o chunk (g + 1)
unfolding cell_end cell_begin
cells_adjoin o size chunk g h = ap (λ (n : ℕ). o +ℤ pos n) (omega arith)

pub last-cell-ends : (o : ℤ) (size chunk g : ℕ) → size ≤ (g + 1) * chunk → cell_end o size chunk g ≡ o +ℤ pos size
unfolding cell_end
last-cell-ends o size chunk g h = ap (λ (n : ℕ). o +ℤ pos n) (omega arith)

-- different cells of an axis begin at different places
cancelled : (o a : ℤ) → neg_ℤ o +ℤ (o +ℤ a) ≡ a
cancelled o a = sym (+ℤ_assoc (neg_ℤ o) o a) ∙ ap (λ (z : ℤ). z +ℤ a) (+ℤ_invl o) ∙ +ℤ_idl a

pub same-begin-same-cell : (o : ℤ) (chunk a b : ℕ) → 0 < chunk → cell_begin o chunk a ≡ cell_begin o chunk b → a ≡ b
unfolding cell_begin
same-begin-same-cell o chunk a b p e =
    let q : pos (a * chunk) ≡ pos (b * chunk) = sym (cancelled o _) ∙ ap (λ (z : ℤ). neg_ℤ o +ℤ z) e ∙ cancelled o _ in
    let r : a * chunk ≡ b * chunk = cc in
    sym (mul-div_cancel a p) ∙ ap (λ (n : ℕ). n / chunk) r ∙ mul-div_cancel b p
