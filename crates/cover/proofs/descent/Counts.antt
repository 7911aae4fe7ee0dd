-- A loop that writes numbers one after the other.
use Prim.Native.Nat.{ℕ, suc, ◌+◌, ◌-◌, ◌≤◌, ◌<◌}
use mathlib.Core.Path.{◌≡◌, ◌∙◌}
use mathlib.Core.List.{List, ◌∷◌}
use native.Mathlib.Omega.{arith}
use native.Mathlib.Nat.{add-zero, sub-zero}
use lib.ListN.{length, set}
use Rattle.endian.specs.Place.{paste}
use Rattle.endian.proofs.Paste.{paste-nil, paste-cons}
use Rattle.cover.specs.halves.Box.{counting}

-- ---- a loop that counts: what is left to write, over what stands there now, gives what is to stand there in the end
pub count_first : (k n at : ℕ) (d : List ℕ) → paste (at + 0) (counting (k + 0) (n - 0)) d ≡ paste at (counting k n) d
count_first k n at d = simp (add-zero, sub-zero)

counting-cons : (k n i : ℕ) → i < n → counting (k + i) (n - i) ≡ (k + i) ∷ counting (k + (i + 1)) (n - (i + 1))
unfolding counting
counting-cons k n i l =
    let e : n - i ≡ suc (n - (i + 1)) = omega arith in
    let f : suc (k + i) ≡ k + (i + 1) = omega arith in
    rw (e, f)

pub count_next : (k n at i : ℕ) (d : List ℕ) {e : List ℕ} → paste (at + i) (counting (k + i) (n - i)) d ≡ e → i < n → at + n ≤ length d
    → paste (at + (i + 1)) (counting (k + (i + 1)) (n - (i + 1))) (set d (at + i) (k + i)) ≡ e
count_next k n at i d {e} h l r =
    let f : at + (i + 1) ≡ (at + i) + 1 = omega arith in
    let g : at + i < length d = omega arith in
    let c : paste (at + i) ((k + i) ∷ counting (k + (i + 1)) (n - (i + 1))) d ≡ e = rw (counting-cons k n i l) at h in
    rw f (paste-cons (at + i) (k + i) (counting (k + (i + 1)) (n - (i + 1))) d g ∙ c)

pub count_past : (k n at i : ℕ) (d : List ℕ) → n ≤ i → paste (at + i) (counting (k + i) (n - i)) d ≡ d
unfolding counting
count_past k n at i d l = let z : n - i ≡ 0 = omega arith in rw z (paste-nil (at + i) d)
