-- The writes that make a minishard index, row by row: what is left, written over what stands there now, gives what is to stand there in the end.
use Prim.Native.Nat.{ℕ, zero, suc, ◌+◌, ◌*◌, ◌-◌, ◌≤◌, ◌<◌}
use mathlib.Core.Path.{◌≡◌, refl, sym, ap, ◌∙◌}
use mathlib.Core.List.{List, [], ◌∷◌, ◌++◌, append_assoc, append-nil}
use native.Mathlib.Omega.{arith}
use native.Mathlib.Numerals.{add-one}
use native.Mathlib.Nat.{add-zero, sub-zero}
use borrow.Author.Rules.{rules}
use lib.ListN.{length, replicate, replicate-append-replicate, length-append, length-replicate}
use Rattle.endian.specs.Little.{le, row}
use Rattle.endian.specs.Place.{paste}
use Rattle.endian.proofs.Little.{length-le, length-row}
use Rattle.endian.proofs.Paste.{paste-nil, paste-then}
use Rattle.intake.specs.waiting.Held.{pair, id_held, size_held, steps_held, sizes_held, starts_from, index_held}

-- ---- a pair

pub pair_put : (a b at : ℕ) (o : List ℕ) {o₁ o₂ : List ℕ} → at + 16 ≤ length o → o₁ ≡ paste at (le 8 a) o → o₂ ≡ paste (at + 8) (le 8 b) o₁
    → o₂ ≡ paste at (pair a b) o
unfolding row
pair_put a b at o l u v =
    paste-then at (at + 8) (le 8 a) (le 8 b) o u v (omega (arith, length-le 8 a)) (omega (arith, length-le 8 a)) ∙ simp append-nil

-- ---- the rows, by what is left of them

module _ (w : List ℕ) (i n : ℕ) where
  steps-none : (before : ℕ) → n ≤ i → steps_held before w i (n - i) ≡ []
  unfolding steps_held
  steps-none before l = let e : n - i ≡ 0 = omega arith in rw e

  steps-some : (before : ℕ) → i < n → steps_held before w i (n - i) ≡ (id_held w i - before) ∷ steps_held (id_held w i) w (i + 1) (n - (i + 1))
  unfolding steps_held
  steps-some before l = let e : n - i ≡ suc (n - (i + 1)) = omega arith in rw (e, add-one i)

  sizes-none : n ≤ i → sizes_held w i (n - i) ≡ []
  unfolding sizes_held
  sizes-none l = let e : n - i ≡ 0 = omega arith in rw e

  sizes-some : i < n → sizes_held w i (n - i) ≡ size_held w i ∷ sizes_held w (i + 1) (n - (i + 1))
  unfolding sizes_held
  sizes-some l = let e : n - i ≡ suc (n - (i + 1)) = omega arith in rw (e, add-one i)

-- ---- one number of a row

row-none : (at : ℕ) (ns d e : List ℕ) → ns ≡ [] → paste at (row ns) d ≡ e → d ≡ e
unfolding row
row-none at ns d e z h = sym (paste-nil at d) ∙ ap (λ (x : List ℕ). paste at (row x) d) (sym z) ∙ h

row-some : (at i v : ℕ) (ns rest d d' e : List ℕ) → ns ≡ v ∷ rest → d' ≡ paste (at + 8 * i) (le 8 v) d → at + 8 * i + 8 ≤ length d
    → paste (at + 8 * i) (row ns) d ≡ e → paste (at + 8 * (i + 1)) (row rest) d' ≡ e
unfolding row
row-some at i v ns rest d d' e z w l h =
    paste-then (at + 8 * i) (at + 8 * (i + 1)) (le 8 v) (row rest) d w refl (omega (arith, length-le 8 v)) (omega (arith, length-le 8 v))
    ∙ ap (λ (x : List ℕ). paste (at + 8 * i) (row x) d) (sym z) ∙ h

-- ---- the loops

pub record PutsSteps (w : List ℕ) (n at : ℕ) (d₀ d : List ℕ) (i before : ℕ) : Type 0 where
  pub below : i ≤ n
  pub same : length d ≡ length d₀
  pub left : paste (at + 8 * i) (row (steps_held before w i (n - i))) d ≡ paste at (row (steps_held 0 w 0 n)) d₀

pub steps_first : (w : List ℕ) (n at : ℕ) (d : List ℕ) → PutsSteps w n at d d 0 0
steps_first w n at d = record { below = omega arith; same = refl; left = rw (sub-zero, add-zero) }

module _ {w : List ℕ} {n at : ℕ} {d₀ d : List ℕ} {i before : ℕ} (h : PutsSteps w n at d₀ d i before) where
  pub steps_next : (v id : ℕ) (d' : List ℕ) → i < n → at + 8 * n ≤ length d₀ → length d' ≡ length d → id ≡ id_held w i → v ≡ id - before → d' ≡ paste (at + 8 * i) (le 8 v) d
      → PutsSteps w n at d₀ d' (i + 1) id
  steps_next v id d' l b s p q u =
      let g = h.same in
      let e : steps_held before w i (n - i) ≡ v ∷ steps_held id w (i + 1) (n - (i + 1)) = steps-some w i n before l ∙ rw (q, p) in
      record { below = omega arith; same = s ∙ h.same; left = row-some at i v _ _ d d' _ e u (omega arith) h.left }

  pub steps-last : n ≤ i → d ≡ paste at (row (steps_held 0 w 0 n)) d₀
  steps-last l = row-none (at + 8 * i) _ d _ (steps-none w i n before l) h.left

pub record PutsSizes (w : List ℕ) (n at : ℕ) (d₀ d : List ℕ) (i : ℕ) : Type 0 where
  pub below : i ≤ n
  pub same : length d ≡ length d₀
  pub left : paste (at + 8 * i) (row (sizes_held w i (n - i))) d ≡ paste at (row (sizes_held w 0 n)) d₀

pub sizes-first : (w : List ℕ) (n at : ℕ) (d : List ℕ) → PutsSizes w n at d d 0
sizes-first w n at d = record { below = omega arith; same = refl; left = rw (sub-zero, add-zero) }

module _ {w : List ℕ} {n at : ℕ} {d₀ d : List ℕ} {i : ℕ} (h : PutsSizes w n at d₀ d i) where
  pub sizes-next : (v : ℕ) (d' : List ℕ) → i < n → at + 8 * n ≤ length d₀ → length d' ≡ length d → v ≡ size_held w i → d' ≡ paste (at + 8 * i) (le 8 v) d
      → PutsSizes w n at d₀ d' (i + 1)
  sizes-next v d' l b s p u =
      let g = h.same in
      let e : sizes_held w i (n - i) ≡ v ∷ sizes_held w (i + 1) (n - (i + 1)) = sizes-some w i n l ∙ rw p in
      record { below = omega arith; same = s ∙ h.same; left = row-some at i v _ _ d d' _ e u (omega arith) h.left }

  pub sizes-last : n ≤ i → d ≡ paste at (row (sizes_held w 0 n)) d₀
  sizes-last l = row-none (at + 8 * i) _ d _ (sizes-none w i n l) h.left

-- ---- the start steps

row-zeros : (k : ℕ) → row (replicate k 0) ≡ replicate (8 * k) 0
unfolding row le
row-zeros zero = refl
row-zeros (suc k) =
    let e : 8 * suc k ≡ 8 + 8 * k = omega arith in
    rw (e, row-zeros k, ← replicate-append-replicate {A = ℕ} 8 (8 * k) 0)

starts-row : (p n : ℕ) → row (starts_from p n) ≡ le 8 p ++ replicate (8 * n - 8) 0
unfolding starts_from row
starts-row p n =
    let e : 8 * (n - 1) ≡ 8 * n - 8 = omega arith in
    rw (row-zeros (n - 1), e)

pub starts-put : (p n at : ℕ) (o : List ℕ) {o₁ o₂ : List ℕ} → at + 8 * n ≤ length o → 0 < n → o₁ ≡ paste at (le 8 p) o
    → o₂ ≡ paste (at + 8) (replicate (8 * n - 8) 0) o₁ → o₂ ≡ paste at (row (starts_from p n)) o
starts-put p n at o l h u v =
    paste-then at (at + 8) (le 8 p) (replicate (8 * n - 8) 0) o u v (omega (arith, length-le 8 p)) (omega (arith, length-le 8 p))
    ∙ ap (λ (x : List ℕ). paste at x o) (sym (starts-row p n))

-- ---- the three rows

length-steps : (before : ℕ) (w : List ℕ) (i k : ℕ) → length (steps_held before w i k) ≡ k
unfolding steps_held
length-steps before w i zero = refl
length-steps before w i (suc k) = ap suc (length-steps (id_held w i) w (suc i) k)

length-starts : (p n : ℕ) → 0 < n → length (starts_from p n) ≡ n
unfolding starts_from
length-starts p n h = omega (arith, length-replicate {A = ℕ} (n - 1) 0)

length-sizes : (w : List ℕ) (i k : ℕ) → length (sizes_held w i k) ≡ k
unfolding sizes_held
length-sizes w i zero = refl
length-sizes w i (suc k) = ap suc (length-sizes w (suc i) k)

pub length-index : (p : ℕ) (w : List ℕ) (n : ℕ) → 0 < n → length (index_held p w n) ≡ 24 * n
unfolding index_held
length-index p w n h =
    simp (length-append, length-row, length-steps, length-sizes) (omega (arith, length-starts p n h))

pub index-put : (w : List ℕ) (n p at : ℕ) (o : List ℕ) {o₁ o₂ o₃ : List ℕ} → 0 < n → at + 24 * n ≤ length o
    → o₁ ≡ paste at (row (steps_held 0 w 0 n)) o
    → o₂ ≡ paste (at + 8 * n) (row (starts_from p n)) o₁
    → o₃ ≡ paste (at + 16 * n) (row (sizes_held w 0 n)) o₂
    → o₃ ≡ paste at (index_held p w n) o
unfolding index_held
index-put w n p at o h l u₁ u₂ u₃ =
    let A = row (steps_held 0 w 0 n) in
    let B = row (starts_from p n) in
    let C = row (sizes_held w 0 n) in
    let la : length A ≡ 8 * n = length-row _ ∙ ap (◌*◌ 8) (length-steps 0 w 0 n) in
    let lb : length B ≡ 8 * n = length-row _ ∙ ap (◌*◌ 8) (length-starts p n h) in
    let lab = length-append A B in
    let g = paste-then at (at + 8 * n) A B o u₁ u₂ (omega arith) (omega arith) in
    paste-then at (at + 16 * n) (A ++ B) C o g u₃ (omega arith) (omega arith) ∙ ap (λ (x : List ℕ). paste at x o) (append_assoc A B C)

pub ruleset writing = (steps_first, steps_next, steps-last, sizes-first, sizes-next, sizes-last, starts-put, index-put, pair_put, rules)
