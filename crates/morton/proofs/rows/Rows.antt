-- A row of cells: its last cell decides whether all are inside, one turn of a loop takes the cell at its front; and the ways out of `row_keys`.
use Prim.Native.Nat.{ℕ, zero, suc, ◌+◌, ◌-◌, ◌*◌, ◌/◌, ◌%◌, ◌^◌, ◌≤◌, ◌<◌}
use mathlib.Core.Path.{◌≡◌, refl, sym, ap, ◌∙◌}
use mathlib.Core.Bool.{Bool, true, false, not, ◌&&◌}
use mathlib.Core.List.{List, [], ◌∷◌, map}
use native.Mathlib.Omega.{arith}
use native.Mathlib.Nat.{add-zero, mod-lt}
use lib.Pow.{pow_pos, split, high}
use borrow.Author.Tests.{lt-ltb, le-ltb}
use lib.ListN.{length, set, length-map}
use Rattle.refusal.specs.Checks.{first_number}
use Rattle.std.specs.Prelude.{Ok}
use Rattle.refusal.specs.Answers.{refuse}
use Rattle.refusal.proofs.Refusing.{by_none}
use Rattle.endian.specs.Place.{paste}
use Rattle.endian.proofs.Paste.{paste-nil, paste-cons}
use Rattle.morton.specs.declared.grid.Volume.{Volume}
use Rattle.morton.specs.declared.grid.Extents.{Extents}
use Rattle.morton.specs.declared.grid.Cell.{Cell}
use Rattle.morton.specs.grid.Grid.{grid_of, zero_extent, in_grid}
use Rattle.morton.specs.Key.{too_many_bits}
use Rattle.morton.proofs.grid.Ways.{inside-all, in_z}
use Rattle.morton.specs.batch.Batch.{each_in_grid, keys_of, keys_checks, keys_answer}
use Rattle.morton.specs.spread.Spread.{spread}
use Rattle.morton.specs.plan.Parts.{low_key, rest_key}
use Rattle.morton.specs.rows.Row.{cells_from, row_of}

-- ---- inside
and_right : (a b : Bool) → (b ≡ true → a ≡ true) → (a && b) ≡ b
and_right true b h = refl
and_right false true h = h refl
and_right false false h = refl

and-true : (a : Bool) → (a && true) ≡ a
and-true true = refl
and-true false = refl

module _ (g : Extents) (y z : ℕ) where
  abbrev at : ℕ → Cell
  at x = record { x = x; y = y; z = z }

  -- a cell before one that is inside is inside too
  before : (x n : ℕ) → in_grid g (at (x + n)) ≡ true → in_grid g (at x) ≡ true
  before x n e =
      let p = inside-all g (at (x + n)) e in
      let l : x < g.x = omega arith in
      sym (in_z g (at x) l p.1) ∙ lt-ltb _ _ p.2

  last_decides : (n x : ℕ) → each_in_grid g (cells_from (suc n) x y z) ≡ in_grid g (at (x + n))
  unfolding each_in_grid cells_from
  last_decides zero x = rw add-zero (and-true (in_grid g (at x)))
  last_decides (suc n) x =
      ap (λ (b : Bool). in_grid g (at x) && b) (last_decides n (suc x) ∙ ap (λ (m : ℕ). in_grid g (at m)) (omega arith))
      ∙ and_right (in_grid g (at x)) (in_grid g (at (x + suc n))) (before x (suc n))

  pub row-none : (from to : ℕ) → to ≤ from → true ≡ each_in_grid g (row_of from to y z)
  unfolding each_in_grid cells_from
  row-none from to h = let e : to - from ≡ 0 = omega arith in rw e

  pub row_last : (from to : ℕ) → from < to → {b : Bool} → b ≡ in_grid g (record { x = to - 1; y = y; z = z }) → b ≡ each_in_grid g (row_of from to y z)
  row_last from to h p =
      let e : to - from ≡ suc (to - 1 - from) = omega arith in
      let f : from + (to - 1 - from) ≡ to - 1 = omega arith in
      p ∙ ap (λ (m : ℕ). in_grid g (at m)) (sym f) ∙ sym (last_decides (to - 1 - from) from) ∙ ap (λ (m : ℕ). each_in_grid g (cells_from m from y z)) (sym e)

-- ---- the key of each is written
pub low-row : (n x y z : ℕ) {s t : ℕ} → s ≡ spread n x → t ≡ 2 * spread n y + 4 * spread n z → s + t ≡ low_key n (record { x = x; y = y; z = z })
unfolding low_key
low-row n x y z p q = omega arith

-- two cells side by side, the second of which begins no coarse cell, are in one coarse cell
same_coarse : (n x : ℕ) → 0 < (x + 1) % 2 ^ n → x / 2 ^ n ≡ (x + 1) / 2 ^ n
same_coarse n x h =
    let m : (x + 1) % 2 ^ n - 1 < 2 ^ n = omega (arith, mod-lt (x + 1) (pow_pos n)) in
    let e : x ≡ (x + 1) / 2 ^ n * 2 ^ n + ((x + 1) % 2 ^ n - 1) = omega (arith, split (x + 1) n) in
    ap (λ (w : ℕ). w / 2 ^ n) e ∙ high ((x + 1) / 2 ^ n) n m

pub same_rest : (n : ℕ) (g : Extents) (x y z : ℕ) {r s : ℕ} → r ≡ (x + 1) % 2 ^ n → (r ≡ 0 → ⊥)
    → s ≡ rest_key n g (record { x = x; y = y; z = z }) → s ≡ rest_key n g (record { x = x + 1; y = y; z = z })
unfolding rest_key
same_rest n g x y z e h p = p ∙ rw (same_coarse n x (omega arith))

pub row-start : (x : ℕ) (xs d : List ℕ) → paste (x - x) xs d ≡ paste 0 xs d
row-start x xs d = ap (λ (j : ℕ). paste j xs d) (omega arith)

module _ (f : Cell → ℕ) (from to y z x : ℕ) (d : List ℕ) {e : List ℕ} (h : paste (x - from) (map f (cells_from (to - x) x y z)) d ≡ e) where
  pub row_next : from ≤ x → x < to → {v : ℕ} → v ≡ f (record { x = x; y = y; z = z }) → to - from ≤ length d
      → paste (x + 1 - from) (map f (cells_from (to - (x + 1)) (x + 1) y z)) (set d (x - from) v) ≡ e
  unfolding cells_from
  row_next k l {v} w m =
      let a : x + 1 - from ≡ x - from + 1 = omega arith in
      let b : to - x ≡ suc (to - (x + 1)) = omega arith in
      let s : suc x ≡ x + 1 = omega arith in
      let p : map f (cells_from (to - x) x y z) ≡ v ∷ map f (cells_from (to - (x + 1)) (x + 1) y z) = rw (b, s, w) in
      ap (λ (j : ℕ). paste j (map f (cells_from (to - (x + 1)) (x + 1) y z)) (set d (x - from) v)) a
      ∙ paste-cons (x - from) v (map f (cells_from (to - (x + 1)) (x + 1) y z)) d (omega arith)
      ∙ ap (λ (xs : List ℕ). paste (x - from) xs d) (sym p)
      ∙ h

  pub row-end : to ≤ x → d ≡ e
  unfolding cells_from
  row-end l =
      let b : to - x ≡ 0 = omega arith in
      let p : map f (cells_from (to - x) x y z) ≡ [] = rw b in
      sym (paste-nil (x - from) d) ∙ ap (λ (xs : List ℕ). paste (x - from) xs d) (sym p) ∙ h

pub length_from : (n x y z : ℕ) → length (cells_from n x y z) ≡ n
unfolding cells_from
length_from zero x y z = refl
length_from (suc n) x y z = ap suc (length_from n (suc x) y z)

-- ---- the ways out of `row_keys`
module _ (v : Volume) (cells : List Cell) (keys : List ℕ) {z : Bool} (e : z ≡ zero_extent v) where
  pub row_2_extent : z ≡ true → first_number (keys_checks v cells keys) ≡ 2
  unfolding first_number keys_checks
  row_2_extent t = rw (← e, t)

  module _ (t : z ≡ false) {g : Extents} (m : g ≡ grid_of v) {b : Bool} (o : b ≡ each_in_grid g cells) where
    pub row_2_cell : not b ≡ true → first_number (keys_checks v cells keys) ≡ 2
    unfolding first_number keys_checks
    row_2_cell u = rw (← e, t, ← m, ← o, u)

    module _ (u : not b ≡ false) {k : Bool} (n : k ≡ too_many_bits g) where
      pub row_3 : k ≡ true → first_number (keys_checks v cells keys) ≡ 3
      unfolding first_number keys_checks
      row_3 h = rw (← e, t, ← m, ← o, u, ← n, h)

      pub row_13 : k ≡ false → length keys < length cells → first_number (keys_checks v cells keys) ≡ 13
      unfolding first_number keys_checks keys_of
      row_13 h l = rw (← e, t, ← m, ← o, u, ← n, h, length-map, lt-ltb _ _ l)

      pub row_0 : k ≡ false → length cells ≤ length keys → first_number (keys_checks v cells keys) ≡ 0
      unfolding first_number keys_checks keys_of
      row_0 h l = rw (← e, t, ← m, ← o, u, ← n, h, length-map, le-ltb _ _ l)

-- how long a row is
module _ (from to y z : ℕ) {r : ℕ} (e : r ≡ to - from) where
  pub too_short : (n : ℕ) → n < r → n < length (row_of from to y z)
  too_short n h = omega (arith, length_from (to - from) from y z)

  pub long-enough : (n : ℕ) → r ≤ n → length (row_of from to y z) ≤ n
  long-enough n h = omega (arith, length_from (to - from) from y z)

  pub room : (n : ℕ) → r ≤ n → to - from ≤ n
  room n h = omega arith

  pub row_written : (v : Volume) (keys : List ℕ) → first_number (keys_checks v (row_of from to y z) keys) ≡ 0 → Ok r ≡ keys_answer v (row_of from to y z) keys
  unfolding keys_answer keys_of
  row_written v keys f = sym (by_none refuse (keys_checks v (row_of from to y z) keys) _ f ∙ rw (length-map, length_from (to - from) from y z, e))
