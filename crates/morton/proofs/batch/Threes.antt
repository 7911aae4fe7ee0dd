-- Numbers lent as cells, three for each: one turn of a loop takes the cell at its front; and the ways out of `keys_of`.
use Prim.Native.Nat.{ℕ, zero, suc, ◌+◌, ◌*◌, ◌/◌, ◌≤◌, ◌<◌}
use mathlib.Core.Path.{◌≡◌, refl, sym, ◌∙◌}
use mathlib.Core.Bool.{Bool, true, false, not}
use mathlib.Core.List.{List, [], ◌∷◌, map}
use native.Mathlib.Omega.{arith}
use native.Mathlib.Nat.{suc-add}
use native.Mathlib.Numerals.{add-one}
use borrow.Author.Tests.{lt-ltb, le-ltb, not-true, not-false}
use lib.ListN.{length, set, drop, length-map}
use Rattle.refusal.specs.Checks.{first_number}
use Rattle.std.specs.Prelude.{Ok}
use Rattle.refusal.specs.Answers.{refuse}
use Rattle.refusal.proofs.Refusing.{by_number, by_none}
use Rattle.endian.specs.Place.{paste}
use Rattle.endian.proofs.Paste.{paste-front}
use Rattle.endian.proofs.Mapped.{drop_all, map_next, map_past}
use Rattle.morton.specs.declared.grid.Volume.{Volume}
use Rattle.morton.specs.declared.grid.Extents.{Extents}
use Rattle.morton.specs.declared.grid.Cell.{Cell}
use Rattle.morton.specs.grid.Grid.{grid_of, zero_extent, in_grid}
use Rattle.morton.specs.Key.{too_many_bits, key_of}
use Rattle.morton.specs.batch.Batch.{cell_at, cells_of, each_in_grid, keys_of, keys_checks, keys_answer, keys_left}

pub length-cells : (s : List ℕ) → length (cells_of s) ≡ length s / 3
unfolding cells_of
length-cells [] = refl
length-cells (x ∷ []) = refl
length-cells (x ∷ y ∷ []) = refl
length-cells (x ∷ y ∷ z ∷ s) = let h = length-cells s in omega arith

-- the cell at i is that of the three numbers from 3 × i on
front-from : (s : List ℕ) (i p : ℕ) → p ≡ 3 * i → i < length s / 3 → drop i (cells_of s) ≡ cell_at s p ∷ drop (suc i) (cells_of s)
unfolding cells_of
front-from [] i p e h = absurd (omega arith)
front-from (x ∷ []) i p e h = absurd (omega arith)
front-from (x ∷ y ∷ []) i p e h = absurd (omega arith)
front-from (x ∷ y ∷ z ∷ s) zero zero e h = refl
front-from (x ∷ y ∷ z ∷ s) zero (suc p) e h = absurd (omega arith)
front-from (x ∷ y ∷ z ∷ s) (suc i) zero e h = absurd (omega arith)
front-from (x ∷ y ∷ z ∷ s) (suc i) (suc zero) e h = absurd (omega arith)
front-from (x ∷ y ∷ z ∷ s) (suc i) (suc (suc zero)) e h = absurd (omega arith)
front-from (x ∷ y ∷ z ∷ s) (suc i) (suc (suc (suc p))) e h = simp suc-add (front-from s i p (omega arith) (omega arith))

front-cell : (s : List ℕ) (i : ℕ) → i < length s / 3 → drop i (cells_of s) ≡ cell_at s (3 * i) ∷ drop (i + 1) (cells_of s)
front-cell s i h = rw (add-one i) (front-from s i (3 * i) refl h)

-- ---- each cell is looked at

module _ (g : Extents) (s : List ℕ) (i : ℕ) {x : Cell} (a : x ≡ cell_at s (3 * i)) {b : Bool} (o : b ≡ in_grid g x) {w : Bool} (e : w ≡ each_in_grid g (drop i (cells_of s))) where
  pub one_outside : i < length s / 3 → not b ≡ true → false ≡ w
  unfolding each_in_grid
  one_outside h t = sym (e ∙ rw (front-cell s i h, ← a, ← o, not-true b t))

  pub one_inside : i < length s / 3 → not b ≡ false → w ≡ each_in_grid g (drop (i + 1) (cells_of s))
  unfolding each_in_grid
  one_inside h t = e ∙ rw (front-cell s i h, ← a, ← o, not-false b t)

pub all_looked : (g : Extents) (s : List ℕ) (i : ℕ) {w : Bool} → w ≡ each_in_grid g (drop i (cells_of s)) → length s / 3 ≤ i → true ≡ w
unfolding each_in_grid
all_looked g s i e h = sym (e ∙ rw (drop_all (cells_of s) i (omega (arith, length-cells s))))

-- ---- the key of each is written

pub key_next : (f : Cell → ℕ) (s : List ℕ) (i : ℕ) (d : List ℕ) {e : List ℕ} → paste i (map f (drop i (cells_of s))) d ≡ e
    → {x : Cell} {v : ℕ} → x ≡ cell_at s (3 * i) → v ≡ f x → i < length s / 3 → length s / 3 ≤ length d
    → paste (i + 1) (map f (drop (i + 1) (cells_of s))) (set d i v) ≡ e
key_next f s i d h a w l m = map_next f (cells_of s) i d h (rw a (front-cell s i l)) w (omega arith)

pub key_past : (f : Cell → ℕ) (s : List ℕ) (i : ℕ) (d : List ℕ) → length s / 3 ≤ i → paste i (map f (drop i (cells_of s))) d ≡ d
key_past f s i d l = map_past f (cells_of s) i d (omega (arith, length-cells s))

-- ---- the ways out of `keys_of`: the number of the first check that holds, or 0

module _ (v : Volume) (s keys : List ℕ) {z : Bool} (e : z ≡ zero_extent v) where
  pub keys_2_extent : z ≡ true → first_number (keys_checks v (cells_of s) keys) ≡ 2
  unfolding first_number keys_checks
  keys_2_extent t = rw (← e, t)

  module _ (t : z ≡ false) {g : Extents} (m : g ≡ grid_of v) {b : Bool} (o : b ≡ each_in_grid g (cells_of s)) where
    pub keys_2_cell : not b ≡ true → first_number (keys_checks v (cells_of s) keys) ≡ 2
    unfolding first_number keys_checks
    keys_2_cell u = rw (← e, t, ← m, ← o, u)

    module _ (u : not b ≡ false) {k : Bool} (n : k ≡ too_many_bits g) where
      pub keys_3 : k ≡ true → first_number (keys_checks v (cells_of s) keys) ≡ 3
      unfolding first_number keys_checks
      keys_3 h = rw (← e, t, ← m, ← o, u, ← n, h)

      pub keys_13 : k ≡ false → length keys < length s / 3 → first_number (keys_checks v (cells_of s) keys) ≡ 13
      unfolding first_number keys_checks keys_of
      keys_13 h l = rw (← e, t, ← m, ← o, u, ← n, h, length-map, length-cells s, lt-ltb _ _ l)

      pub keys_0 : k ≡ false → length s / 3 ≤ length keys → first_number (keys_checks v (cells_of s) keys) ≡ 0
      unfolding first_number keys_checks keys_of
      keys_0 h l = rw (← e, t, ← m, ← o, u, ← n, h, length-map, length-cells s, le-ltb _ _ l)

module _ (v : Volume) (cells : List Cell) (keys : List ℕ) where
  pub keys-refused : (k : ℕ) → 0 < k → first_number (keys_checks v cells keys) ≡ k → refuse k ≡ keys_answer v cells keys
  unfolding keys_answer
  keys-refused k h f = sym (by_number refuse (keys_checks v cells keys) _ k f h)

  pub keys_kept_lem : (k : ℕ) → 0 < k → first_number (keys_checks v cells keys) ≡ k → keys ≡ keys_left v cells keys
  unfolding keys_left
  keys_kept_lem k h f = sym (by_number (λ j. keys) (keys_checks v cells keys) _ k f h)

  keys-written : first_number (keys_checks v cells keys) ≡ 0 → {n : ℕ} → n ≡ length cells → Ok n ≡ keys_answer v cells keys
  unfolding keys_answer keys_of
  keys-written f e = sym (by_none refuse (keys_checks v cells keys) _ f ∙ rw (length-map, e))

  pub keys-over : first_number (keys_checks v cells keys) ≡ 0 → {g : Extents} → g ≡ grid_of v → {now : List ℕ} → now ≡ paste 0 (map (key_of g) cells) keys → now ≡ keys_left v cells keys
  unfolding keys_left keys_of
  keys-over f m p = p ∙ rw m (paste-front (map (key_of (grid_of v)) cells) keys _ refl) ∙ sym (by_none (λ j. keys) (keys_checks v cells keys) _ f)

pub written-cells : (v : Volume) (s keys : List ℕ) → first_number (keys_checks v (cells_of s) keys) ≡ 0 → Ok (length s / 3) ≡ keys_answer v (cells_of s) keys
written-cells v s keys f = keys-written v (cells_of s) keys f (sym (length-cells s))
