-- What the table, the agreement with the steps and the rows promise.
use Prim.Native.Nat.{ℕ, zero, suc, ◌+◌, ◌-◌, ◌^◌, ◌≤◌, ◌<◌}
use mathlib.Core.Path.{◌≡◌, refl, sym, ap, ◌∙◌}
use mathlib.Core.Bool.{true, false}
use mathlib.Core.Logic.{◌↔◌, ⊎_elim}
use mathlib.Core.List.Memᴰ
use mathlib.Core.List.{List, map, Memᴰ}
use native.Mathlib.Omega.{arith}
use native.Mathlib.Nat.{not-suc-le-zero}
use lib.ListN.{length, get_or, length-map}
use Rattle.refusal.specs.Buffer.{over}
use Rattle.std.specs.Prelude.{Ok}
use Rattle.refusal.specs.Answers.{refuse}
use Rattle.refusal.proofs.Refusing.{by_none}
use Rattle.morton.specs.declared.grid.Volume.{Volume}
use Rattle.morton.specs.declared.grid.Extents.{Extents}
use Rattle.morton.specs.declared.grid.Cell.{Cell}
use Rattle.morton.specs.grid.Grid.{grid_of, zero_extent, InU32}
use Rattle.morton.specs.Key.{key_of, too_many_bits}
use Rattle.morton.specs.batch.Batch.{each_in_grid, keys_of, keys_checks, keys_answer, keys_left}
use Rattle.morton.specs.spread.Spread.{Spreads, Placed}
use Rattle.morton.specs.plan.Parts.{low_key, rest_key, Shared}
use Rattle.morton.specs.rows.Row.{cells_from, row_of}
use Rattle.morton.proofs.spread.Spreading.{placed, no_more}
use Rattle.morton.proofs.plan.Turns.{key_by_parts}
use Rattle.morton.proofs.rows.Rows.{length_from, row_0}

-- ---- the table
module _ (t : List ℕ) (h : Spreads t) (b : ℕ) (l : b < 256) where
  pub entry-placed : (k : ℕ) → k < 8 → Placed (get_or t b 0) b k
  entry-placed k m = rw (h.entry b l) (placed 8 b k m)

  pub entry-most : get_or t b 0 < 2 ^ 24
  entry-most = rw (h.entry b l) (no_more 8 b)

-- ---- each grid and each cell
pub agreement : (g : Extents) (c : Cell) (n : ℕ) → InU32 g → ((i : ℕ) → i < n → Shared g i) → low_key n c + rest_key n g c ≡ key_of g c
agreement g c n w h = sym (key_by_parts g c n w h)

-- ---- many cells: what is answered and written where nothing is refused
pub keys-written : (v : Volume) (cells : List Cell) (out : List ℕ) → zero_extent v ≡ false → each_in_grid (grid_of v) cells ≡ true → too_many_bits (grid_of v) ≡ false
    → length cells ≤ length out
    → (keys_answer v cells out ≡ Ok (length cells)) × (keys_left v cells out ≡ over (map (key_of (grid_of v)) cells) out)
unfolding keys_answer keys_left keys_of
keys-written v cells out z o b l =
    let f = row_0 v cells out refl z refl refl (rw o) refl b l in
    (by_none refuse (keys_checks v cells out) _ f ∙ rw length-map, by_none (λ j. out) (keys_checks v cells out) _ f)

-- ---- rows
pub row_count : (from to y z : ℕ) → length (row_of from to y z) ≡ to - from
row_count from to y z = length_from (to - from) from y z

module _ (y z : ℕ) where
  abbrev at : ℕ → Cell
  at x = record { x = x; y = y; z = z }

  has-cell : (n x j : ℕ) → j < n → Memᴰ (at (x + j)) (cells_from n x y z)
  unfolding cells_from
  has-cell zero x j l = absurd (not-suc-le-zero l)
  has-cell (suc n) x zero l = let e : x + 0 ≡ x = omega arith in Memᴰ.head (ap at e)
  has-cell (suc n) x (suc j) l =
      let e : x + suc j ≡ suc x + j = omega arith in
      Memᴰ.tail (Memᴰ.cast (ap at e) (has-cell n (suc x) j (omega arith)))

  cell-is : {c : Cell} (n x : ℕ) → Memᴰ c (cells_from n x y z) → (x ≤ c.x) × (c.x < x + n) × (c.y ≡ y) × (c.z ≡ z)
  unfolding cells_from
  cell-is zero x m = absurd (Memᴰ.not-nil m)
  cell-is (suc n) x m =
      ⊎_elim
      (λ e. (omega (arith, ap (λ (c : Cell). c.x) e), omega (arith, ap (λ (c : Cell). c.x) e), ap (λ (c : Cell). c.y) e, ap (λ (c : Cell). c.z) e))
      (λ w. let r = cell-is n (suc x) w in (omega (arith, r.0), omega (arith, r.1), r.2, r.3))
      (Memᴰ.cases_cons m)

  pub row-cells : (from to : ℕ) (c : Cell) → Memᴰ c (row_of from to y z) ↔ ((from ≤ c.x) × (c.x < to) × (c.y ≡ y) × (c.z ≡ z))
  row-cells from to c = (
    λ m. let r = cell-is (to - from) from m in (r.0, omega (arith, r.1), r.2, r.3),
    λ h.
        let e : c.x ≡ from + (c.x - from) = omega (arith, h.0) in
        Memᴰ.cast (λ i. record { x = e i; y = h.2 i; z = h.3 i }) (has-cell (to - from) from (c.x - from) (omega (arith, h.0, h.1))),
  )
