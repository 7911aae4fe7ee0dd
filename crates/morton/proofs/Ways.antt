-- Each way out of a function, as a case of its definition.
use Prim.Native.Nat.{ℕ, ◌*◌, ◌%◌, ◌^◌, ◌≤◌}
use mathlib.Core.Path.{◌≡◌, sym, ap, ◌∙◌}
use mathlib.Core.Bool.{Bool, true, false, not}
use native.Mathlib.Omega.{arith}
use lib.Dec.{leb}
use borrow.Author.Tests.{not-true, not-false, ltb-false, leb-true, leb-false, lt-ltb, le-ltb, lt-leb}
use mir.Syntax.{w64}
use mir.Val.{Fits}
use Rattle.morton.specs.declared.grid.Extents.{Extents}
use Rattle.morton.specs.declared.grid.Cell.{Cell}
use Rattle.morton.specs.declared.grid.Volume.{Volume}
use Rattle.morton.specs.grid.Grid.{grid_of, zero_extent, in_grid}
use Rattle.morton.proofs.grid.Ways.{tested, none_2, outside_2, a_cell}
use Rattle.morton.proofs.axis.Used.{one_shl}
use Rattle.std.specs.Prelude.{Ok}
use Rattle.refusal.specs.Answers.{refuse}
use Rattle.morton.specs.Key.{key_bits_of, too_many_bits, key_of, cell_of, is_key}
use Rattle.morton.specs.Answers.{key_answer, cell_answer}
use Rattle.morton.proofs.Answered.{key_by_picks, cell_by_picks}

-- ---- the entry points: z is whether an extent is 0, g the grid, o whether the cell is inside, t whether there are too many key bits
module _ (v : Volume) {z : Bool} (ez : z ≡ zero_extent v) where
  module _ (c : Cell) where
    pub key_2 : z ≡ true → refuse 2 ≡ key_answer v c
    key_2 h = rw (key_by_picks v c, none_2 v ez c h)

    module _ (nz : z ≡ false) {g : Extents} (eg : g ≡ grid_of v) {o : Bool} (eo : o ≡ in_grid g c) where
      pub key_2_cell : not o ≡ true → refuse 2 ≡ key_answer v c
      key_2_cell h = rw (key_by_picks v c, outside_2 v ez c nz eg eo h)

      module _ (no : not o ≡ false) where
        pub key_3 : {t : Bool} → t ≡ too_many_bits g → t ≡ true → refuse 3 ≡ key_answer v c
        key_3 et h = rw (key_by_picks v c, a_cell v ez c nz eg eo no, ← eg, ← et, h)

        pub key-yes : {t : Bool} {k : ℕ} → t ≡ too_many_bits g → t ≡ false → k ≡ key_of g c → Ok k ≡ key_answer v c
        key-yes et h ek = rw (key_by_picks v c, a_cell v ez c nz eg eo no, ← eg, ← et, h, ek)

  module _ (key : ℕ) where
    pub cell_2 : z ≡ true → refuse 2 ≡ cell_answer v key
    cell_2 h = rw (cell_by_picks v key, sym ez ∙ h)

    module _ (nz : z ≡ false) {g : Extents} (eg : g ≡ grid_of v) {t : Bool} (et : t ≡ too_many_bits g) where
      pub cell_3 : t ≡ true → refuse 3 ≡ cell_answer v key
      cell_3 h = rw (cell_by_picks v key, tested v ez nz, ← eg, ← et, h)

      module _ (nt : t ≡ false) {b : ℕ} (eb : b ≡ key_bits_of g) {p : Bool} (ep : p ≡ leb (2 ^ b) key) where
        pub cell_4_key : p ≡ true → refuse 4 ≡ cell_answer v key
        unfolding is_key
        cell_4_key h = rw (cell_by_picks v key, tested v ez nz, ← eg, ← et, nt, ← eb, le-ltb _ _ (leb-true _ _ (sym ep ∙ h)))

        module _ (np : p ≡ false) {c : Cell} (ec : c ≡ cell_of g key) {o : Bool} (eo : o ≡ in_grid g c) where
          pub cell_4_cell : not o ≡ true → refuse 4 ≡ cell_answer v key
          unfolding is_key
          cell_4_cell h =
              rw (cell_by_picks v key, tested v ez nz, ← eg, ← et, nt, ← eb, lt-ltb _ _ (leb-false _ _ (sym ep ∙ np)), ← ec, sym eo ∙ not-true o h)

          pub cell-yes : not o ≡ false → Ok c ≡ cell_answer v key
          unfolding is_key
          cell-yes h =
              rw (cell_by_picks v key, tested v ez nz, ← eg, ← et, nt, ← eb, lt-ltb _ _ (leb-false _ _ (sym ep ∙ np)), ← ec, sym eo ∙ not-false o h)

-- the test for refusal 3 that was passed
module _ (g : Extents) {t : Bool} (et : t ≡ too_many_bits g) (nt : t ≡ false) where
  pub few : key_bits_of g ≤ 64
  unfolding too_many_bits
  few = ltb-false 64 (key_bits_of g) (sym et ∙ nt)

  pub few-counted : {b : ℕ} → b ≡ key_bits_of g → b ≤ 64
  few-counted e = rw e few

-- ---- bits above the last used one
pub never-past : (key bits : ℕ) → bits ≡ 64 → Fits w64 key → false ≡ leb (2 ^ bits) key
never-past key bits e f = rw e (sym (lt-leb (2 ^ 64) key f.fits))

pub past-at : (key bits : ℕ) → bits ≤ 64 → (bits ≡ 64 → ⊥) → leb (1 * 2 ^ bits % 2 ^ 64) key ≡ leb (2 ^ bits) key
past-at key bits h n = ap (λ (x : ℕ). leb x key) (one_shl bits 64 (omega arith))
