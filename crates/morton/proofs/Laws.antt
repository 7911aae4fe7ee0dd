-- What holds of grids and keys, at the answers: the laws that the rules and the demands ask for.
use Prim.Native.Nat.{ℕ, zero, suc, ◌^◌, ◌≤◌, ◌<◌}
use mathlib.Core.Path.{◌≡◌, refl, sym, ◌∙◌}
use mathlib.Core.Bool.{Bool, true, false, not}
use native.Mathlib.Omega.{arith}
use native.Mathlib.Nat.{lt_of_le_of_lt}
use lib.Dec.{ltb, eqb}
use borrow.Author.Tests.{not-false, ltb-true, ltb-false, lt-ltb, le-ltb, ne_eqb}
use Rattle.refusal.specs.Choice.{pick}
use Rattle.refusal.proofs.Tests.{both, neither}
use Rattle.morton.specs.declared.grid.Extents.{Extents}
use Rattle.morton.specs.declared.grid.Cell.{Cell}
use Rattle.morton.specs.declared.grid.Volume.{Volume}
use Rattle.std.specs.Prelude.{Ok}
use Rattle.refusal.specs.Answers.{refuse}
use Rattle.morton.specs.grid.Grid.{grid_of, zero_extent, in_grid, InU32}
use Rattle.morton.specs.axis.Axis.{bit_of, used, count}
use Rattle.morton.specs.Key.{step, steps, key_bits_of, too_many_bits, key_of, into, step_back, steps_back, cell_of, is_key}
use Rattle.morton.specs.grid.Answers.{no_cell}
use Rattle.morton.specs.Answers.{key_answer, cell_answer}
use Rattle.morton.proofs.Answered.{key_by_picks, cell_by_picks}
use Rattle.morton.proofs.grid.Covers.{grid-size-small}
use Rattle.morton.proofs.From.{cell_of_key, key_of_cell, key_below}
use Rattle.morton.proofs.grid.Ways.{chunk-some, inside-all}

-- ---- grids
-- a grid's sizes are u32, as its volume's are
grid_in_u32 : (v : Volume) → zero_extent v ≡ false → InU32 v.size → InU32 (grid_of v)
unfolding grid_of
grid_in_u32 v e u =
    let s = chunk-some v e in
    record {
      x = lt_of_le_of_lt (grid-size-small _ _ s.0) u.x;
      y = lt_of_le_of_lt (grid-size-small _ _ s.1) u.y;
      z = lt_of_le_of_lt (grid-size-small _ _ s.2) u.z;
    }

-- the key of a cell of a grid gives back the cell
pub key_gives_cell : (g : Extents) (c : Cell) → InU32 g → in_grid g c ≡ true → cell_of g (key_of g c) ≡ c
key_gives_cell g c u e =
    let h = inside-all g c e in
    cell_of_key g c h.0 h.1 h.2 (omega (arith, u.x)) (omega (arith, u.y)) (omega (arith, u.z))

-- ---- answers
-- what a key that was answered says
pub record Keyed (v : Volume) (c : Cell) (k : ℕ) : Type 0 where
  pub some : zero_extent v ≡ false
  pub inside : in_grid (grid_of v) c ≡ true
  pub few : too_many_bits (grid_of v) ≡ false
  pub is : k ≡ key_of (grid_of v) c

picked_key : (a b : Bool) (k m : ℕ) → pick a (refuse 2) (pick b (refuse 3) (Ok m)) ≡ Ok k → (a ≡ false) × (b ≡ false) × (k ≡ m)
picked_key true b k m e = (cc, cc, cc)
picked_key false true k m e = (cc, cc, cc)
picked_key false false k m e = (refl, refl, cc)

pub keyed : (v : Volume) (c : Cell) (k : ℕ) → key_answer v c ≡ Ok k → Keyed v c k
unfolding no_cell
keyed v c k e =
    let p = picked_key (no_cell v c) (too_many_bits (grid_of v)) k (key_of (grid_of v) c) (sym (key_by_picks v c) ∙ e) in
    let q = neither (zero_extent v) (not (in_grid (grid_of v) c)) p.0 in
    record { some = q.0; inside = not-false _ q.1; few = p.1; is = p.2 }

-- what a cell that was answered says
pub record Celled (v : Volume) (k : ℕ) (c : Cell) : Type 0 where
  pub some : zero_extent v ≡ false
  pub few : too_many_bits (grid_of v) ≡ false
  pub below : k < 2 ^ key_bits_of (grid_of v)
  pub inside : in_grid (grid_of v) c ≡ true
  pub is : c ≡ cell_of (grid_of v) k

picked_cell : (a b d : Bool) (c e : Cell)
    → pick a (refuse 2) (pick b (refuse 3) (pick d (refuse 4) (Ok e))) ≡ Ok c
    → (a ≡ false) × (b ≡ false) × (d ≡ false) × (c ≡ e)
picked_cell true b d c e p = (cc, cc, cc, cc)
picked_cell false true d c e p = (cc, cc, cc, cc)
picked_cell false false true c e p = (cc, cc, cc, cc)
picked_cell false false false c e p = (refl, refl, refl, cc)

pub celled : (v : Volume) (k : ℕ) (c : Cell) → cell_answer v k ≡ Ok c → Celled v k c
unfolding is_key
celled v k c e =
    let p = picked_cell (zero_extent v) (too_many_bits (grid_of v)) (not (is_key (grid_of v) k)) c (cell_of (grid_of v) k) (sym (cell_by_picks v k) ∙ e) in
    let q = both (ltb k (2 ^ key_bits_of (grid_of v))) (in_grid (grid_of v) (cell_of (grid_of v) k)) (not-false _ p.2) in
    record { some = p.0; few = p.1; below = ltb-true _ _ q.0; inside = rw p.3 q.1; is = p.3 }

-- the number of bits that refusal 3 tests
pub few_bits : (g : Extents) → too_many_bits g ≡ false → key_bits_of g ≤ 64
unfolding too_many_bits
few_bits g e = ltb-false 64 (key_bits_of g) e

pub few-bits_are : (g : Extents) → key_bits_of g ≤ 64 → too_many_bits g ≡ false
unfolding too_many_bits
few-bits_are g h = le-ltb 64 (key_bits_of g) h

pub many_bits_are : (g : Extents) → 64 < key_bits_of g → too_many_bits g ≡ true
unfolding too_many_bits
many_bits_are g h = lt-ltb 64 (key_bits_of g) h

-- Demand 2: "In a grid of at most 64 key bits a cell gives its key and the key gives back its cell."
pub record KeyAndBack (v : Volume) (c : Cell) : Type 0 where
  pub key : ℕ
  pub given : key_answer v c ≡ Ok key
  pub below : key < 2 ^ key_bits_of (grid_of v)
  pub back : cell_answer v key ≡ Ok c

pub cell_gives_key_gives_cell : (v : Volume) (c : Cell) → InU32 v.size → no_cell v c ≡ false → key_bits_of (grid_of v) ≤ 64 → KeyAndBack v c
cell_gives_key_gives_cell v c u h l =
    record { key = key_of (grid_of v) c; given = given; below = key_below (grid_of v) c; back = back }
  where
    few : too_many_bits (grid_of v) ≡ false
    few = few-bits_are _ l

    tests : (zero_extent v ≡ false) × (not (in_grid (grid_of v) c) ≡ false)
    tests = unfold no_cell in neither (zero_extent v) (not (in_grid (grid_of v) c)) h

    inside : in_grid (grid_of v) c ≡ true
    inside = not-false _ tests.1

    given : key_answer v c ≡ Ok (key_of (grid_of v) c)
    given = rw (key_by_picks v c, h, few)

    back : cell_answer v (key_of (grid_of v) c) ≡ Ok c
    back =
        unfold is_key in
        rw (cell_by_picks v (key_of (grid_of v) c), tests.0, few, lt-ltb _ _ (key_below (grid_of v) c), key_gives_cell (grid_of v) c (grid_in_u32 v tests.0 u) inside, inside)

-- a key that was given gives back its cell
pub key_back : (v : Volume) (c : Cell) (k : ℕ) → InU32 v.size → key_answer v c ≡ Ok k → cell_answer v k ≡ Ok c
key_back v c k u e =
    let p = keyed v c k e in
    let w = cell_gives_key_gives_cell v c u (unfold no_cell in rw (p.some, p.inside)) (few_bits _ p.few) in
    let q : k ≡ w.key = cc w.given in
    rw q w.back

-- a key that is accepted gives a cell whose key it is
pub accepted_key : (v : Volume) (k : ℕ) (c : Cell) → cell_answer v k ≡ Ok c → key_answer v c ≡ Ok k
unfolding no_cell
accepted_key v k c e =
    let p = celled v k c e in
    rw (key_by_picks v c, p.some, p.inside, p.few, p.is, key_of_cell (grid_of v) k p.below)

-- different cells have different keys
pub different-cells-different-keys : (v : Volume) (a b : Cell) (k : ℕ) → InU32 v.size → key_answer v a ≡ Ok k → key_answer v b ≡ Ok k → a ≡ b
different-cells-different-keys v a b k u p q =
    let s = key_back v a k u p in
    let t = key_back v b k u q in
    cc

-- a grid of one cell has one key, of no bits
one_cell : key_bits_of (record { x = 1; y = 1; z = 1 }) ≡ 0
unfolding used step steps key_bits_of
one_cell = refl

pub only-key_0 : (v : Volume) → zero_extent v ≡ false → grid_of v ≡ record { x = 1; y = 1; z = 1 }
    → (k : ℕ) → cell_answer v k ≡ pick (eqb k 0) (Ok (record { x = 0; y = 0; z = 0 })) (refuse 4)
unfolding too_many_bits is_key in_grid bit_of used count step steps key_bits_of into step_back steps_back cell_of
only-key_0 v e h zero = rw (cell_by_picks v 0, e, h)
only-key_0 v e h (suc k) = rw (cell_by_picks v (suc k), e, h, one_cell, le-ltb (suc k) 1 (omega arith), ne_eqb (suc k) 0 (λ z. omega arith))
