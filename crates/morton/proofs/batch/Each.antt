-- Where many cells are not refused, there is a key for each, and it is what is answered for that cell alone.
use Prim.Native.Nat.{ℕ}
use mathlib.Core.Path.{◌≡◌, refl, sym, ◌∙◌}
use mathlib.Core.Bool.{Bool, true, false, not, ◌||◌}
use mathlib.Core.List.{List, [], ◌∷◌, map}
use borrow.Author.Tests.{not-false}
use lib.Dec.{ltb}
use lib.ListN.{length, length-map}
use Rattle.refusal.specs.Choice.{pick}
use Rattle.std.specs.Prelude.{Ok}
use Rattle.refusal.specs.Answers.{refuse}
use Rattle.refusal.proofs.Tests.{both, neither}
use Rattle.refusal.proofs.Picks.{by_picks}
use Rattle.morton.specs.declared.grid.Volume.{Volume}
use Rattle.morton.specs.declared.grid.Extents.{Extents}
use Rattle.morton.specs.declared.grid.Cell.{Cell}
use Rattle.morton.specs.grid.Grid.{grid_of, zero_extent, in_grid}
use Rattle.morton.specs.Key.{too_many_bits, key_of}
use Rattle.morton.specs.grid.Answers.{no_cell}
use Rattle.morton.specs.Answers.{key_answer}
use Rattle.morton.specs.batch.Batch.{each_in_grid, keys_of, keys_checks, keys_answer}
use Rattle.morton.proofs.Answered.{key_by_picks}

key-alone : (v : Volume) (c : Cell) → zero_extent v ≡ false → in_grid (grid_of v) c ≡ true → too_many_bits (grid_of v) ≡ false
    → key_answer v c ≡ Ok (key_of (grid_of v) c)
unfolding no_cell
key-alone v c z o b = rw (key_by_picks v c, z, o, b)

first-inside : (g : Extents) (c : Cell) (cells : List Cell) → each_in_grid g (c ∷ cells) ≡ true → (in_grid g c ≡ true) × (each_in_grid g cells ≡ true)
unfolding each_in_grid
first-inside g c cells e = both _ _ e

each-key : (v : Volume) (cells : List Cell) → zero_extent v ≡ false → each_in_grid (grid_of v) cells ≡ true → too_many_bits (grid_of v) ≡ false
    → map (key_answer v) cells ≡ map Ok (keys_of v cells)
unfolding keys_of
each-key v [] z o b = refl
each-key v (c ∷ cells) z o b =
    let p = first-inside (grid_of v) c cells o in
    rw (key-alone v c z p.0 b, each-key v cells z p.1 b)

as_many : (v : Volume) (cells : List Cell) → length (keys_of v cells) ≡ length cells
unfolding keys_of
as_many v cells = length-map cells (key_of (grid_of v))

-- three checks that were passed
passed : (a b d : Bool) {n m : ℕ} → pick a (refuse 2) (pick b (refuse 3) (pick d (refuse 13) (Ok m))) ≡ Ok n → (a ≡ false) × (b ≡ false) × (n ≡ m)
passed true b d e = (cc, cc, cc)
passed false true d e = (cc, cc, cc)
passed false false true e = (cc, cc, cc)
passed false false false e = (refl, refl, cc)

pub keys_of_each : (v : Volume) (cells : List Cell) (keys : List ℕ) {n : ℕ} → keys_answer v cells keys ≡ Ok n
    → (n ≡ length cells) × (map (key_answer v) cells ≡ map Ok (keys_of v cells))
unfolding keys_answer keys_checks
keys_of_each v cells keys e =
    let p = passed (zero_extent v || not (each_in_grid (grid_of v) cells)) (too_many_bits (grid_of v)) (ltb (length keys) (length (keys_of v cells))) (sym (by_picks refuse (keys_checks v cells keys) _ refl) ∙ e) in
    let r = neither (zero_extent v) (not (each_in_grid (grid_of v) cells)) p.0 in
    (p.2 ∙ as_many v cells, each-key v cells r.0 (not-false (each_in_grid (grid_of v) cells) r.1) p.1)
