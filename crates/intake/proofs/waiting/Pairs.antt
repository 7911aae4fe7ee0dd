-- A pair that was written is read again, and those before it as they were.
use Prim.Native.Nat.{ℕ, ◌+◌, ◌^◌, ◌≤◌, ◌<◌}
use mathlib.Core.Path.{◌≡◌, sym, ap, ◌∙◌}
use mathlib.Core.List.{List, [], ◌∷◌, ◌++◌}
use native.Mathlib.Omega.{arith}
use lib.ListN.{length, take, drop, length-take}
use lib.Seq.{take_at}
use Rattle.endian.specs.Little.{le, le_at, row}
use Rattle.endian.specs.Place.{Holds, paste}
use Rattle.endian.proofs.Little.{le_at-take, length-le, length-row}
use Rattle.endian.proofs.Holds.{holds_right, holds_move, holds-number}
use Rattle.endian.proofs.Paste.{paste-holds, length-paste}
use Rattle.intake.specs.waiting.Held.{pair}

pub length-pair : (a b : ℕ) → length (pair a b) ≡ 16
length-pair a b = length-row (a ∷ b ∷ [])

module _ (at a b : ℕ) (w : List ℕ) (l : at + 16 ≤ length w) where
  pub pair-kept : length (paste at (pair a b) w) ≡ length w
  pair-kept = length-paste at (pair a b) w (omega (arith, length-pair a b))

  pair-there : Holds (paste at (pair a b) w) at (pair a b)
  pair-there = paste-holds at (pair a b) w (omega arith)

  pub pair-id : a < 2 ^ 64 → le_at 8 (paste at (pair a b) w) at ≡ a
  unfolding row
  pair-id h = holds-number 8 a (le 8 b ++ []) pair-there h

  pub pair_size : b < 2 ^ 64 → le_at 8 (paste at (pair a b) w) (at + 8) ≡ b
  unfolding row
  pair_size h = holds-number 8 b [] (holds_move (holds_right (le 8 a) pair-there) (omega (arith, length-le 8 a))) h

  pub pair-before : (p : ℕ) → p + 8 ≤ at → le_at 8 (paste at (pair a b) w) p ≡ le_at 8 w p
  unfolding paste
  pair-before p h =
      let e : take at (take at w ++ (pair a b ++ drop (at + length (pair a b)) w)) ≡ take at w =
      take_at (take at w) (pair a b ++ drop (at + length (pair a b)) w) at (simp length-take (omega arith)) in
      sym (le_at-take 8 (take at w ++ (pair a b ++ drop (at + length (pair a b)) w)) at p h) ∙ ap (λ (x : List ℕ). le_at 8 x p) e ∙ le_at-take 8 w at p h
