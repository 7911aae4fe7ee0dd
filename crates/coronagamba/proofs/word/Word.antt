-- The answer word gives back its parts, so one decoder serves every call.
use Prim.Native.Nat.{ℕ, ◌^◌, ◌/◌, ◌%◌, ◌<◌}
use mathlib.Core.Path.{◌≡◌, refl, ap}
use mathlib.Core.Option.{Option, none, some}
use native.Mathlib.Omega.{arith}
use Rattle.coronagamba.specs.word.Word.{part, word}

module _ (number : ℕ) (minishard position : Option ℕ) (n : number < 2 ^ 8) (m : part minishard < 2 ^ 24) where
  pub number-told : word number minishard position % 2 ^ 8 ≡ number
  number-told = omega arith

  pub minishard-told : word number minishard position / 2 ^ 8 % 2 ^ 24 ≡ part minishard
  minishard-told = omega arith

  pub position-told : word number minishard position / 2 ^ 32 ≡ part position
  position-told = omega arith

-- a part tells what it is of: none, or which number
pub same-part : (a b : Option ℕ) → part a ≡ part b → a ≡ b
same-part none none e = refl
same-part none (some n) e = absurd (omega arith)
same-part (some n) none e = absurd (omega arith)
same-part (some n) (some k) e = ap some (omega arith)
