-- Numbers one after the other.
use Prim.Native.Nat.{ℕ, zero, suc}
use mathlib.Core.Path.{◌≡◌, refl, ap}
use mathlib.Core.Bool.{Bool, true}
use lib.ListN.{length}
use Rattle.cover.specs.overlap.Cover.{keep, passing}
use Rattle.cover.specs.halves.Box.{counting}

-- a test that everything in the range passes
pub passing-all : (p : ℕ → Bool) (k n : ℕ) → ((i : ℕ) → p i ≡ true) → passing p k n ≡ counting k n
unfolding passing keep counting
passing-all p k zero h = refl
passing-all p k (suc n) h = rw (h k, passing-all p (suc k) n h)

pub length-counting : (k n : ℕ) → length (counting k n) ≡ n
unfolding counting
length-counting k zero = refl
length-counting k (suc n) = ap suc (length-counting (suc k) n)
