-- A minishard that may be written as it stands: its row of start steps.
use Rattle.std.proofs.Common.{◌≡◌, ℕ, ◌+◌, ◌-◌, ◌*◌, ◌<◌, ◌≤◌, List, ◌++◌, length, replicate, arith, rules}
use Rattle.endian.specs.Little.{le}
use Rattle.endian.specs.Place.{paste}
use Rattle.endian.proofs.Little.{length-le}
use Rattle.endian.proofs.Paste.{paste-then}

pub starts-written : (p n at : ℕ) (o : List ℕ) {o₁ o₂ : List ℕ} → at + 8 * n ≤ length o → 0 < n → o₁ ≡ paste at (le 8 p) o
    → o₂ ≡ paste (at + 8) (replicate (8 * n - 8) 0) o₁ → o₂ ≡ paste at (le 8 p ++ replicate (8 * n - 8) 0) o
starts-written p n at o l h u v =
    paste-then at (at + 8) (le 8 p) (replicate (8 * n - 8) 0) o u v (omega (arith, length-le 8 p)) (omega (arith, length-le 8 p))

pub ruleset writing = (starts-written, rules)
