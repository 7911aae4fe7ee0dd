-- Items that stand in one run, each where the one before it ends.
use Rattle.std.specs.Prelude.{◌≡◌, ℕ, ◌%◌, ◌^◌, ◌<◌, ◌≤◌, Bool, true, false}
use Rattle.endian.specs.Range.{sum_to}
use Rattle.bitmap.specs.Positions.{within}
use Rattle.sharding.specs.declared.Sharding.{Sharding}
use Rattle.sharding.specs.Specification.{is_mesh}
use Rattle.unlisted.specs.declared.stretches.Sums.{Sums}
use Rattle.unlisted.specs.declared.stretches.Stretch.{Stretch}

-- r is 0 where both are, and nowhere else
pub record Joined (a b r : ℕ) : Type 0 where
  pub first : r ≡ 0 → a ≡ 0
  pub second : r ≡ 0 → b ≡ 0
  pub neither : a ≡ 0 → b ≡ 0 → r ≡ 0

-- of the k chunks each but the first begins where the one before it ends
abbrev pub Next : (ℕ → ℕ) → ℕ → Type 0
Next starts k = (i : ℕ) → 1 ≤ i → i < k → starts i ≡ 0

-- what the sums of k start steps and sizes tell of them
pub record Summed (starts size : ℕ → ℕ) (k : ℕ) (sums : Sums) : Type 0 where
  pub total : sums.sizes ≡ sum_to size k % 2 ^ 64
  pub zero : sums.steps ≡ 0 → Next starts k
  pub none : Next starts k → sums.steps ≡ 0

-- the test holds of the positions of one range, where it is said to
pub record Stretched (test : ℕ → Bool) (stretch : Stretch) : Type 0 where
  pub told : stretch.whole ≡ true → (p : ℕ) → test p ≡ within stretch.from stretch.to p

-- k chunks that surely stand in one run: those of a volume have no leads, and there is one
pub record OneRun (spec : Sharding) (starts : ℕ → ℕ) (k : ℕ) : Type 0 where
  pub volume : is_mesh spec ≡ false
  pub some : 0 < k
  pub next : Next starts k

-- b is true of these, and of no others
pub record TellsRun (spec : Sharding) (starts : ℕ → ℕ) (k : ℕ) (b : Bool) : Type 0 where
  pub yes : b ≡ true → OneRun spec starts k
  pub all : OneRun spec starts k → b ≡ true
