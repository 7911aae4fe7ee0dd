-- Two sheets, row by row.
use Rattle.std.specs.Prelude.{ℕ, ◌+◌, ◌≡◌, Bool, false, ◌||◌, List, [], ◌∷◌}
use Rattle.holdings.specs.chunk_sums.Totals.{passes}
use Rattle.holdings.specs.declared.one_shard.Sheet.{Sheet}
use Rattle.holdings.specs.one_shard.Sheet.{rows, from_rows_of}

-- the totals of two lists of rows; one that ends goes on with 0
unfoldable pub added : List ℕ → List ℕ → List ℕ
added [] ys = ys
added (x ∷ xs) [] = x ∷ xs
added (x ∷ xs) (y ∷ ys) = (x + y) ∷ added xs ys

-- RULES H3
unfoldable pub both : Sheet → Sheet → Sheet
both a b = from_rows_of (added (rows a) (rows b))

-- a total passes 2^64 - 1
unfoldable pub any_passes : List ℕ → Bool
any_passes [] = false
any_passes (n ∷ ns) = passes n || any_passes ns

-- ---- as the code has them: whether one passes, and where none does, all of them

pub record Totals (before rows after : List ℕ) (passed : Bool) : Type 0 where
  pub test : passed ≡ any_passes (added before rows)
  pub exact : passed ≡ false → after ≡ added before rows
