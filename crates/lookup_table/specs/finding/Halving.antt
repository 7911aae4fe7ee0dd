-- What the halving makes.
use Rattle.std.specs.Prelude.{ℕ, ◌+◌, ◌<◌, ◌≤◌, List}
use Rattle.lookup_table.specs.sorting.Table.{id_in}
use Rattle.lookup_table.specs.finding.Find.{Rises}

-- of n entries, those before `at` are below the id and those from at + len on are not, where the ids rise
pub record Between (t : List ℕ) (n id at len : ℕ) : Type 0 where
  pub within : at + len ≤ n
  pub under : Rises t n → (i : ℕ) → i < at → id_in t i < id
  pub past : Rises t n → (i : ℕ) → at + len ≤ i → i < n → id ≤ id_in t i
