-- Tests over the entries of a minishard index, as a list: each runs over all entries before the next (RULES F12).
-- A fault has the number of the test and its position (RULES R4): the place of the bytes that fail it, counted from the beginning of the shard.
-- Number 0 is no fault.
use Rattle.std.specs.Prelude.{ℕ, ◌+◌, ◌*◌, Bool, List, [], ◌∷◌}
use Rattle.refusal.specs.Choice.{pick}
use Rattle.endian.specs.Range.{any_below, first}
use Rattle.shard.specs.declared.index.Fault.{Fault}

abbrev pub fault : ℕ → ℕ → Fault
fault number position = record { number = number; position = position }

-- ---- positions

-- of 7 and 8: the entry of minishard m in the shard index (RULES R4)
abbrev pub entry_place : ℕ → ℕ
entry_place m = 16 * m

-- of the others: the number of entry i in one of the three rows (0 id steps, 1 start steps, 2 sizes) of the minishard index of n entries at p
-- (RULES R4)
abbrev pub row_place : ℕ → ℕ → ℕ → ℕ → ℕ
row_place p n row i = p + 8 * (row * n + i)

-- ---- tests

-- a test: its number, the row that its position points at, and whether entry i fails it
pub record EntryTest : Type 0 where
  pub number : ℕ
  pub row : ℕ
  pub fails : ℕ → Bool

abbrev pub entry_test : ℕ → ℕ → (ℕ → Bool) → EntryTest
entry_test number row fails = record { number = number; row = row; fails = fails }

-- where a test points in the minishard index of n entries at p: at the first entry that fails it
abbrev pub test_place : ℕ → ℕ → EntryTest → ℕ
test_place p n t = row_place p n t.row (first t.fails n)

-- each test runs over all n entries before the next: the first that some entry fails (RULES F12)
unfoldable pub first_of : ℕ → ℕ → List EntryTest → Fault
first_of p n [] = fault 0 0
first_of p n (t ∷ ts) = pick (any_below n t.fails) (fault t.number (test_place p n t)) (first_of p n ts)
