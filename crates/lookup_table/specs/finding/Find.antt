-- The search for an id in a table: three numbers for each entry, its id, where its chunk lies in the file and how many bytes that has.
use Rattle.std.specs.Prelude.{◌≡◌, ℕ, ◌+◌, ◌*◌, ◌/◌, ◌<◌, ◌≤◌, Bool, not, ◌⊎◌, List, [], ◌∷◌, length, ◌==◌, nat_lt, slice_index}
use Rattle.refusal.specs.Choice.{pick}
use Rattle.refusal.specs.Checks.{check, answered}
use Rattle.endian.specs.Range.{any_below, first}
use Rattle.lookup.specs.declared.id_search.LookupAnswer.{LookupAnswer}
use Rattle.lookup.specs.declared.id_search.LookupAnswer.TheVariants.{Found, Refused}
use Rattle.lookup_table.specs.sorting.Table.{id_in}

-- how many entries are searched: n, or all that the table has room for, where that is fewer
unfoldable pub searched : List ℕ → ℕ → ℕ
searched t n = pick (nat_lt (length t / 3) n) (length t / 3) n

-- entry i has this id
unfoldable pub has_id : List ℕ → ℕ → ℕ → Bool
has_id t id i = id_in t i == id

-- where the chunk of entry i lies, and how many bytes it has
abbrev pub chunk_in : List ℕ → ℕ → LookupAnswer
chunk_in t i = Found (slice_index t (3 * i + 1)) (slice_index t (3 * i + 2))

-- the chunk of the first of n entries that has the id; 12 where none has
unfoldable pub table_answer : List ℕ → ℕ → ℕ → LookupAnswer
table_answer t n id = answered Refused (check 12 (not (any_below n (has_id t id))) ∷ []) (chunk_in t (first (has_id t id) n))

-- no id of n entries stands before a smaller one
pub record Rises (t : List ℕ) (n : ℕ) : Type 0 where
  pub rises : (i j : ℕ) → i ≤ j → j < n → id_in t i ≤ id_in t j

-- the answer is the chunk of one of n entries that has the id
pub record OneOf (t : List ℕ) (n id : ℕ) (r : LookupAnswer) : Type 0 where
  pub entry : ℕ
  pub among : entry < n
  pub asked : id_in t entry ≡ id
  pub told : r ≡ chunk_in t entry

-- what the search answers
pub record Finds (t : List ℕ) (n id : ℕ) (r : LookupAnswer) : Type 0 where
  -- where the ids rise: the chunk of the first entry that has the id, or 12
  pub in_order_of : Rises t n → r ≡ table_answer t n id
  -- in whatever order they stand: the chunk of some entry that has the id, or 12
  pub in_any : OneOf t n id r ⊎ (r ≡ Refused 12)
