-- What the writer that sorts takes and makes: entries with absolute numbers, and the items that they name (RULES U3).
use Rattle.std.specs.Prelude.{◌≡◌, ℕ, zero, suc, ◌-◌, ◌*◌, ◌<◌, List, [], ◌∷◌}
use Rattle.shard.specs.index.Index.{id_steps, start_steps, sizes, id_at, start_at}
use Rattle.index_sort.specs.declared.three_rows.Entry.{Entry}
use Rattle.index_sort.specs.three_rows.Rows.{entries_at, Only}
use Rattle.index_sort.specs.phases.Rows.{sort_by_id}

-- entry i of the minishard index of n entries at s
unfoldable pub stored_at : List ℕ → ℕ → ℕ → ℕ → Entry
stored_at d s n i = record { id = id_at (id_steps d s) i; start = start_at (start_steps d s n) (sizes d s n) i; size = sizes d s n i }

-- k of them from entry i on, as they stand
unfoldable pub stored_from : List ℕ → ℕ → ℕ → ℕ → ℕ → List Entry
stored_from d s n i zero = []
stored_from d s n i (suc k) = stored_at d s n i ∷ stored_from d s n (suc i) k

-- all of them
unfoldable pub stored_entries : List ℕ → ℕ → ℕ → List Entry
stored_entries d s n = stored_from d s n 0 n

-- e is d₀ but for three rows at q, which hold the entries of the minishard index of n entries at s, sorted by id
pub record SortedRows (d : List ℕ) (s n : ℕ) (d₀ : List ℕ) (q : ℕ) (e : List ℕ) : Type 0 where
  pub entries : entries_at e q n ≡ sort_by_id (stored_entries d s n)
  pub only : Only q (24 * n) d₀ e

-- n numbers rise
pub record RisingRow (f : ℕ → ℕ) (n : ℕ) : Type 0 where
  pub up : (i : ℕ) → suc i < n → f i < f (suc i)

-- their steps, k of them from number i on, each from the number before, the first from `before`
unfoldable pub steps_from : (ℕ → ℕ) → ℕ → ℕ → ℕ → List ℕ
steps_from f before i zero = []
steps_from f before i (suc k) = (f i - before) ∷ steps_from f (f i) (suc i) k
