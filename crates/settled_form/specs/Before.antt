-- The settled form as it was before order 7: a function of pairs of an id and its chunk's bytes, with nothing before a chunk. Of what is listed before
-- order 2, by exact sums, and now. No code uses it. It is kept to say that volumes settle to the same bytes (RULES F16, U8).
use Rattle.std.specs.Prelude.{ℕ, zero, suc, ◌+◌, ◌*◌, ◌-◌, List, [], ◌∷◌, ◌++◌, length, take, drop}
use Rattle.endian.specs.Little.{row}
use Rattle.sharding.specs.declared.Sharding.{Sharding}
use Rattle.sharding.specs.Specification.{minishard_count_of}
use Rattle.shard.specs.index.Index.{entry_start_of, entry_end_of, entry_count, id_steps, start_steps, sizes, id_at, chunk_at}
use Rattle.shard.specs.File.{index_part, data_part}
use Rattle.shard.specs.Before.{exact_id, exact_start}
use Rattle.settled_form.specs.Sorted.{sort_by}

pub record Pair : Type 0 where
  pub id : ℕ
  pub bytes : List ℕ

-- ---- the form of a list of minishards, each a list of pairs in rising id order

unfoldable pub chunks_before : List Pair → List ℕ
chunks_before [] = []
chunks_before (x ∷ xs) = x.bytes ++ chunks_before xs

unfoldable pub chunks_length_before : List Pair → ℕ
chunks_length_before [] = 0
chunks_length_before (x ∷ xs) = length x.bytes + chunks_length_before xs

unfoldable pub id_row_before : ℕ → List Pair → List ℕ
id_row_before before [] = []
id_row_before before (x ∷ xs) = (x.id - before) ∷ id_row_before x.id xs

-- the first start step is the place p of the minishard's first byte, a later one is 0
unfoldable pub start_row_before : ℕ → List Pair → List ℕ
start_row_before p [] = []
start_row_before p (x ∷ xs) = p ∷ start_row_before 0 xs

unfoldable pub size_row_before : List Pair → List ℕ
size_row_before [] = []
size_row_before (x ∷ xs) = length x.bytes ∷ size_row_before xs

unfoldable pub index_before : ℕ → List Pair → List ℕ
index_before p pairs = row (id_row_before 0 pairs) ++ (row (start_row_before p pairs) ++ row (size_row_before pairs))

unfoldable pub part_before : ℕ → List Pair → List ℕ
part_before p pairs = chunks_before pairs ++ index_before p pairs

unfoldable pub part_length_before : List Pair → ℕ
part_length_before pairs = chunks_length_before pairs + 24 * length pairs

unfoldable pub parts_before : ℕ → List (List Pair) → List ℕ
parts_before p [] = []
parts_before p (pairs ∷ more) = part_before p pairs ++ parts_before (p + part_length_before pairs) more

unfoldable pub entry_begin_before : ℕ → List Pair → ℕ
entry_begin_before p [] = 0
entry_begin_before p (x ∷ xs) = p + chunks_length_before (x ∷ xs)

unfoldable pub entry_finish_before : ℕ → List Pair → ℕ
entry_finish_before p [] = 0
entry_finish_before p (x ∷ xs) = p + part_length_before (x ∷ xs)

unfoldable pub entries_before : ℕ → List (List Pair) → List ℕ
entries_before p [] = []
entries_before p (pairs ∷ more) = entry_begin_before p pairs ∷ entry_finish_before p pairs ∷ entries_before (p + part_length_before pairs) more

unfoldable pub settled_before : List (List Pair) → List ℕ
settled_before content = row (entries_before 0 content) ++ parts_before 0 content

-- ---- what is listed, by what entry i of the minishard index of n entries at s lists in d: `pair d s n i`

-- k pairs from entry i on, as they stand
unfoldable pub pairs_from : (ℕ → Pair) → ℕ → ℕ → List Pair
pairs_from pair i zero = []
pairs_from pair i (suc k) = pair i ∷ pairs_from pair (suc i) k

abbrev pub id_of_pair : Pair → ℕ
id_of_pair x = x.id

-- k minishards from minishard m on, each "in rising id order"
unfoldable pub pairs_of : (List ℕ → ℕ → ℕ → ℕ → Pair) → List ℕ → List ℕ → ℕ → ℕ → List (List Pair)
pairs_of pair index d m zero = []
pairs_of pair index d m (suc k) =
    let s = entry_start_of index m in
    let n = entry_count s (entry_end_of index m) in
    sort_by id_of_pair (pairs_from (pair d s n) 0 n) ∷ pairs_of pair index d (suc m) k

-- ---- before order 2: by exact sums

unfoldable pub pair_before : List ℕ → ℕ → ℕ → ℕ → Pair
pair_before d s n i = record { id = exact_id (id_steps d s) i; bytes = take (sizes d s n i) (drop (exact_start (start_steps d s n) (sizes d s n) i) d) }

-- RULES U8
unfoldable pub file_form_before : Sharding → List ℕ → List ℕ
file_form_before spec file = settled_before (pairs_of pair_before (index_part spec file) (data_part spec file) 0 (minishard_count_of spec))

-- ---- before order 7: by sums that wrap, as now

unfoldable pub pair_before_mesh : List ℕ → ℕ → ℕ → ℕ → Pair
pair_before_mesh d s n i = record { id = id_at (id_steps d s) i; bytes = chunk_at d s n i }

-- RULES U8
unfoldable pub file_form_before_mesh : Sharding → List ℕ → List ℕ
file_form_before_mesh spec file = settled_before (pairs_of pair_before_mesh (index_part spec file) (data_part spec file) 0 (minishard_count_of spec))
