-- The settled form (RULES U1, U2): a function of what is listed, as a list of minishards, each a list of items in rising id order.
-- Places count from the end of the shard index.
use Rattle.std.specs.Prelude.{ℕ, ◌+◌, ◌*◌, ◌-◌, List, [], ◌∷◌, ◌++◌, length}
use Rattle.endian.specs.Little.{row}
use Rattle.shard.specs.Items.{Item}

-- the chunks of a minishard, one after the other, each with its lead right before it
unfoldable pub chunks_of : List Item → List ℕ
chunks_of [] = []
chunks_of (x ∷ xs) = x.lead ++ (x.body ++ chunks_of xs)

unfoldable pub chunks_length : List Item → ℕ
chunks_length [] = 0
chunks_length (x ∷ xs) = length x.lead + (length x.body + chunks_length xs)

-- the three rows of its minishard index. Each id step counts from the id before, the first from 0
unfoldable pub id_row : ℕ → List Item → List ℕ
id_row before [] = []
id_row before (x ∷ xs) = (x.id - before) ∷ id_row x.id xs

-- the first start step is the place p of the minishard's first byte, past its lead; a later one is just the lead, which volumes do not have: 0
unfoldable pub start_row : ℕ → List Item → List ℕ
start_row p [] = []
start_row p (x ∷ xs) = (p + length x.lead) ∷ start_row 0 xs

unfoldable pub size_row : List Item → List ℕ
size_row [] = []
size_row (x ∷ xs) = length x.body ∷ size_row xs

unfoldable pub index_of : ℕ → List Item → List ℕ
index_of p items = row (id_row 0 items) ++ (row (start_row p items) ++ row (size_row items))

-- a minishard at the place p: its chunks and their leads, then its minishard index. One with no item is empty (RULES U1)
unfoldable pub part_of : ℕ → List Item → List ℕ
part_of p items = chunks_of items ++ index_of p items

unfoldable pub part_length_of : List Item → ℕ
part_length_of items = chunks_length items + 24 * length items

-- the minishards in number order, from the place p on
unfoldable pub parts_from : ℕ → List (List Item) → List ℕ
parts_from p [] = []
parts_from p (items ∷ more) = part_of p items ++ parts_from (p + part_length_of items) more

unfoldable pub parts_length : List (List Item) → ℕ
parts_length [] = 0
parts_length (items ∷ more) = part_length_of items + parts_length more

-- a minishard's entry in the shard index: where its minishard index begins and ends; 0 and 0 where it is empty
unfoldable pub entry_begin : ℕ → List Item → ℕ
entry_begin p [] = 0
entry_begin p (x ∷ xs) = p + chunks_length (x ∷ xs)

unfoldable pub entry_finish : ℕ → List Item → ℕ
entry_finish p [] = 0
entry_finish p (x ∷ xs) = p + part_length_of (x ∷ xs)

-- RULES U1
unfoldable pub shard_index_from : ℕ → List (List Item) → List ℕ
shard_index_from p [] = []
shard_index_from p (items ∷ more) = entry_begin p items ∷ entry_finish p items ∷ shard_index_from (p + part_length_of items) more

-- the whole: the shard index, then the minishards, and nothing else (RULES U1)
unfoldable pub settled : List (List Item) → List ℕ
settled content = row (shard_index_from 0 content) ++ parts_from 0 content

-- its length, a whole number of any size (RULES U2)
unfoldable pub settled_length : List (List Item) → ℕ
settled_length content = 16 * length content + parts_length content
