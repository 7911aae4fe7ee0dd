-- The shard index and a minishard index (RULES F1 to F5).
-- A shard is two lists here: its shard index, and the data behind it, from whose beginning all starts and ends count.
use Rattle.std.specs.Prelude.{ℕ, suc, ◌+◌, ◌-◌, ◌*◌, ◌/◌, ◌%◌, ◌^◌, List, take, drop}
use Rattle.endian.specs.Little.{le_at, row_at}
use Rattle.endian.specs.Range.{sum_to}
-- an id is the sum of the id steps so far, modulo 2^64 (RULES F4)
unfoldable pub use Rattle.duplicate_ids.specs.Twice.{id_at}

-- the longest shard (RULES F1)
abbrev pub most_shard_bytes : ℕ
most_shard_bytes = 1073741824

-- the entry of minishard m in the shard index: where its minishard index begins and ends (RULES F2)
abbrev pub entry_start_of : List ℕ → ℕ → ℕ
entry_start_of index m = le_at 8 index (16 * m)

-- RULES F2
abbrev pub entry_end_of : List ℕ → ℕ → ℕ
entry_end_of index m = le_at 8 index (16 * m + 8)

-- how many chunks the minishard index from s to e lists; none where s and e are equal (RULES F2)
abbrev pub entry_count : ℕ → ℕ → ℕ
entry_count s e = (e - s) / 24

-- its three rows, of n numbers each: id steps, start steps, sizes (RULES F3)
abbrev pub id_steps : List ℕ → ℕ → ℕ → ℕ
id_steps d s = row_at d s

-- RULES F3
abbrev pub start_steps : List ℕ → ℕ → ℕ → ℕ → ℕ
start_steps d s n = row_at d (s + 8 * n)

-- RULES F3
abbrev pub sizes : List ℕ → ℕ → ℕ → ℕ → ℕ
sizes d s n = row_at d (s + 16 * n)

-- a chunk starts at all start steps so far plus all earlier sizes, modulo 2^64 (RULES F5)
unfoldable pub start_at : (ℕ → ℕ) → (ℕ → ℕ) → ℕ → ℕ
start_at starts size i = (sum_to starts (suc i) + sum_to size i) % 2 ^ 64

-- and ends after as many bytes as its size, counted exactly: this sum does not wrap (RULES F5)
abbrev pub end_at : (ℕ → ℕ) → (ℕ → ℕ) → ℕ → ℕ
end_at starts size i = start_at starts size i + size i

-- the bytes of chunk i of the minishard index of n entries at s (RULES F5)
abbrev pub chunk_at : List ℕ → ℕ → ℕ → ℕ → List ℕ
chunk_at d s n i = take (sizes d s n i) (drop (start_at (start_steps d s n) (sizes d s n) i) d)
