-- The chunks of a minishard one after the other, as start steps and sizes tell them.
use Rattle.std.specs.Prelude.{ℕ, zero, suc, ◌+◌, ◌*◌, ◌%◌, ◌^◌, List, [], ◌∷◌}
use Rattle.endian.specs.Little.{le_at}
use Rattle.unlisted.specs.declared.chunks.Chunk.{Chunk}
use Rattle.unlisted.specs.declared.chunks.Chunks.{Chunks}

-- k chunks whose start steps and sizes stand in d from these places on, behind one that ends at `end`
unfoldable pub chunks_from : List ℕ → ℕ → ℕ → ℕ → ℕ → List Chunk
chunks_from d steps sizes end zero = []
chunks_from d steps sizes end (suc k) =
    let start = (end + le_at 8 d steps) % 2 ^ 64 in
    let size = le_at 8 d sizes in
    record { start = start; size = size } ∷ chunks_from d (steps + 8) (sizes + 8) ((start + size) % 2 ^ 64) k

-- the first k of the n entries at s
abbrev pub chunks_of : List ℕ → ℕ → ℕ → ℕ → List Chunk
chunks_of d s n k = chunks_from d (s + 8 * n) (s + 16 * n) 0 k

abbrev pub chunks_left : Chunks → List Chunk
chunks_left c = chunks_from c.data.now c.steps c.sizes c.end c.left
