-- The loop keeps `Copying`: the chunks from i on are what is left to write, at to; from is where the chunk before i ends in the data.
-- A turn reads the start step and the size of chunk i. Each law takes both reads and the wrapped sum, where the chunk starts.
use Rattle.settle.proofs.chunk_runs.StoredChunks.{Copying}
use Rattle.settle.proofs.chunk_runs.copy_chunks.Given as goal

abbrev pub invariant-loop-i : goal.invariant-loop-i
invariant-loop-i l = Copying l.data l.s l.n l.initial.out l.at l.out l.i l.from l.to
