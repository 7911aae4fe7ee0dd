-- A walk over the n entries at s of the data d: what holds where entry i is next, and what is read of it.
use Rattle.std.specs.Prelude.{◌≡◌, ℕ, ◌+◌, ◌%◌, ◌^◌, ◌≤◌, List, length}
use Rattle.endian.specs.Range.{sum_to}
use Rattle.shard.specs.index.Index.{id_steps, start_steps, sizes, id_at, start_at}

-- the sums of the id steps, and of the start steps and the sizes, of the entries passed
pub record Walked (d : List ℕ) (s n i id at : ℕ) : Type 0 where
  pub below : i ≤ n
  pub ids : id ≡ sum_to (id_steps d s) i % 2 ^ 64
  pub places : at ≡ (sum_to (start_steps d s n) i + sum_to (sizes d s n) i) % 2 ^ 64

-- entry i: its id, start and size, and where it ends
pub record EntryRead (d : List ℕ) (s n i id start size end : ℕ) : Type 0 where
  pub named : id ≡ id_at (id_steps d s) i
  pub placed : start ≡ start_at (start_steps d s n) (sizes d s n) i
  pub sized : size ≡ sizes d s n i
  pub inside : start + size ≤ length d
  pub next : Walked d s n (i + 1) id end
