-- The first fault of some minishards. Each of the three loops keeps what is left to find.
-- 'minishards keeps `Searching`: the first fault from m on is the one asked for.
-- 'places keeps `Testing`: the entries of m have passed test 9, and 10, 11 and those of a mesh are left; and `Walk`: own is the id before entry j, and no place passed is foreign.
-- 'ends keeps `Testing` with 11 and those of a mesh left; and `Span`: end is where the chunk before entry k ends, and no chunk passed ends outside.
-- A loop over the entries that runs to its end has passed its test. Each break has found the first test that fails, and its first entry: by `Searching` or `Testing` that is the fault asked for.
-- Only a break sets `found`, so at each head it is still no fault. `Rows` bounds s, e and both lengths: no place and no sum passes 2^64.
use Rattle.std.proofs.Common.{◌≡◌, ◌+◌, ◌≤◌, ◌∷◌, length}
use Rattle.shard.specs.index.Index.{most_shard_bytes, id_steps}
use Rattle.endian.specs.Little.{row_at}
use Rattle.shard.specs.Faults.{foreign_at, place_test, end_test, mesh_tests, fault_of, no_fault}
use Rattle.shard.proofs.Walks.{Walk, Span}
use Rattle.shard.proofs.Loops.{Searching, Testing}
use Rattle.shard.proofs.judge.Room.{Rows}
use Rattle.shard.proofs.judge.first_fault.Given as goal

abbrev pub invariant-places : goal.invariant-places
invariant-places l =
    (l.found ≡ no_fault)
    × Testing (fault_of l.spec l.shard l.index l.data) l.from l.to l.m (length l.index + l.p) l.n (place_test l.spec l.shard l.m l.data l.p ∷ end_test l.data l.p l.n ∷ mesh_tests l.spec l.data l.p l.n)
    × Walk (id_steps l.data l.p) (foreign_at l.spec l.shard l.m (id_steps l.data l.p)) l.n l.j l.own
    × Rows l.s l.e (length l.data) (length l.index)

abbrev pub invariant-ends : goal.invariant-ends
invariant-ends l =
    (l.found ≡ no_fault)
    × Testing (fault_of l.spec l.shard l.index l.data) l.from l.to l.m (length l.index + l.p) l.n (end_test l.data l.p l.n ∷ mesh_tests l.spec l.data l.p l.n)
    × Span (row_at l.data l.q) (row_at l.data l.t) (length l.data) l.n l.k l.end
    × Rows l.s l.e (length l.data) (length l.index)

-- ---- what the loop over minishards keeps
abbrev pub invariant-minishards : goal.invariant-minishards
invariant-minishards l =
    (l.found ≡ no_fault) × Searching (fault_of l.spec l.shard l.index l.data) l.from l.to l.m × (length l.data ≤ most_shard_bytes) × (length l.index ≤ most_shard_bytes)
