-- Test 10 over rows: the loop keeps `Walk`.
use Rattle.shard.specs.index.Index.{id_steps}
use Rattle.shard.specs.Faults.{foreign_at}
use Rattle.shard.proofs.Walks.{Walk}
use Rattle.lookup.proofs.row_judge.first_foreign.Given as goal

abbrev pub invariant-loop-j : goal.invariant-loop-j
invariant-loop-j l = Walk (id_steps l.rows 0) (foreign_at l.spec l.shard l.m (id_steps l.rows 0)) l.n l.j l.own
