-- Test 11 over rows: the loop keeps `Span`.
use Rattle.shard.specs.index.Index.{start_steps, sizes}
use Rattle.shard.proofs.Walks.{Span}
use Rattle.lookup.proofs.row_judge.first_outside.Given as goal

abbrev pub invariant-loop-k : goal.invariant-loop-k
invariant-loop-k l = Span (start_steps l.rows 0 l.n) (sizes l.rows 0 l.n) l.room l.n l.k l.end
