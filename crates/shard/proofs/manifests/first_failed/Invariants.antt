-- The loop keeps `Walked`.
use Rattle.shard.proofs.manifests.Walk.{Walked}
use Rattle.shard.proofs.manifests.first_failed.Given as goal

abbrev pub invariant-loop-i : goal.invariant-loop-i
invariant-loop-i l = Walked l.data l.p l.n l.i l.found l.at
