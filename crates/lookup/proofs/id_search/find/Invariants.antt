-- The search: the loop keeps `Tally`, and none of the ids passed is the one sought.
use Rattle.std.proofs.Common.{◌≡◌, false}
use Rattle.endian.specs.Range.{any_below}
use Rattle.shard.specs.index.Index.{id_steps, start_steps, sizes}
use Rattle.lookup.specs.id_search.Search.{is_id}
use Rattle.shard.proofs.index.Tally.{Tally}
use Rattle.lookup.proofs.id_search.find.Given as goal

abbrev pub invariant-loop-i : goal.invariant-loop-i
invariant-loop-i l =
    Tally (id_steps l.data l.p) (start_steps l.data l.p l.n) (sizes l.data l.p l.n) l.n l.i l.cur l.at × (any_below l.i (is_id (id_steps l.data l.p) l.id) ≡ false)
