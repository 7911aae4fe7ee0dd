-- The search in rows: the loop keeps `Tally`, and none of the ids passed is the one sought.
use Rattle.std.proofs.Common.{◌≡◌, false}
use Rattle.endian.specs.Range.{any_below}
use Rattle.shard.specs.index.Index.{id_steps, start_steps, sizes}
use Rattle.lookup.specs.id_search.Search.{is_id}
use Rattle.shard.proofs.index.Tally.{Tally}
use Rattle.lookup.proofs.row_judge.find_row.Given as goal

abbrev pub invariant-loop-i : goal.invariant-loop-i
invariant-loop-i l =
    Tally (id_steps l.rows 0) (start_steps l.rows 0 l.n) (sizes l.rows 0 l.n) l.n l.i l.cur l.at × (any_below l.i (is_id (id_steps l.rows 0) l.id) ≡ false)
