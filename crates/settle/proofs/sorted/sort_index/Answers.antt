-- The rows put where they will stand, then sorted there.
use Rattle.std.proofs.Common.{rules}
use Rattle.settle.proofs.sorted.SortedWhole.{rows-distinct}
use Rattle.settle.proofs.sorted.sort_index.Goals as goal

pub sort_rows-requires : goal.sort_rows-requires
sort_rows-requires c =
    let at-put = c in
    record { n_in_bounds = search rules; distinct = rows-distinct _ _ _ _ _ at-put.put_rows.ensures.n_after (search rules) }
