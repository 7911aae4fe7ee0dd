use Rattle.std.proofs.Common.{rules}
use Rattle.unlisted.proofs.Counted.{judged-counts, judged_ranged, judged-tells, judged-counted}
use Rattle.unlisted.proofs.counting.count_judged.Goals as goal

pub returns-then-found-ne0 : goal.returns-then-found-ne0
returns-then-found-ne0 c = search judged-counts

pub count_after-bytes-requires : goal.count_after-bytes-requires
count_after-bytes-requires c = record { ranged_shard = search judged_ranged; gaps_le_to = (search rules, search judged-tells) }

pub returns : goal.returns
returns c = search judged-counted
