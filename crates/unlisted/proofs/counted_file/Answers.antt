use Rattle.std.proofs.Common.{rules}
use Rattle.shard.proofs.Split.{front-count, front-index, rest-short}
use Rattle.unlisted.proofs.Counted.{parts-counts}
use Rattle.unlisted.proofs.counted_file.Goals as goal

pub slice_bounds-count_judged-end : goal.slice_bounds-count_judged-end
slice_bounds-count_judged-end c = search front-count

pub count_judged-requires : goal.count_judged-requires
count_judged-requires c = record { spec_value = search rules; index_len = (search front-index, search rest-short) }

pub returns : goal.returns
returns c = search parts-counts
