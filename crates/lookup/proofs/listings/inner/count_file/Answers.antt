-- The count of a minishard of a file, by its two parts.
use Rattle.std.proofs.Common.{rules}
use Rattle.shard.proofs.Split.{front-count, front-index, rest-short}
use Rattle.lookup.proofs.listings.Listings.{parts-count}
use Rattle.lookup.proofs.listings.inner.count_file.Goals as goal

pub slice_bounds-count_parts-end : goal.slice_bounds-count_parts-end
slice_bounds-count_parts-end c = search front-count

pub count_parts-requires : goal.count_parts-requires
count_parts-requires c = record { spec_value = search rules; index_len = (search front-index, search rest-short); m_bound = search rules }

pub returns : goal.returns
returns c = search parts-count
