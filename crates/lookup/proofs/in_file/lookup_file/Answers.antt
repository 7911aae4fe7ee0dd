-- The lookup in a file, by its two parts.
use Rattle.std.proofs.Common.{rules}
use Rattle.shard.proofs.Split.{front-count, front-index, rest-short}
use Rattle.lookup.proofs.Answers.{parts-lookup}
use Rattle.lookup.proofs.in_file.lookup_file.Goals as goal

pub slice_bounds-lookup_in-end : goal.slice_bounds-lookup_in-end
slice_bounds-lookup_in-end c = search front-count

pub lookup_in-requires : goal.lookup_in-requires
lookup_in-requires c = record { spec_value = search rules; index_len = (search front-index, search rest-short) }

pub returns : goal.returns
returns c = search parts-lookup
