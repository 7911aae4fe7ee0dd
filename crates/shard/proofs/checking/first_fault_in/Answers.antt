-- The first fault in a file, by its two parts.
use Rattle.std.proofs.Common.{rules}
use Rattle.shard.proofs.Split.{front-count, front-index, rest-short}
use Rattle.shard.proofs.WholeAnswers.{parts-fault}
use Rattle.shard.proofs.checking.first_fault_in.Goals as goal

pub slice_bounds-first_fault-end : goal.slice_bounds-first_fault-end
slice_bounds-first_fault-end c = search front-count

pub first_fault-requires : goal.first_fault-requires
first_fault-requires c = record { spec_value = search rules; index_len = (search front-index, search rest-short, search rules) }

pub returns : goal.returns
returns c = search parts-fault
