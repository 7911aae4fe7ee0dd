-- The lookup over two parts: judged, then searched.
use Rattle.std.proofs.Common.{rules}
use Rattle.shard.proofs.Passed.{passed_order, passed_readable}
use Rattle.shard.proofs.Split.{index_short}
use Rattle.lookup.proofs.chosen_minishard.InParts.{in_fault, in_empty, in_found}
use Rattle.lookup.proofs.chosen_minishard.lookup_in.Goals as goal

pub returns-then-fault-ne0 : goal.returns-then-fault-ne0
returns-then-fault-ne0 c = search in_fault

pub returns-then-s-e : goal.returns-then-s-e
returns-then-s-e c = search in_empty

pub overflow_sub-n : goal.overflow_sub-n
overflow_sub-n c = search passed_order

pub find-requires : goal.find-requires
find-requires c = search (passed_readable, index_short, rules)

pub returns : goal.returns
returns c = search in_found
