use Rattle.unlisted.proofs.Counted.{counting}
use Rattle.unlisted.proofs.counting.count_after.Goals as goal

pub in_order-walk-requires : goal.in_order-walk-requires
in_order-walk-requires c = search counting

pub overflow_sub-result : goal.overflow_sub-result
overflow_sub-result c = search counting

pub overflow_add-result : goal.overflow_add-result
overflow_add-result c = search counting

pub returns-then-walk : goal.returns-then-walk
returns-then-walk c = search counting

pub count_from-requires : goal.count_from-requires
count_from-requires c = search counting

pub returns : goal.returns
returns c = search counting
