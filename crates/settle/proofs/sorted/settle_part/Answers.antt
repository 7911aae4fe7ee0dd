use Rattle.std.proofs.Common.{rules}
use Rattle.settle.proofs.as_it_stands.Climbing.{standing}
use Rattle.settle.proofs.sorted.settle_part.Goals as goal

pub settle_stored-requires : goal.settle_stored-requires
settle_stored-requires c = record { readable_index = (search rules, search standing); n_in_bounds = search standing }

pub returns-then-may_stand : goal.returns-then-may_stand
returns-then-may_stand c = record { value = search standing; out_after = search standing }
