use Rattle.repair.proofs.Troubles.{troubling}
use Rattle.repair.proofs.copies.trouble_of.Goals as goal

pub judge-fault-requires : goal.judge-fault-requires
judge-fault-requires c = search troubling

pub is_sound-other-requires : goal.is_sound-other-requires
is_sound-other-requires c = search troubling

pub returns-then-other : goal.returns-then-other
returns-then-other c = search troubling

pub returns-then-fault-ne0 : goal.returns-then-fault-ne0
returns-then-fault-ne0 c = search troubling

pub returns-then-not-other : goal.returns-then-not-other
returns-then-not-other c = search troubling

pub lists_alike-requires : goal.lists_alike-requires
lists_alike-requires c = record { m_in_bounds = (search troubling, search troubling); m_in_bounds_2 = (search troubling, search troubling) }

pub returns-then-lists_alike : goal.returns-then-lists_alike
returns-then-lists_alike c = search troubling

pub overflow_mul-result : goal.overflow_mul-result
overflow_mul-result c = search troubling

pub returns : goal.returns
returns c = search troubling
