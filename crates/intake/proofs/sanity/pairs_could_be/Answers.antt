use Rattle.intake.proofs.sanity.Sharing.{sharing}
use Rattle.intake.proofs.sanity.pairs_could_be.Goals as goal

pub overflow_add-left : goal.overflow_add-left
overflow_add-left c = search sharing

pub overflow_sub-left : goal.overflow_sub-left
overflow_sub-left c = search sharing

pub loop-i-init : goal.loop-i-init
loop-i-init c = search sharing

pub can_follow-requires : goal.can_follow-requires
can_follow-requires c = search sharing

pub returns-then-not-can_follow : goal.returns-then-not-can_follow
returns-then-not-can_follow c = search sharing

pub overflow_mul-i : goal.overflow_mul-i
overflow_mul-i c = search sharing

pub read_u64-size-requires : goal.read_u64-size-requires
read_u64-size-requires c = search sharing

pub returns-then-left-size : goal.returns-then-left-size
returns-then-left-size c = search sharing

pub loop-i-preserved : goal.loop-i-preserved
loop-i-preserved c = search sharing

pub returns : goal.returns
returns c = search sharing

pub overflow_add-i : goal.overflow_add-i
overflow_add-i c = search sharing
