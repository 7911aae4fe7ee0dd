-- The position is that of the entry's start step.
use Rattle.shard.proofs.manifests.Walk.{step_fits, place-fits, fault-none, fault-some}
use Rattle.shard.proofs.manifests.manifest_fault.Goals as goal

pub returns-then-found-eq0 : goal.returns-then-found-eq0
returns-then-found-eq0 c = search fault-none

pub overflow_mul-result-2 : goal.overflow_mul-result-2
overflow_mul-result-2 c = search step_fits

pub overflow_add-result-3 : goal.overflow_add-result-3
overflow_add-result-3 c = search place-fits

pub returns : goal.returns
returns c = search fault-some
