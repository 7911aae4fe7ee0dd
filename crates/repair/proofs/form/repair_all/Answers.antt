use Rattle.repair.proofs.form.AllMinishards.{writing}
use Rattle.repair.proofs.form.repair_all.Goals as goal

pub loop-m-init : goal.loop-m-init
loop-m-init c = search writing

pub repair_one-p-requires : goal.repair_one-p-requires
repair_one-p-requires c = record { pair = (search writing, search writing, search writing); m_in_bounds = (search writing, search writing) }

pub overflow_add-p : goal.overflow_add-p
overflow_add-p c = search writing

pub loop-m-preserved : goal.loop-m-preserved
loop-m-preserved c = search writing

pub returns : goal.returns
returns c = search writing
