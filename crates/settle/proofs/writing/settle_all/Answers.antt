use Rattle.settle.proofs.writing.WriteWhole.{settling}
use Rattle.settle.proofs.writing.settle_all.Goals as goal

pub loop-m-init : goal.loop-m-init
loop-m-init c = search settling

pub settle_one-p-requires : goal.settle_one-p-requires
settle_one-p-requires c = search settling

pub overflow_add-p : goal.overflow_add-p
overflow_add-p c = search settling

pub loop-m-preserved : goal.loop-m-preserved
loop-m-preserved c = search settling

pub returns : goal.returns
returns c = search settling
