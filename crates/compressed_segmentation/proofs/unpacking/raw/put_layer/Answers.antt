use Rattle.compressed_segmentation.proofs.raw_form.Filled.{filled_start, filled_on}
use Rattle.compressed_segmentation.proofs.raw_form.Wholes.{row-length, layer_done}
use borrow.Author.Rules.{rules}
use Rattle.compressed_segmentation.proofs.unpacking.raw.put_layer.Goals as goal

pub loop-y-init : goal.loop-y-init
loop-y-init c = filled_start (λ j. row-length _ _ _ _ j) (search rules)

pub loop-y-preserved : goal.loop-y-preserved
loop-y-preserved c = search filled_on

pub returns-clause-out_after : goal.returns-clause-out_after
returns-clause-out_after c = search layer_done
