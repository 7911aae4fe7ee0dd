use Rattle.compressed_segmentation.proofs.raw_form.Filled.{filled_start, filled_next, filled_on}
use Rattle.compressed_segmentation.proofs.raw_form.Wholes.{layer_length, channel-done}
use borrow.Author.Rules.{rules}
use Rattle.compressed_segmentation.proofs.unpacking.raw.put_channel.Goals as goal

pub loop-z-init : goal.loop-z-init
loop-z-init c = filled_start (λ j. layer_length _ _ _ j) (search rules)

pub put_layer-p-requires-clause-shape_in_bounds : goal.put_layer-p-requires-clause-shape_in_bounds
put_layer-p-requires-clause-shape_in_bounds c = search filled_next

pub loop-z-preserved : goal.loop-z-preserved
loop-z-preserved c = search filled_on

pub returns-clause-out_after : goal.returns-clause-out_after
returns-clause-out_after c = search channel-done
