use Rattle.compressed_segmentation.proofs.raw_form.Filled.{filled_start, filled_next, filled_on}
use Rattle.compressed_segmentation.proofs.raw_form.Wholes.{channel-length, form-done}
use borrow.Author.Rules.{rules}
use Rattle.compressed_segmentation.proofs.unpacking.raw.put_all.Goals as goal

pub loop-c-init : goal.loop-c-init
loop-c-init c = filled_start (λ j. channel-length _ _ j) (search rules)

pub put_channel-p-requires-clause-shape_in_bounds : goal.put_channel-p-requires-clause-shape_in_bounds
put_channel-p-requires-clause-shape_in_bounds c = search filled_next

pub loop-c-preserved : goal.loop-c-preserved
loop-c-preserved c = search filled_on

pub returns-clause-out_after : goal.returns-clause-out_after
returns-clause-out_after c = search form-done
