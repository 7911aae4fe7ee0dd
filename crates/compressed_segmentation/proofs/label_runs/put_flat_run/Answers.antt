use Rattle.compressed_segmentation.proofs.raw_form.Filled.{filled_start}
use Rattle.compressed_segmentation.proofs.label_runs.Runs.{run_each, flat_in, flat_on}
use borrow.Author.Rules.{rules}
use Rattle.compressed_segmentation.proofs.label_runs.put_flat_run.Goals as goal

pub read_label-label-requires : goal.read_label-label-requires
read_label-label-requires c = search flat_in

pub loop-u-init : goal.loop-u-init
loop-u-init c = filled_start (λ j. run_each _ _ _ _ _ _ _ j) (search rules)

pub loop-u-preserved : goal.loop-u-preserved
loop-u-preserved c = search flat_on
