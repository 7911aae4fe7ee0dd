use Rattle.compressed_segmentation.proofs.block.Sure.{row-packed, row_of_run}
use Rattle.compressed_segmentation.proofs.packed_block.PackedBlock.row_refusal.Goals as goal

pub run_refusal-requires-clause-packed : goal.run_refusal-requires-clause-packed
run_refusal-requires-clause-packed c = search row-packed

pub returns : goal.returns
returns c = search row_of_run
