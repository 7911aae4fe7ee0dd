use Rattle.compressed_segmentation.proofs.label_rows.Rows.{row_room, row_on, row-start, row-place, row_done}
use Rattle.compressed_segmentation.proofs.label_rows.VoxelRow.put.Goals as goal

pub loop-i-init : goal.loop-i-init
loop-i-init c = search row-start

pub put_block-p-requires-clause-shape_in_bounds : goal.put_block-p-requires-clause-shape_in_bounds
put_block-p-requires-clause-shape_in_bounds c = search row_room

pub loop-i-preserved : goal.loop-i-preserved
loop-i-preserved c = search row_on

pub returns : goal.returns
returns c = record { value = search row-place; out_after = search row_done }
