use Rattle.compressed_segmentation.proofs.Shapes.{some_blocks, some-rows}
use Rattle.compressed_segmentation.proofs.block.Inside.{rest_of_fits, layer_fits}
use Rattle.compressed_segmentation.proofs.readable.Read.{inside-read}
use Rattle.compressed_segmentation.proofs.readable.blocks.inside_of.Goals as goal

pub overflow_cast-n : goal.overflow_cast-n
overflow_cast-n c = search (rest_of_fits, some_blocks)

pub overflow_cast-n-2 : goal.overflow_cast-n-2
overflow_cast-n-2 c = search (rest_of_fits, some-rows)

pub overflow_cast-n-3 : goal.overflow_cast-n-3
overflow_cast-n-3 c = search (layer_fits, some_blocks, some-rows)

pub returns : goal.returns
returns c = search inside-read
