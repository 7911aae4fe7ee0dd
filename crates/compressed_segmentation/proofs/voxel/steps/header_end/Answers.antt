use Rattle.compressed_segmentation.proofs.packed_values.Numbers.{twice}
use Rattle.compressed_segmentation.proofs.voxel.steps.header_end.Goals as goal

pub returns : goal.returns
returns c = search twice
