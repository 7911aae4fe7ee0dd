use Rattle.compressed_segmentation.proofs.voxel_place.Numbered.{block-number-is}
use Rattle.compressed_segmentation.proofs.voxel_place.block_of.Goals as goal

pub returns : goal.returns
returns c = search block-number-is
