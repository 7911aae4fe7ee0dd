use Rattle.compressed_segmentation.proofs.voxel.Asked.{voxel-at}
use Rattle.compressed_segmentation.proofs.voxel.steps.label_in.Goals as goal

pub returns : goal.returns
returns c = search voxel-at
