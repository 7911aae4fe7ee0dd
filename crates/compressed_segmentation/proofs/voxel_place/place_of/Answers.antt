use Rattle.compressed_segmentation.proofs.voxel_place.Numbered.{place-number-is}
use Rattle.compressed_segmentation.proofs.voxel_place.place_of.Goals as goal

pub returns : goal.returns
returns c = search place-number-is
