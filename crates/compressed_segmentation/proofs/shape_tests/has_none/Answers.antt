use Rattle.compressed_segmentation.proofs.Shapes.{none_is}
use Rattle.compressed_segmentation.proofs.shape_tests.has_none.Goals as goal

pub returns : goal.returns
returns c = search none_is
