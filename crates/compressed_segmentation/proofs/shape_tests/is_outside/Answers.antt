use mathlib.Core.Path.{refl}
use Rattle.compressed_segmentation.specs.Layout.{outside_shape}
use Rattle.compressed_segmentation.proofs.shape_tests.is_outside.Goals as goal

pub returns : goal.returns
unfolding outside_shape
returns c = refl
