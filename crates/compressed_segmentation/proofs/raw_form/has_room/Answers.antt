use Rattle.compressed_segmentation.proofs.raw_form.Wholes.{layer_some, room-is}
use Rattle.compressed_segmentation.proofs.raw_form.has_room.Goals as goal

pub nonzero_div-result : goal.nonzero_div-result
nonzero_div-result c = search layer_some

pub returns : goal.returns
returns c = search room-is
