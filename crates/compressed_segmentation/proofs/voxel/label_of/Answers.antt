use Rattle.compressed_segmentation.proofs.voxel.Asked.{answer-none, answer_outside, answer-inside}
use Rattle.compressed_segmentation.proofs.voxel.label_of.Goals as goal

pub returns-then-has_none : goal.returns-then-has_none
returns-then-has_none c = search answer-none

pub returns-then-is_outside : goal.returns-then-is_outside
returns-then-is_outside c = search answer_outside

pub returns : goal.returns
returns c = search answer-inside
