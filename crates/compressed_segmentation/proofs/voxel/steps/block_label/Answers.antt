use Rattle.compressed_segmentation.proofs.packed_values.Numbers.{told_below, told-before, told-some}
use Rattle.compressed_segmentation.proofs.voxel.Asked.{header-cut, header_bad, header_good}
use Rattle.compressed_segmentation.proofs.voxel.steps.block_label.Goals as goal

pub returns-in_default : goal.returns-in_default
returns-in_default c = search header-cut

pub overflow_sub-i : goal.overflow_sub-i
overflow_sub-i c = search told-some

pub word_at-first-requires : goal.word_at-first-requires
word_at-first-requires c = search told-before

pub returns-then-not-is_width : goal.returns-then-not-is_width
returns-then-not-is_width c = search header_bad

pub word_at-requires : goal.word_at-requires
word_at-requires c = search told_below

pub returns : goal.returns
returns c = search header_good
