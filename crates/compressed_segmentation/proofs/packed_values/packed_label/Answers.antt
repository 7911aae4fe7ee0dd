use native.Mathlib.Omega.{arith}
use Rattle.compressed_segmentation.proofs.packed_values.Numbers.{told-below-same}
use Rattle.compressed_segmentation.proofs.packed_values.Packed.{width-most}
use Rattle.compressed_segmentation.proofs.packed_values.Entries.{packed-cut, packed-whole}
use Rattle.compressed_segmentation.proofs.packed_values.packed_label.Goals as goal

pub returns-in_default : goal.returns-in_default
returns-in_default c = search packed-cut

pub word_at-requires : goal.word_at-requires
word_at-requires c = search told-below-same

pub bits-v-requires : goal.bits-v-requires
bits-v-requires c = (omega arith, search width-most)

pub returns : goal.returns
returns c = search packed-whole
