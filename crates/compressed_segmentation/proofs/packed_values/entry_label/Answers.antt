use Rattle.compressed_segmentation.proofs.packed_values.Entries.{wide_cut, wide_label, narrow_cut, narrow-label}
use Rattle.compressed_segmentation.proofs.packed_values.entry_label.Goals as goal

pub returns-then-words-at : goal.returns-then-words-at
returns-then-words-at c = search wide_cut

pub returns-then-wide : goal.returns-then-wide
returns-then-wide c = search wide_label

pub returns-then-words-at-2 : goal.returns-then-words-at-2
returns-then-words-at-2 c = search narrow_cut

pub returns : goal.returns
returns c = search narrow-label
