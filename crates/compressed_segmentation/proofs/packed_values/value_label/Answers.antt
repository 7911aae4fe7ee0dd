use Rattle.compressed_segmentation.proofs.packed_values.Entries.{no_bits}
use Rattle.compressed_segmentation.proofs.packed_values.value_label.Goals as goal

pub returns-then-block-eq0 : goal.returns-then-block-eq0
returns-then-block-eq0 c = search no_bits
