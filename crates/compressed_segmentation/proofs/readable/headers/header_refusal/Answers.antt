use Rattle.compressed_segmentation.proofs.readable.Offsets.{header_28, header_0, header_29}
use Rattle.compressed_segmentation.proofs.readable.headers.header_refusal.Goals as goal

pub returns-then-words-at : goal.returns-then-words-at
returns-then-words-at c = search header_28

pub returns-then-is_width : goal.returns-then-is_width
returns-then-is_width c = search header_0

pub returns : goal.returns
returns c = search header_29
