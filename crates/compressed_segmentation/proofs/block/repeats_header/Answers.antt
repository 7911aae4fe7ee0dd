use Rattle.compressed_segmentation.proofs.block.Visited.{header_flat, header-other, header-same}
use Rattle.compressed_segmentation.proofs.block.repeats_header.Goals as goal

pub returns-then-first-eq0 : goal.returns-then-first-eq0
returns-then-first-eq0 c = search header_flat

pub returns-then-word_at-first : goal.returns-then-word_at-first
returns-then-word_at-first c = search header-other

pub returns : goal.returns
returns c = search header-same
