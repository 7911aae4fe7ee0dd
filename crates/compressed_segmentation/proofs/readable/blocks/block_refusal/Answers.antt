use borrow.Author.Rules.{rules}
use Rattle.compressed_segmentation.proofs.Shapes.{block-x}
use Rattle.compressed_segmentation.proofs.block.Mild.{block_flat}
use Rattle.compressed_segmentation.proofs.block.Inside.{inside-x-at, inside-y-at, inside-z-at}
use Rattle.compressed_segmentation.proofs.readable.Read.{block_read}
use Rattle.compressed_segmentation.proofs.readable.blocks.block_refusal.Goals as goal

pub returns-then-first-eq0 : goal.returns-then-first-eq0
returns-then-first-eq0 c = search block_flat

pub packed_refusal-requires : goal.packed_refusal-requires
packed_refusal-requires c = record { first_nonzero = (search rules, search block-x, search inside-x-at, search inside-y-at, search inside-z-at) }

pub returns : goal.returns
returns c = search block_read
