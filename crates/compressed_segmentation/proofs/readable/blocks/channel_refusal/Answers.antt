use Rattle.compressed_segmentation.proofs.block.Greatest.{greatest-none, greatest_still}
use Rattle.compressed_segmentation.proofs.block.Mild.{blocks_hit}
use Rattle.compressed_segmentation.proofs.readable.Offsets.{each-whole, each_width}
use borrow.Author.Rules.{rules}
use Rattle.compressed_segmentation.proofs.readable.blocks.channel_refusal.Goals as goal

pub loop-n-init : goal.loop-n-init
loop-n-init c = greatest-none _

pub next_refusal-k-requires-clause-o_bound : goal.next_refusal-k-requires-clause-o_bound
next_refusal-k-requires-clause-o_bound c = (search rules, search each-whole, search each_width)

pub returns-then-k-gt0 : goal.returns-then-k-gt0
returns-then-k-gt0 c = search blocks_hit

pub loop-n-preserved : goal.loop-n-preserved
loop-n-preserved c = search greatest_still
