use native.Mathlib.Omega.{arith}
use borrow.Author.Rules.{rules}
use Rattle.compressed_segmentation.proofs.block.Mild.{block_none}
use Rattle.compressed_segmentation.proofs.readable.blocks.next_refusal.Goals as goal

pub returns-then-repeats : goal.returns-then-repeats
returns-then-repeats c = let k = c.repeats.ensures c.if-repeats.true in block_none _ _ _ _ (omega arith) (search rules) k
