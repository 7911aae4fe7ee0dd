use borrow.Author.Rules.{rules}
use Rattle.compressed_segmentation.specs.Words.{word}
use Rattle.compressed_segmentation.proofs.packed_values.word_at.Goals as goal

pub returns : goal.returns
unfolding word
returns c = search rules
