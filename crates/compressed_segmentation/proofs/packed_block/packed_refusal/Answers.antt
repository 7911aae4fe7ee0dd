use mathlib.Core.Bool.{not}
use mathlib.Core.Path.{ap}
use borrow.Author.Tests.{not-false}
use Rattle.compressed_segmentation.proofs.packed_values.Packed.{width-most}
use Rattle.compressed_segmentation.proofs.block.Sure.{sure-told}
use Rattle.compressed_segmentation.proofs.packed_block.packed_refusal.Goals as goal

pub two_to-requires : goal.two_to-requires
two_to-requires c = search width-most

pub returns-then-two_to-limit : goal.returns-then-two_to-limit
returns-then-two_to-limit c =
    let b = c in
    let reached = b.is_reached.ensures.reached (not-false _ (ap not b.if-not-is_reached.false)) in
    search sure-told
