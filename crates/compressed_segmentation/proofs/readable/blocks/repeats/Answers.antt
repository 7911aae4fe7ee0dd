use mathlib.Core.Bool.{not}
use mathlib.Core.Path.{ap, sym, ◌∙◌}
use mathlib.Core.Bool.{true≢false}
use borrow.Author.Tests.{not-false}
use Rattle.compressed_segmentation.proofs.block.Mild.{block_like, same-extents}
use Rattle.compressed_segmentation.proofs.block.Visited.{header-first, header-second}
use Rattle.compressed_segmentation.proofs.readable.blocks.repeats.Goals as goal

pub returns-then-not-repeats_header : goal.returns-then-not-repeats_header
returns-then-not-repeats_header c = λ e. absurd (true≢false (sym e))

pub returns : goal.returns
returns c = λ e.
    let k = same-extents c.inside_of.result c.inside_of-2.result (sym c.eq.ensures ∙ e) in
    let h = c.repeats_header.ensures in
    let t = not-false _ (ap not c.if-not-repeats_header.false) in
    let p = header-first _ _ h t in
    let q = header-second _ _ h t in
    search block_like
