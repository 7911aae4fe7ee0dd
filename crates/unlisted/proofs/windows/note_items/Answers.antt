use Rattle.std.proofs.Common.{refl, ap, ◌∙◌, arith}
use Rattle.unlisted.specs.chunks.Left.{chunks_left}
use Rattle.unlisted.proofs.chunks.Steps.{left_first, left_last, left_next, met_inside, met_led, met_test, taken-more}
use Rattle.unlisted.proofs.windows.Noting.{items_first, items_next}
use Rattle.unlisted.proofs.windows.note_items.Goals as goal

pub loop-chunk-init : goal.loop-chunk-init
loop-chunk-init c =
    (left_first _ _ _ _ (omega arith) (ap chunks_left c.into_iter-chunk-iterator.ensures.into_iter_gives ∙ c.new-chunk-items.ensures), items_first _ _ _ _ _ _)

pub note_item-requires-clause-size_in_bounds : goal.note_item-requires-clause-size_in_bounds
note_item-requires-clause-size_in_bounds c =
    let v = c.loop-chunk.invariant in
    let e = c.in-Some.ensures.steps in
    (met_inside v.0 e c.requires.ranged, c.requires.ranged.short, met_led v.0 e c.requires.ranged)

pub loop-chunk-preserved : goal.loop-chunk-preserved
loop-chunk-preserved c =
    let v = c.loop-chunk.invariant in
    let e = c.in-Some.ensures.steps in
    rw (taken-more c.loop-chunk.yielded c.in-Some.chunk)
    (left_next v.0 e refl, items_next _ _ _ _ _ _ _ _ (met_test v.0 e c.requires.ranged refl) v.1 c.note_item.ensures)

pub returns : goal.returns
returns c =
    let v = c.loop-chunk.invariant in
    rw (left_last v.0 c.in-None.ensures.steps.0) at v.1
