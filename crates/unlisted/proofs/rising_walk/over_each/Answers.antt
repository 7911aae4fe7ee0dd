use Rattle.std.proofs.Common.{refl, ap, ◌∙◌}
use Rattle.unlisted.specs.chunks.Left.{chunks_left}
use Rattle.unlisted.proofs.chunks.Steps.{left_first, left_last, left_next, met_inside, met_fits, met_led, met_test, taken-more}
use Rattle.unlisted.proofs.rising_walk.Runs.{extends_then}
use Rattle.unlisted.proofs.rising_walk.Parts.{items_first}
use Rattle.unlisted.proofs.rising_walk.over_each.Goals as goal

pub loop-chunk-init : goal.loop-chunk-init
loop-chunk-init c =
    let r = c.requires.ranged in (
      left_first _ _ _ _ r.1 (ap chunks_left c.into_iter-chunk-iterator.ensures.into_iter_gives ∙ c.new-chunk-items.ensures),
      items_first _ _ _ _ _ c.requires.gaps_le_to,
    )

pub item_start-begin-requires : goal.item_start-begin-requires
item_start-begin-requires c =
    let v = c.loop-chunk.invariant in
    let e = c.in-Some.ensures.steps in
    (met_inside v.0 e c.requires.ranged.0, met_led v.0 e c.requires.ranged.0)

pub overflow_add-start : goal.overflow_add-start
overflow_add-start c = met_fits c.loop-chunk.invariant.0 c.in-Some.ensures.steps c.requires.ranged.0

pub loop-chunk-preserved : goal.loop-chunk-preserved
loop-chunk-preserved c =
    let v = c.loop-chunk.invariant in
    let e = c.in-Some.ensures.steps in
    rw (taken-more c.loop-chunk.yielded c.in-Some.chunk)
    (left_next v.0 e refl, extends_then v.1 c.extend-at.ensures (met_test v.0 e c.requires.ranged.0 c.item_start-begin.ensures))

pub returns : goal.returns
returns c =
    let v = c.loop-chunk.invariant in
    rw (left_last v.0 c.in-None.ensures.steps.0) at v.1
