use mathlib.Core.Path.{refl, ◌∙◌}
use Rattle.card.specs.Answers.{card_result}
use Rattle.coronagamba.specs.Cards.{sharding_after, volume_after, chunk_after, offset_after}
use Rattle.coronagamba.proofs.Told.{word-success, word-refused, after}
use Rattle.coronagamba.proofs.numbers.put_card.Goals as goal

pub returns-in-Ok : goal.returns-in-Ok
unfolding sharding_after volume_after chunk_after offset_after
returns-in-Ok c =
    let h = c.in-Ok.is in record { word = word-success card_result refl h refl; sharding = c.five.ensures ∙ after sharding_after _ refl h; size = c.three_extents.ensures ∙ after volume_after _ refl h; chunk = c.three_extents-in-Ok.ensures ∙ after chunk_after _ refl h; offset = c.three_offsets.ensures ∙ after offset_after _ refl h }

pub returns-in-Err : goal.returns-in-Err
unfolding sharding_after volume_after chunk_after offset_after
returns-in-Err c =
    let h = c.in-Err.is in record { word = c.number.ensures ∙ word-refused card_result refl h refl; sharding = after sharding_after _ refl h; size = after volume_after _ refl h; chunk = after chunk_after _ refl h; offset = after offset_after _ refl h }
