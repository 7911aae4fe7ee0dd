use Rattle.std.proofs.Common.{refl, ap, ◌∙◌, Ok}
use Rattle.mesh_manifest.proofs.Fields.{field-number}
use Rattle.mesh_manifest.specs.Fields.{field_result}
use Rattle.coronagamba.specs.Manifests.{kind_after, value_after}
use Rattle.coronagamba.proofs.Told.{word-success, word-refused, after}
use Rattle.coronagamba.proofs.manifests.coronagamba_manifest_field.Goals as goal

pub float_to_bits-value : goal.float_to_bits-value
float_to_bits-value c = field-number _ _ c.field_of.ensures.answer (c.in-Ok-Real.is ∙ ap Ok c.in-Ok-Real.field-0-is)

pub returns-in-Ok-Real : goal.returns-in-Ok-Real
unfolding kind_after value_after
returns-in-Ok-Real c =
    let e = c.field_of.ensures.answer in
    let h = c.in-Ok-Real.is ∙ ap Ok c.in-Ok-Real.field-0-is in
    record { answer = word-success field_result e h refl; kind = after kind_after _ e h; value = after value_after _ e h }

pub returns-in-Ok-Whole : goal.returns-in-Ok-Whole
unfolding kind_after value_after
returns-in-Ok-Whole c =
    let e = c.field_of.ensures.answer in
    let h = c.in-Ok-Whole.is ∙ ap Ok c.in-Ok-Whole.field-0-is in
    record { answer = word-success field_result e h refl; kind = after kind_after _ e h; value = after value_after _ e h }

pub returns-in-Err : goal.returns-in-Err
unfolding kind_after value_after
returns-in-Err c =
    let e = c.field_of.ensures.answer in
    let h = c.in-Err.is in
    record { answer = c.number.ensures ∙ word-refused field_result e h refl; kind = after kind_after _ e h; value = after value_after _ e h }
