use mathlib.Core.Path.{refl, ◌∙◌}
use Rattle.mesh_manifest.specs.Fields.{header_result}
use Rattle.coronagamba.specs.Manifests.{header_after}
use Rattle.coronagamba.proofs.Told.{word-success, word-refused, after}
use Rattle.coronagamba.proofs.Patterned.{shape-x, shape-y, shape-z, origin-x, origin-y, origin-z}
use Rattle.coronagamba.proofs.manifests.coronagamba_manifest_header.Goals as goal

pub float_to_bits-header : goal.float_to_bits-header
float_to_bits-header c = search shape-x

pub float_to_bits-header-in-Ok : goal.float_to_bits-header-in-Ok
float_to_bits-header-in-Ok c = search shape-y

pub float_to_bits-header-in-Ok-2 : goal.float_to_bits-header-in-Ok-2
float_to_bits-header-in-Ok-2 c = search shape-z

pub float_to_bits-header-in-Ok-3 : goal.float_to_bits-header-in-Ok-3
float_to_bits-header-in-Ok-3 c = search origin-x

pub float_to_bits-header-in-Ok-4 : goal.float_to_bits-header-in-Ok-4
float_to_bits-header-in-Ok-4 c = search origin-y

pub float_to_bits-header-in-Ok-5 : goal.float_to_bits-header-in-Ok-5
float_to_bits-header-in-Ok-5 c = search origin-z

pub returns-in-Ok : goal.returns-in-Ok
unfolding header_after
returns-in-Ok c =
    let e = c.header_of.ensures.answer in
    let h = c.in-Ok.is in
    record { answer = word-success header_result e h refl; header = after header_after _ e h }

pub returns-in-Err : goal.returns-in-Err
unfolding header_after
returns-in-Err c =
    let e = c.header_of.ensures.answer in
    let h = c.in-Err.is in
    record { answer = c.number.ensures ∙ word-refused header_result e h refl; header = after header_after _ e h }
