-- A field's answer, by what the judge gave and by the number of fields.
use Rattle.mesh_manifest.proofs.Asked.{field-refused, field-within, asked}
use Rattle.mesh_manifest.proofs.sound.Judged.{told-sound}
use Rattle.std.proofs.Common.{◌∙◌, arith}
use Rattle.refusal.proofs.Passed.{handed}
use Rattle.mesh_manifest.proofs.field_of.Goals as goal

pub returns-in_err-judge : goal.returns-in_err-judge
returns-in_err-judge c = record { answer = handed c.from_residual.ensures ∙ field-refused _ c.in_err-judge.ensures _ }

pub returns-then-i-bytes : goal.returns-then-i-bytes
returns-then-i-bytes c = search asked

pub field-requires : goal.field-requires
field-requires c = let z = told-sound _ c.in_ok-judge.ensures in (z, field-within _ z _ (omega arith))

pub returns : goal.returns
returns c = search asked
