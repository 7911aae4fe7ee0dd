-- The header's answer, by what the judge gave.
use Rattle.mesh_manifest.proofs.Asked.{header_refused, asked}
use Rattle.std.proofs.Common.{◌∙◌}
use Rattle.refusal.proofs.Passed.{handed}
use Rattle.mesh_manifest.proofs.header_of.Goals as goal

pub returns-in_err-judge : goal.returns-in_err-judge
returns-in_err-judge c = record { answer = handed c.from_residual.ensures ∙ header_refused _ c.in_err-judge.ensures }

pub header-requires : goal.header-requires
header-requires c = search asked

pub returns : goal.returns
returns c = search asked
