use Rattle.unlisted.proofs.stretches.Stretches.{stretch_none, stretch_told, run_mesh, run_empty, run_told}
use Rattle.unlisted.proofs.stretches.stretch_of.Goals as goal

pub returns-then-has_leads : goal.returns-then-has_leads
returns-then-has_leads c = (search stretch_none, search run_mesh)

pub returns-then-k-eq0 : goal.returns-then-k-eq0
returns-then-k-eq0 c = (search stretch_none, search run_empty)

pub returns : goal.returns
returns c = (search stretch_told, search run_told)
