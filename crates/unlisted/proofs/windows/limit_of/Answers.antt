use Rattle.unlisted.proofs.windows.Noting.{limit_none, limit_far}
use Rattle.unlisted.proofs.windows.limit_of.Goals as goal

pub returns-then-has_leads : goal.returns-then-has_leads
returns-then-has_leads c = search limit_far

pub returns : goal.returns
returns c = search limit_none
