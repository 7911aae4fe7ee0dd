use Rattle.coronagamba.proofs.Intaken.{opening}
use Rattle.coronagamba.proofs.intakes.coronagamba_intake_open.Goals as goal

pub returns : goal.returns
returns c = record { answer = search opening; out = search opening; state = search opening }
