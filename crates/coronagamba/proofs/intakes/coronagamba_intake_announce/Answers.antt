use Rattle.coronagamba.proofs.Intaken.{announcing}
use Rattle.coronagamba.proofs.intakes.coronagamba_intake_announce.Goals as goal

pub returns : goal.returns
returns c = record { answer = search announcing; state = search announcing; out = search announcing; waiting = search announcing }
