use Rattle.coronagamba.proofs.Intaken.{stating}
use Rattle.coronagamba.proofs.intakes.put_state.Goals as goal

pub returns-in-Ok : goal.returns-in-Ok
returns-in-Ok c = record { value = search stating; state_after = search stating }

pub returns-in-Err : goal.returns-in-Err
returns-in-Err c = record { value = search stating; state_after = search stating }
