-- `morton::keys::reaches_past` meets its contract.
use Rattle.morton.proofs.Ways.{never-past, past-at}
use Rattle.morton.proofs.keys.reaches_past.Goals as goal

pub returns-then-bits-eq64 : goal.returns-then-bits-eq64
returns-then-bits-eq64 c = search never-past

pub returns : goal.returns
returns c = search past-at
