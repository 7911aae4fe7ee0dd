use Rattle.sheet.proofs.one_turn.Turning.{answering}
use Rattle.sheet.proofs.one_turn.turn_by.Goals as goal

pub returns-in-Ok : goal.returns-in-Ok
returns-in-Ok c = search answering

pub returns-in-Err : goal.returns-in-Err
returns-in-Err c = search answering
