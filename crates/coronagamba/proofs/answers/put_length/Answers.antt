use Rattle.coronagamba.proofs.Writing.{writing}
use Rattle.coronagamba.proofs.answers.put_length.Goals as goal

pub returns-in-Ok : goal.returns-in-Ok
returns-in-Ok c = record { word = search writing; length = search writing }

pub returns-in-Err : goal.returns-in-Err
returns-in-Err c = record { word = search writing; length = search writing }
