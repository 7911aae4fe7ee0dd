use Rattle.coronagamba.proofs.Labelled.{labelling}
use Rattle.coronagamba.proofs.labels.coronagamba_label.Goals as goal

pub returns-then-no_width : goal.returns-then-no_width
returns-then-no_width c = record { answer = search labelling; label = search labelling }

pub returns-in-Ok : goal.returns-in-Ok
returns-in-Ok c = record { answer = search labelling; label = search labelling }

pub returns-in-Err : goal.returns-in-Err
returns-in-Err c = record { answer = search labelling; label = search labelling }
