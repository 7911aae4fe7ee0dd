use Rattle.coronagamba.proofs.Labelled.{measuring}
use Rattle.coronagamba.proofs.labels.coronagamba_unpacked_length.Goals as goal

pub returns-then-no_width : goal.returns-then-no_width
returns-then-no_width c = record { answer = search measuring; length = search measuring }

pub returns : goal.returns
returns c = record { answer = search measuring; length = search measuring }
