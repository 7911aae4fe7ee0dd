use Rattle.coronagamba.proofs.Labelled.{unpacking}
use Rattle.coronagamba.proofs.labels.coronagamba_unpack.Goals as goal

pub returns-then-no_width : goal.returns-then-no_width
returns-then-no_width c = record { answer = search unpacking; out = search unpacking; length = search unpacking }

pub returns : goal.returns
returns c = record { answer = search unpacking; out = search unpacking; length = search unpacking }
