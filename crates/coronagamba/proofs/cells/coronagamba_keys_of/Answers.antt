use Rattle.coronagamba.proofs.Given.{written}
use Rattle.coronagamba.proofs.cells.coronagamba_keys_of.Goals as goal

pub returns : goal.returns
returns c = record { answer = search written; keys = search written; length = search written }
