use Rattle.sheet.proofs.one_turn.Turning.{header}
use Rattle.sheet.proofs.one_turn.spec_in.Goals as goal

pub returns : goal.returns
returns c = search header
