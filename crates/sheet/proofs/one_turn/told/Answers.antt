use Rattle.sheet.proofs.one_turn.Turning.{telling}
use Rattle.sheet.proofs.one_turn.told.Goals as goal

pub returns-then-is_end : goal.returns-then-is_end
returns-then-is_end c = search telling

pub returns : goal.returns
returns c = search telling
