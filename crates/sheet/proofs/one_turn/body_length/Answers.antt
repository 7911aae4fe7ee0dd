use Rattle.sheet.proofs.one_turn.Turning.{asking}
use Rattle.sheet.proofs.one_turn.body_length.Goals as goal

pub returns-then-head-lt17 : goal.returns-then-head-lt17
returns-then-head-lt17 c = (search asking, search asking)

pub returns-then-n-gt65536 : goal.returns-then-n-gt65536
returns-then-n-gt65536 c = (search asking, search asking)

pub returns : goal.returns
returns c = (search asking, search asking)
