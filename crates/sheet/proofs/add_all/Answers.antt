use Rattle.sheet.proofs.one_turn.Turning.{reaching}
use Rattle.sheet.proofs.add_all.Goals as goal

pub loop-turns-preserved : goal.loop-turns-preserved
loop-turns-preserved c = search reaching
