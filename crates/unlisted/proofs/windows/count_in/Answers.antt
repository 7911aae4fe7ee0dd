use Rattle.unlisted.proofs.windows.Noting.{window_counted}
use Rattle.unlisted.proofs.windows.count_in.Goals as goal

pub returns : goal.returns
returns c = search window_counted
