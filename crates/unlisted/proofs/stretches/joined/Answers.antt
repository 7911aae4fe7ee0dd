use Rattle.unlisted.proofs.stretches.Stretches.{joined_or}
use Rattle.unlisted.proofs.stretches.joined.Goals as goal

pub returns : goal.returns
returns c = search joined_or
