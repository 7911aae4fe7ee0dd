use Rattle.holdings.proofs.Answered.{adding}
use Rattle.holdings.proofs.add.Goals as goal

pub measure-requires : goal.measure-requires
measure-requires c = search adding

pub add_measured-requires : goal.add_measured-requires
add_measured-requires c = search adding

pub returns : goal.returns
returns c = search adding
