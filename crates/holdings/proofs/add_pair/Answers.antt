use Rattle.holdings.proofs.Answered.{adding}
use Rattle.holdings.proofs.add_pair.Goals as goal

pub measure_pair-requires : goal.measure_pair-requires
measure_pair-requires c = search adding

pub add_measured-requires : goal.add_measured-requires
add_measured-requires c = search adding

pub returns : goal.returns
returns c = search adding
