-- The part that the answer gives.
use Rattle.split_shard.proofs.Fragments.{parting}
use Rattle.split_shard.proofs.fragment_part.Goals as goal

pub fragment-requires : goal.fragment-requires
fragment-requires c = search parting

pub data_part-requires : goal.data_part-requires
data_part-requires c = record { behind = search parting; found_in_bounds = (search parting, search parting) }

pub returns : goal.returns
returns c = record { answer = search parting; place = (search parting, search parting) }
