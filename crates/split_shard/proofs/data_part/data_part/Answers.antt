-- The part of that place.
use Rattle.split_shard.proofs.Parts.{moved}
use Rattle.split_shard.proofs.data_part.data_part.Goals as goal

pub in_data-requires : goal.in_data-requires
in_data-requires c = search moved

pub part_of-requires : goal.part_of-requires
part_of-requires c = (search moved, search moved)

pub returns : goal.returns
returns c = record { result_value = search moved; ref_ptr_value = (search moved, search moved) }
