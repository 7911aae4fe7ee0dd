use Rattle.repair.proofs.Answers.{answering}
use Rattle.repair.proofs.copies.repair_parts.Goals as goal

pub minishard_count-n-requires : goal.minishard_count-n-requires
minishard_count-n-requires c = search answering

pub first_trouble-found-requires : goal.first_trouble-found-requires
first_trouble-found-requires c = (search answering, search answering)

pub returns-then-found-ne0 : goal.returns-then-found-ne0
returns-then-found-ne0 c = search answering

pub repaired_length-len-requires : goal.repaired_length-len-requires
repaired_length-len-requires c = (search answering, search answering)

pub returns-then-len-gt-MOST_SHARD_BYTES : goal.returns-then-len-gt-MOST_SHARD_BYTES
returns-then-len-gt-MOST_SHARD_BYTES c = search answering

pub returns-then-out-len : goal.returns-then-out-len
returns-then-out-len c = search answering

pub write_repaired-written-requires : goal.write_repaired-written-requires
write_repaired-written-requires c = record { pair = (search answering, search answering); db_in_bounds = (search answering, search answering) }

pub shape_of-out : goal.shape_of-out
shape_of-out c = search answering

pub returns : goal.returns
returns c = search answering
