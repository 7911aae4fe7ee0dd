use Rattle.names.proofs.writing.Naming.{answering}
use Rattle.names.proofs.writing.name_of.Goals as goal

pub is_allowed-requires : goal.is_allowed-requires
is_allowed-requires c = search answering

pub returns-then-not-is_allowed : goal.returns-then-not-is_allowed
returns-then-not-is_allowed c = search answering

pub no_such_shard-requires : goal.no_such_shard-requires
no_such_shard-requires c = search answering

pub returns-then-no_such_shard : goal.returns-then-no_such_shard
returns-then-no_such_shard c = search answering

pub file_name-requires : goal.file_name-requires
file_name-requires c = search answering

pub shape_of-out : goal.shape_of-out
shape_of-out c = search answering

pub returns : goal.returns
returns c = search answering
