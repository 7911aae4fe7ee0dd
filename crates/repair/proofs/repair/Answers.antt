use Rattle.repair.proofs.Files.{bad_false, filing}
use Rattle.repair.proofs.repair.Goals as goal

pub is_allowed-requires : goal.is_allowed-requires
is_allowed-requires c = search filing

pub returns-then-not-is_allowed : goal.returns-then-not-is_allowed
returns-then-not-is_allowed c = search filing

pub shard_count-requires : goal.shard_count-requires
shard_count-requires c = search filing

pub returns-then-shard_count-shard : goal.returns-then-shard_count-shard
returns-then-shard_count-shard c = search filing

pub is_bad-requires : goal.is_bad-requires
is_bad-requires c = search filing

pub is_bad-requires-then-is_bad : goal.is_bad-requires-then-is_bad
is_bad-requires-then-is_bad c = search filing

pub returns-then-is_bad-2 : goal.returns-then-is_bad-2
returns-then-is_bad-2 c = search filing

pub repair_files-requires : goal.repair_files-requires
repair_files-requires c = record { spec_value = search filing; a_value = (bad_false _ _ c.is_bad-then-is_bad.ensures c.if-is_bad-2.false, bad_false _ _ c.is_bad-then-is_bad.ensures c.if-is_bad-2.false) }

pub shape_of-out-then-is_bad : goal.shape_of-out-then-is_bad
shape_of-out-then-is_bad c = search filing

pub returns-then-is_bad : goal.returns-then-is_bad
returns-then-is_bad c = search filing

pub is_bad-requires-2 : goal.is_bad-requires-2
is_bad-requires-2 c = search filing

pub repair_files-requires-then-is_bad-3 : goal.repair_files-requires-then-is_bad-3
repair_files-requires-then-is_bad-3 c = record { spec_value = search filing; a_value = (bad_false _ _ c.is_bad.ensures c.if-is_bad.false, bad_false _ _ c.is_bad.ensures c.if-is_bad.false) }

pub shape_of-out-then-is_bad-3 : goal.shape_of-out-then-is_bad-3
shape_of-out-then-is_bad-3 c = search filing

pub returns-then-is_bad-3 : goal.returns-then-is_bad-3
returns-then-is_bad-3 c = search filing

pub repair_files-requires-2 : goal.repair_files-requires-2
repair_files-requires-2 c = record { spec_value = search filing; a_value = (bad_false _ _ c.is_bad.ensures c.if-is_bad.false, bad_false _ _ c.is_bad-2.ensures c.if-is_bad-3.false) }

pub shape_of-out : goal.shape_of-out
shape_of-out c = search filing

pub returns : goal.returns
returns c = search filing
