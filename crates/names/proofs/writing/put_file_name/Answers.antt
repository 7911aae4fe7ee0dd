use Rattle.names.proofs.writing.Naming.{naming}
use Rattle.names.proofs.writing.put_file_name.Goals as goal

pub shard_digits-n-requires : goal.shard_digits-n-requires
shard_digits-n-requires c = search naming

pub put_digits-requires : goal.put_digits-requires
put_digits-requires c = search naming

pub overflow_add-at : goal.overflow_add-at
overflow_add-at c = search naming

pub put_suffix-requires : goal.put_suffix-requires
put_suffix-requires c = search naming

pub overflow_add-result : goal.overflow_add-result
overflow_add-result c = search naming

pub suffix_len-requires : goal.suffix_len-requires
suffix_len-requires c = search naming

pub overflow_add-result-2 : goal.overflow_add-result-2
overflow_add-result-2 c = search naming

pub shape_of-out : goal.shape_of-out
shape_of-out c = search naming

pub returns : goal.returns
returns c = search naming
