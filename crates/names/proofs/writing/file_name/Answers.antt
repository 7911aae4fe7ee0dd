use Rattle.names.proofs.writing.Naming.{filing}
use Rattle.names.proofs.writing.file_name.Goals as goal

pub file_name_len-requires : goal.file_name_len-requires
file_name_len-requires c = search filing

pub returns-then-out-file_name_len : goal.returns-then-out-file_name_len
returns-then-out-file_name_len c = search filing

pub put_file_name-requires : goal.put_file_name-requires
put_file_name-requires c = search filing

pub shape_of-out : goal.shape_of-out
shape_of-out c = search filing

pub returns : goal.returns
returns c = search filing
