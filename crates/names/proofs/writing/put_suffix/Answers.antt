use Rattle.names.proofs.writing.Naming.{naming}
use Rattle.names.proofs.writing.put_suffix.Goals as goal

pub enum_told-1 : goal.enum_told-1
enum_told-1 c = search naming

pub put_u32-requires : goal.put_u32-requires
put_u32-requires c = search naming

pub overflow_add-at : goal.overflow_add-at
overflow_add-at c = search naming

pub put_u16-requires : goal.put_u16-requires
put_u16-requires c = search naming

pub enum_told-in-Index : goal.enum_told-in-Index
enum_told-in-Index c = search naming

pub put_u32-requires-in-Index : goal.put_u32-requires-in-Index
put_u32-requires-in-Index c = search naming

pub overflow_add-at-in-Index : goal.overflow_add-at-in-Index
overflow_add-at-in-Index c = search naming

pub put_u16-requires-in-Index : goal.put_u16-requires-in-Index
put_u16-requires-in-Index c = search naming

pub enum_told-in-Data : goal.enum_told-in-Data
enum_told-in-Data c = search naming

pub put_u32-requires-in-Data : goal.put_u32-requires-in-Data
put_u32-requires-in-Data c = search naming

pub overflow_add-at-in-Data : goal.overflow_add-at-in-Data
overflow_add-at-in-Data c = search naming

pub put_byte-requires : goal.put_byte-requires
put_byte-requires c = search naming

pub shape_of-out-in-Shard : goal.shape_of-out-in-Shard
shape_of-out-in-Shard c = search naming

pub returns-in-Shard : goal.returns-in-Shard
returns-in-Shard c = search naming

pub shape_of-out-in-Index : goal.shape_of-out-in-Index
shape_of-out-in-Index c = search naming

pub returns-in-Index : goal.returns-in-Index
returns-in-Index c = search naming

pub shape_of-out-in-Data : goal.shape_of-out-in-Data
shape_of-out-in-Data c = search naming

pub returns-in-Data : goal.returns-in-Data
returns-in-Data c = search naming
