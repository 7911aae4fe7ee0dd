use Rattle.split_shard.proofs.held_range.Held.{parting}
use Rattle.split_shard.proofs.held_range.inner.held_part.Goals as goal

pub enum_known-found : goal.enum_known-found
enum_known-found c = search parting

pub overflow_add-end : goal.overflow_add-end
overflow_add-end c = search parting

pub slice_bounds-result-count : goal.slice_bounds-result-count
slice_bounds-result-count c = search parting

pub slice_bounds-result-start : goal.slice_bounds-result-start
slice_bounds-result-start c = search parting

pub slice_bounds-result-end : goal.slice_bounds-result-end
slice_bounds-result-end c = search parting

pub enum_known-found-in-InData-1 : goal.enum_known-found-in-InData-1
enum_known-found-in-InData-1 c = search parting

pub overflow_add-end-in-InData : goal.overflow_add-end-in-InData
overflow_add-end-in-InData c = search parting

pub slice_bounds-result-count-in-InData : goal.slice_bounds-result-count-in-InData
slice_bounds-result-count-in-InData c = search parting

pub slice_bounds-result-start-in-InData : goal.slice_bounds-result-start-in-InData
slice_bounds-result-start-in-InData c = search parting

pub slice_bounds-result-end-in-InData : goal.slice_bounds-result-end-in-InData
slice_bounds-result-end-in-InData c = search parting

pub enum_told-1 : goal.enum_told-1
enum_told-1 c = search parting

pub slice_bounds-result-count-in-Refused : goal.slice_bounds-result-count-in-Refused
slice_bounds-result-count-in-Refused c = search parting

pub slice_bounds-result-start-in-Refused : goal.slice_bounds-result-start-in-Refused
slice_bounds-result-start-in-Refused c = search parting

pub slice_bounds-result-end-in-Refused : goal.slice_bounds-result-end-in-Refused
slice_bounds-result-end-in-Refused c = search parting

pub returns-in-InIndex : goal.returns-in-InIndex
returns-in-InIndex c = search parting

pub returns-in-InData : goal.returns-in-InData
returns-in-InData c = search parting

pub returns-in-Refused : goal.returns-in-Refused
returns-in-Refused c = search parting
