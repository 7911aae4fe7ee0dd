use Rattle.repair.proofs.Files.{parting}
use Rattle.repair.proofs.copies.repair_files.Goals as goal

pub index_length-n-requires : goal.index_length-n-requires
index_length-n-requires c = search parting

pub slice_bounds-repair_parts-end : goal.slice_bounds-repair_parts-end
slice_bounds-repair_parts-end c = search parting

pub slice_bounds-repair_parts-count : goal.slice_bounds-repair_parts-count
slice_bounds-repair_parts-count c = search parting

pub slice_bounds-repair_parts-start : goal.slice_bounds-repair_parts-start
slice_bounds-repair_parts-start c = search parting

pub slice_bounds-repair_parts-end-2 : goal.slice_bounds-repair_parts-end-2
slice_bounds-repair_parts-end-2 c = search parting

pub slice_bounds-repair_parts-end-3 : goal.slice_bounds-repair_parts-end-3
slice_bounds-repair_parts-end-3 c = search parting

pub slice_bounds-repair_parts-count-2 : goal.slice_bounds-repair_parts-count-2
slice_bounds-repair_parts-count-2 c = search parting

pub slice_bounds-repair_parts-start-2 : goal.slice_bounds-repair_parts-start-2
slice_bounds-repair_parts-start-2 c = search parting

pub slice_bounds-repair_parts-end-4 : goal.slice_bounds-repair_parts-end-4
slice_bounds-repair_parts-end-4 c = search parting

pub repair_parts-requires : goal.repair_parts-requires
repair_parts-requires c = search parting

pub shape_of-out : goal.shape_of-out
shape_of-out c = search parting

pub returns : goal.returns
returns c = search parting
