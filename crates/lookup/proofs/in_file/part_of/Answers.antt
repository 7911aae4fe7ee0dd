-- The part, by what was found: its bytes and its place.
use Rattle.std.proofs.Common.{refl}
use Rattle.lookup.proofs.Handed.{part-inside, part-fits, part_bytes_lem, part-place, none-bytes, none-place, fault-bytes, fault-place}
use Rattle.lookup.proofs.in_file.part_of.Goals as goal

pub overflow_add-end : goal.overflow_add-end
overflow_add-end c = search part-fits

pub slice_bounds-result-end : goal.slice_bounds-result-end
slice_bounds-result-end c = search part-inside

pub returns-in-Found : goal.returns-in-Found
returns-in-Found c = record { result_value = search part_bytes_lem; ref_ptr_value = (refl, search part-place) }

pub returns-in-Refused : goal.returns-in-Refused
returns-in-Refused c = record { result_value = search none-bytes; ref_ptr_value = (refl, search none-place) }

pub returns-in-Faulty : goal.returns-in-Faulty
returns-in-Faulty c = record { result_value = search fault-bytes; ref_ptr_value = (refl, search fault-place) }
