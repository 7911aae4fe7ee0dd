-- The cases marked P hold, all of them together.
use Prim.Native.Nat.{ℕ}
use mathlib.Core.Path.{◌≡◌, refl, ap, ◌∙◌}
use mathlib.Core.Bool.{Bool, true, false}
use mathlib.Core.List.{List, [], ◌∷◌, map}
use lib.Dec.{eqb}
use lib.Ieee.{of_bits, to_bits, add, mul, of_int}
use Rattle.refusal.specs.Choice.{pick}
use Rattle.refusal.specs.Checks.{first_number, first_position, unless}
use Rattle.refusal.specs.Result.{success, refused}
use Rattle.endian.specs.Little.{le, le_at, row, row32}
use Rattle.endian.specs.Range.{sum_to, every, any_below, first}
use Rattle.morton.specs.declared.grid.Cell.{Cell}
use Rattle.morton.specs.grid.Grid.{grid_size, grid_of, has_zero, zero_extent, in_grid}
use Rattle.morton.specs.axis.Axis.{bit_of, used, count}
use Rattle.morton.specs.Key.{step, steps, key_of, key_bits_of, too_many_bits, into, step_back, steps_back, cell_of, is_key}
use Rattle.morton.specs.bounds.Bounds.{cell_begin, cell_end, begin_point, end_point, bounds_of}
use Rattle.morton.specs.grid.Answers.{no_cell, grid_checks, grid_answer}
use Rattle.morton.specs.Answers.{key_checks, key_answer, cell_checks, cell_answer, cell_result}
use Rattle.morton.specs.bounds.Answers.{bounds_checks, bounds_answer}
use Rattle.std.specs.Prelude.{Ok}
use Rattle.refusal.specs.Answers.{refuse}
use Rattle.morton.proofs.Laws.{only-key_0}
use Rattle.sharding.specs.Specification.{allowed}
use Rattle.sharding.specs.placement.Place.{hashed_id, shard_of, minishard_of, place_checks, place_answer}
use Rattle.names.specs.digits.Digits.{digit_byte, digits}
use Rattle.names.specs.Shards.{shard_digits, file_name, file_name_checks, file_name_answer, file_name_left}
use Rattle.duplicate_ids.specs.Twice.{repeats}
use Rattle.shard.specs.index.Index.{id_at, start_at}
use Rattle.shard.specs.Faults.{bad_entry, bad_length, foreign, foreign_at, ends_past, entry_tests}
use Rattle.shard.specs.Checks.{entry_checks, minishard_checks, minishards_checks}
use Rattle.shard.specs.File.{bad_file_length, file_checks, shard_checks}
use Rattle.shard.specs.Items.{lead_length_of, item_of, item_at}
use Rattle.bitmap.specs.Positions.{within, miss}
use Rattle.unlisted.specs.ranges.Covered.{item_start, in_item, in_items, in_minishard, covered_by, covered_in, covered_at, unlisted_bytes}
use Rattle.lookup.specs.id_search.Search.{is_id, chunk_of}
use Rattle.lookup.specs.chosen_minishard.Chosen.{chosen_checks, chosen_chunk}
use Rattle.lookup.specs.Find.{lookup_checks, lookup_answer}
use Rattle.settled_form.specs.Sorted.{not_above, insert_by, sort_by}
use Rattle.settled_form.specs.Form.{chunks_of, chunks_length, id_row, start_row, size_row, index_of, part_of, part_length_of, parts_from, parts_length, entry_begin, entry_finish, shard_index_from, settled, settled_length}
use Rattle.settled_form.specs.Content.{items_from, items_at, by_id, content_from, content_of, form_of, form_length}
use Rattle.settle.specs.answers.Answers.{loses_bytes, unlisted_check, too_long, settle_check, settle_checks, settle_answer, settle_left}
use Rattle.mesh_manifest.specs.zorder.Order.{z_digit, z_from}
use Rattle.mesh_manifest.specs.layout.Layout.{manifest_item as word_at, is_real_of, count_of, size_at}
use Rattle.mesh_manifest.specs.layout.Bits.{finite_bits, above_zero, real_at}
use Rattle.mesh_manifest.specs.sound.Verdict.{right_length, real_fits, reals_fit, in_order_of, level_rises, rise_at, nodes_rise, manifest_checks}
use Rattle.mesh_manifest.specs.Fields.{header_at}
use Rattle.mesh_manifest.specs.fragment_sums.Sums.{level_bytes}
use Rattle.mesh_manifest.specs.nodes.Nodes.{has_node, fragment_start, node_in, node_at, node_checks}
use Rattle.mesh_manifest.specs.reals.Reals.{finite, near_of, far_of}
use Rattle.mesh_manifest.specs.corners.Boxes.{near_corner, far_corner, box_of, placed, finite_corner, box_checks, corners_checks, corners_answer}
use Rattle.theorems.specs.cases.Cases.{Case, answered, table, cells, at, voxels, shifted, buffer, content, settled_file, other_file, zeros, real, manifest}

-- a grid of one cell has no key but 0
told : (b : Bool) (c : Cell) → cell_result (pick b (Ok c) (refuse 4)) ≡ pick b (success c) (refused 4)
told true c = refl
told false c = refl

only : (k : ℕ) → cell_result (cell_answer (voxels 1 1 1) k) ≡ pick (eqb k 0) (success (at 0 0 0)) (refused 4)
only k = ap cell_result (only-key_0 (voxels 1 1 1) (unfold zero_extent has_zero voxels in refl) (unfold grid_of grid_size voxels in refl) k) ∙ told (eqb k 0) (at 0 0 0)

-- the table without its first row, which speaks of all keys
unfoldable others : List Case → List Case
others [] = []
others (x ∷ xs) = xs

pub cases_hold : map answered table ≡ table
unfolding others answered table voxels shifted buffer content settled_file other_file zeros real row32 manifest of_bits to_bits add mul of_int first_number first_position unless le le_at row sum_to every any_below first grid_size grid_of has_zero zero_extent in_grid bit_of used count step steps key_of key_bits_of too_many_bits into step_back steps_back cell_of is_key cell_begin cell_end begin_point end_point bounds_of no_cell grid_checks grid_answer key_checks key_answer cell_checks cell_answer bounds_checks bounds_answer allowed hashed_id shard_of minishard_of place_checks place_answer digit_byte digits shard_digits file_name file_name_checks file_name_answer file_name_left id_at start_at bad_entry bad_length repeats foreign foreign_at ends_past entry_tests entry_checks minishard_checks minishards_checks bad_file_length file_checks shard_checks lead_length_of item_of item_at is_id chunk_of chosen_checks chosen_chunk lookup_checks lookup_answer not_above insert_by sort_by chunks_of chunks_length id_row start_row size_row index_of part_of part_length_of parts_from parts_length entry_begin entry_finish shard_index_from settled settled_length items_from items_at by_id content_from content_of form_of form_length within miss item_start in_item in_items in_minishard covered_by covered_in covered_at unlisted_bytes loses_bytes unlisted_check too_long settle_check settle_checks settle_answer settle_left z_digit z_from word_at is_real_of count_of size_at finite_bits above_zero real_at right_length real_fits reals_fit in_order_of level_rises rise_at nodes_rise manifest_checks header_at has_node level_bytes fragment_start node_in node_at node_checks finite near_of far_of near_corner far_corner box_of placed finite_corner box_checks corners_checks corners_answer
cases_hold = λ i. cells (voxels 1 1 1) (λ k. only k i) ∷ others table
