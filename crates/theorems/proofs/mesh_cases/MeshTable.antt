-- The cases of mesh shards hold, all of them together.
use mathlib.Core.Path.{◌≡◌, refl}
use mathlib.Core.List.{map}
use Rattle.refusal.specs.Checks.{first_number, first_position, unless}
use Rattle.endian.specs.Little.{le, le_at, row, row32}
use Rattle.endian.specs.Range.{sum_to, every, any_below, first}
use Rattle.sharding.specs.Specification.{allowed}
use Rattle.sharding.specs.placement.Place.{hashed_id, shard_of, minishard_of}
use Rattle.duplicate_ids.specs.Twice.{repeats}
use Rattle.shard.specs.index.Index.{id_at, start_at}
use Rattle.shard.specs.index.Tests.{first_of}
use Rattle.mesh_manifest.specs.zorder.Order.{z_digit, z_from}
use Rattle.mesh_manifest.specs.layout.Layout.{manifest_item as word_at, is_real_of, count_of, size_at}
use Rattle.mesh_manifest.specs.layout.Bits.{finite_bits, above_zero}
use Rattle.mesh_manifest.specs.sound.Verdict.{right_length, real_fits, reals_fit, in_order_of, level_rises, rise_at, nodes_rise}
use Rattle.mesh_manifest.specs.fragment_sums.Sums.{level_bytes}
use Rattle.mesh_manifest.specs.nodes.Nodes.{has_node, fragment_start, fragments_length_of}
use Rattle.shard.specs.manifests.Mesh.{wrong_length, bad_real, unordered_nodes, fragments_outside, manifest_tests}
use Rattle.shard.specs.Faults.{bad_entry, bad_length, foreign, foreign_at, ends_past, entry_tests, fault_at, fault_of, or_later, first_fault, shard_fault}
use Rattle.shard.specs.Checks.{entry_checks, minishard_checks, minishards_checks}
use Rattle.shard.specs.File.{bad_file_length, file_checks, shard_checks, check_answer}
use Rattle.shard.specs.Items.{lead_length_of, item_of, item_at}
use Rattle.lookup.specs.id_search.Search.{is_id, chunk_of}
use Rattle.lookup.specs.chosen_minishard.Chosen.{chosen_checks, chosen_chunk}
use Rattle.lookup.specs.Find.{lookup_checks, lookup_answer}
use Rattle.lookup.specs.fragments.Fragment.{fragment_before, no_node, fragment_checks, fragment_answer}
use Rattle.settled_form.specs.Sorted.{not_above, insert_by, sort_by}
use Rattle.settled_form.specs.Form.{chunks_of, chunks_length, id_row, start_row, size_row, index_of, part_of, part_length_of, parts_from, parts_length, entry_begin, entry_finish, shard_index_from, settled, settled_length}
use Rattle.settled_form.specs.Content.{items_from, items_at, by_id, content_from, content_of, form_of, form_length}
use Rattle.settle.specs.answers.Answers.{loses_bytes, unlisted_check, length_check, settled_length_checks, length_answer}
use Rattle.theorems.specs.mesh_cases.MeshCases.{mesh_answered, mesh_table, one_level, one_node, two_nodes, mesh_content, settled_mesh, other_mesh, short_mesh}

pub mesh-cases_hold : map mesh_answered mesh_table ≡ mesh_table
unfolding mesh_answered mesh_table row32 one_level one_node two_nodes mesh_content settled_mesh other_mesh short_mesh first_number first_position unless le le_at row sum_to every any_below first allowed hashed_id shard_of minishard_of repeats id_at start_at first_of z_digit z_from word_at is_real_of count_of size_at finite_bits above_zero right_length real_fits reals_fit in_order_of level_rises rise_at nodes_rise has_node level_bytes fragment_start fragments_length_of wrong_length bad_real unordered_nodes fragments_outside manifest_tests bad_entry bad_length foreign foreign_at ends_past entry_tests fault_at fault_of or_later first_fault shard_fault entry_checks minishard_checks minishards_checks bad_file_length file_checks shard_checks check_answer lead_length_of item_of item_at is_id chunk_of chosen_checks chosen_chunk lookup_checks lookup_answer fragment_before no_node fragment_checks fragment_answer not_above insert_by sort_by chunks_of chunks_length id_row start_row size_row index_of part_of part_length_of parts_from parts_length entry_begin entry_finish shard_index_from settled settled_length items_from items_at by_id content_from content_of form_of form_length loses_bytes unlisted_check length_check settled_length_checks length_answer
mesh-cases_hold = refl
