-- Where bytes are shared, a sound shard can be shorter than its settled form.
use mathlib.Core.Path.{◌≡◌, refl, ◌∙◌}
use lib.ListN.{length}
use Rattle.refusal.specs.Checks.{first_number, first_position, unless}
use Rattle.endian.specs.Little.{le, le_at, row, row32}
use Rattle.endian.specs.Range.{sum_to, every, any_below, first}
use Rattle.sharding.specs.Specification.{volume, mesh, allowed}
use Rattle.sharding.specs.placement.Place.{hashed_id, shard_of, minishard_of}
use Rattle.mesh_manifest.specs.layout.Layout.{manifest_item as word_at, is_real_of, count_of, size_at}
use Rattle.mesh_manifest.specs.layout.Bits.{finite_bits, above_zero}
use Rattle.mesh_manifest.specs.sound.Verdict.{right_length, real_fits, reals_fit, in_order_of, level_rises, rise_at, nodes_rise}
use Rattle.mesh_manifest.specs.fragment_sums.Sums.{level_bytes}
use Rattle.mesh_manifest.specs.nodes.Nodes.{fragments_length_of}
use Rattle.duplicate_ids.specs.Twice.{repeats}
use Rattle.shard.specs.index.Tests.{first_of}
use Rattle.shard.specs.index.Index.{id_at, start_at}
use Rattle.shard.specs.manifests.Mesh.{wrong_length, bad_real, unordered_nodes, fragments_outside, manifest_tests}
use Rattle.shard.specs.declared.CheckAnswer.TheVariants.{Sound}
use Rattle.shard.specs.Faults.{bad_entry, bad_length, foreign, foreign_at, ends_past, entry_tests, fault_at, fault_of, or_later, first_fault, shard_fault}
use Rattle.shard.specs.File.{bad_file_length, file_checks, check_answer}
use Rattle.shard.specs.Sound.{SoundShard}
use Rattle.shard.specs.Items.{lead_length_of, item_of, item_at}
use Rattle.shard.proofs.Whole.{check-passes-sound}
use Rattle.settled_form.specs.Sorted.{not_above, insert_by, sort_by}
use Rattle.settled_form.specs.Form.{chunks_length, part_length_of, parts_length, settled_length}
use Rattle.settled_form.specs.Content.{items_from, items_at, by_id, content_from, content_of, form_length, file_form}
use Rattle.settled_form.proofs.Demand3.{file-form-length}
use Rattle.settled_form.specs.shortest.Worked.{one_bit, twins, manifest, nested}

passes : (check_answer (one_bit volume) 0 twins ≡ Sound) × (check_answer (one_bit mesh) 0 nested ≡ Sound)
unfolding row32 manifest first_number first_position unless le le_at row sum_to every any_below first allowed hashed_id shard_of minishard_of word_at is_real_of count_of size_at finite_bits above_zero right_length real_fits reals_fit in_order_of level_rises rise_at nodes_rise level_bytes fragments_length_of repeats first_of id_at start_at wrong_length bad_real unordered_nodes fragments_outside manifest_tests bad_entry bad_length foreign foreign_at ends_past entry_tests fault_at fault_of or_later first_fault shard_fault bad_file_length file_checks check_answer
passes = (refl, refl)

pub twins-sound : SoundShard (one_bit volume) 0 twins
twins-sound = check-passes-sound (one_bit volume) 0 twins passes.0

pub nested-sound : SoundShard (one_bit mesh) 0 nested
nested-sound = check-passes-sound (one_bit mesh) 0 nested passes.1

-- their lengths, and those of their settled forms
pub twins_shorter : (length twins ≡ 82) × (length (file_form (one_bit volume) twins) ≡ 84)
unfolding le le_at row sum_to id_at start_at lead_length_of item_of item_at not_above insert_by sort_by items_from items_at by_id content_from content_of form_length chunks_length part_length_of parts_length settled_length
twins_shorter = (refl, file-form-length (one_bit volume) twins ∙ refl)

pub nested_shorter : (length nested ≡ 210) × (length (file_form (one_bit mesh) nested) ≡ 276)
unfolding row32 manifest le le_at row sum_to id_at start_at word_at count_of size_at level_bytes fragments_length_of lead_length_of item_of item_at not_above insert_by sort_by items_from items_at by_id content_from content_of form_length chunks_length part_length_of parts_length settled_length
nested_shorter = (refl, file-form-length (one_bit mesh) nested ∙ refl)
