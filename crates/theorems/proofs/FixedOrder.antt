-- The order of checks is fixed: each list, written out, has these numbers.
use mathlib.Core.Path.{refl}
use Rattle.morton.specs.grid.Answers.{grid_checks}
use Rattle.morton.specs.Answers.{key_checks, cell_checks}
use Rattle.morton.specs.bounds.Answers.{bounds_checks}
use Rattle.morton.specs.batch.Batch.{keys_checks}
use Rattle.cover.specs.overlap.Cover.{cover_checks}
use Rattle.sharding.specs.placement.Place.{place_checks}
use Rattle.sharding.specs.batch.Batch.{places_checks}
use Rattle.names.specs.chunks.Chunks.{chunk_name_checks}
use Rattle.names.specs.Shards.{file_name_checks}
use Rattle.card.specs.Answers.{record_checks, read_checks, write_checks}
use Rattle.info.specs.Answers.{settings_checks, info_checks}
use Rattle.mesh_manifest.specs.sound.Verdict.{manifest_checks}
use Rattle.mesh_manifest.specs.Fields.{field_checks}
use Rattle.mesh_manifest.specs.nodes.Nodes.{node_checks}
use Rattle.mesh_manifest.specs.level.Level.{nodes_checks}
use Rattle.mesh_manifest.specs.corners.Boxes.{box_checks, corners_checks}
use Rattle.split_shard.specs.seam.Pair.{pair_checks}
use Rattle.split_shard.specs.seam.Range.{range_checks}
use Rattle.intake.specs.admission.Refusals.{open_checks, announce_checks, part_checks, close_checks}
use Rattle.compressed_segmentation.specs.Labels.{label_checks}
use Rattle.compressed_segmentation.specs.raw_form.Raw.{unpack_checks, unpacked_length_checks}
use Rattle.theorems.specs.FixedOrder.{FixedOrder}

pub fixed-order : FixedOrder
unfolding grid_checks key_checks cell_checks bounds_checks keys_checks cover_checks place_checks places_checks chunk_name_checks file_name_checks record_checks read_checks write_checks settings_checks info_checks manifest_checks field_checks node_checks nodes_checks box_checks corners_checks pair_checks range_checks open_checks announce_checks part_checks close_checks label_checks unpack_checks unpacked_length_checks
fixed-order = record {
  grid = λ v. refl;
  key = λ v c. refl;
  cell = λ v k. refl;
  keys = λ v cells out. refl;
  bounds = λ v c. refl;
  cover = λ v lower upper out. refl;
  chunk_name = λ v c out. refl;
  file_name = λ kind spec shard out. refl;
  place = λ spec. refl;
  places = λ spec ids shards minishards. refl;
  card_read = λ s. refl;
  card_written = λ c out. refl;
  info_read = λ s k. refl;
  manifest = λ s. refl;
  field = λ s i. refl;
  node = λ s l i. refl;
  nodes = λ s l out. refl;
  corners = λ s l i. refl;
  pair = λ spec five index. refl;
  range = λ spec index d start end. refl;
  intake_open = λ spec shard output. refl;
  intake_announce = λ s id size output waiting. refl;
  intake_part = λ s n output waiting. refl;
  intake_close = λ s output waiting. refl;
  label = λ s sh x y z c. refl;
  unpack = λ s sh out. refl;
  unpacked_length = λ sh. refl;
}
