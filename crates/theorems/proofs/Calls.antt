-- What each call refuses, by its checks, and that a refusal leaves each lent buffer as it was.
use Prim.Native.Nat.{ℕ, zero, suc}
use mathlib.Core.Path.{◌≡◌, refl}
use mathlib.Core.Bool.{Bool, true, false}
use mathlib.Core.List.{List, ◌++◌}
use lib.Ieee.{binary32, to_bits}
use Rattle.std.specs.Prelude.{Ok, Err}
use Rattle.refusal.specs.declared.Refusal.{Refusal}
use Rattle.refusal.specs.Choice.{pick}
use Rattle.refusal.specs.Checks.{first_number, unless}
use Rattle.refusal.specs.Result.{success, written_result, DecidedBy}
use Rattle.refusal.specs.Answers.{refuse}
use Rattle.refusal.proofs.Refusing.{keeping_by, keeping}
use Rattle.refusal.proofs.Picks.{all_in_lem}
use Rattle.refusal.proofs.Results.{told, decided, decided_after}
use Rattle.morton.specs.declared.grid.Volume.{Volume}
use Rattle.morton.specs.declared.grid.Cell.{Cell}
use Rattle.morton.specs.declared.bounds.Point.{Point}
use Rattle.morton.specs.grid.Answers.{grid_checks, grid_answer, grid_result}
use Rattle.morton.specs.Answers.{key_checks, key_answer, cell_checks, cell_answer, key_result, cell_result}
use Rattle.morton.specs.bounds.Answers.{bounds_checks, bounds_answer, bounds_result}
use Rattle.morton.specs.batch.Batch.{keys_checks, keys_answer, keys_left}
use Rattle.cover.specs.overlap.Cover.{cover_checks, cover_answer, cover_left}
use Rattle.sharding.specs.declared.Sharding.{Sharding}
use Rattle.sharding.specs.placement.Place.{place_checks, place_answer, place_result}
use Rattle.sharding.specs.batch.Batch.{places_checks, places_answer, shards_left, minishards_left}
use Rattle.names.specs.chunks.Chunks.{chunk_name_checks, chunk_name_answer, chunk_name_left}
use Rattle.names.specs.Shards.{file_name_checks, file_name_answer, file_name_left}
use Rattle.names.specs.declared.FileKind.{FileKind}
use Rattle.card.specs.declared.Card.{Card}
use Rattle.card.specs.Answers.{record_checks, read_checks, read_answer, write_checks, write_answer, write_left, card_result}
use Rattle.info.specs.Answers.{settings_checks, info_checks, info_answer}
use Rattle.mesh_manifest.specs.declared.Field.TheVariants as F
use Rattle.mesh_manifest.specs.layout.Layout.{levels_of, is_real_of, manifest_item}
use Rattle.mesh_manifest.specs.layout.Bits.{real_at}
use Rattle.mesh_manifest.specs.sound.Verdict.{manifest_checks, manifest_answer, manifest_result}
use Rattle.mesh_manifest.specs.Fields.{header_answer, field_at, field_checks, field_answer, header_result, field_result}
use Rattle.mesh_manifest.specs.nodes.Nodes.{node_checks, node_answer, node_result}
use Rattle.mesh_manifest.specs.level.Level.{nodes_checks, nodes_answer, nodes_left}
use Rattle.mesh_manifest.specs.corners.Boxes.{box_checks, corners_checks, corners_answer, corners_result}
use Rattle.compressed_segmentation.specs.declared.Shape.{Shape}
use Rattle.compressed_segmentation.specs.Labels.{label_checks, label_answer, label_result}
use Rattle.compressed_segmentation.specs.raw_form.Raw.{unpack_checks, unpack_answer, unpack_left, unpacked_length_checks, length_answer}
use Rattle.coronagamba.specs.Labels.{width_checks, label_by, written_by, labels_left_by}

-- ---- grids, places and names

module _ (v : Volume) where
  pub grid_decided : DecidedBy (grid_checks v) (grid_result (grid_answer v))
  unfolding grid_answer grid_checks
  grid_decided = decided grid_result refuse told (grid_checks v) _ refl refl refl

  pub key_decided : (c : Cell) → DecidedBy (key_checks v c) (key_result (key_answer v c))
  unfolding key_answer key_checks
  key_decided c = decided key_result refuse told (key_checks v c) _ refl refl refl

  pub keys_decided : (cells : List Cell) (out : List ℕ) → DecidedBy (keys_checks v cells out) (written_result (keys_answer v cells out))
  unfolding keys_answer keys_checks
  keys_decided cells out = decided written_result refuse told (keys_checks v cells out) _ refl refl refl

  pub keys_kept_lem : (cells : List Cell) (out : List ℕ) (k : Refusal) → keys_answer v cells out ≡ Err k → keys_left v cells out ≡ out
  unfolding keys_answer keys_left
  keys_kept_lem cells out k e = keeping_by (keys_checks v cells out) _ _ out k e

  pub cover_decided : (lower upper : Point) (out : List ℕ) → DecidedBy (cover_checks v lower upper out) (written_result (cover_answer v lower upper out))
  unfolding cover_answer cover_checks
  cover_decided lower upper out = decided written_result refuse told (cover_checks v lower upper out) _ refl refl refl

  pub cover-kept : (lower upper : Point) (out : List ℕ) (k : Refusal) → cover_answer v lower upper out ≡ Err k → cover_left v lower upper out ≡ out
  unfolding cover_answer cover_left
  cover-kept lower upper out k e = keeping_by (cover_checks v lower upper out) _ _ out k e

  pub cell_decided : (key : ℕ) → DecidedBy (cell_checks v key) (cell_result (cell_answer v key))
  unfolding cell_answer cell_checks
  cell_decided key = decided cell_result refuse told (cell_checks v key) _ refl refl refl

  pub bounds_decided : (c : Cell) → DecidedBy (bounds_checks v c) (bounds_result (bounds_answer v c))
  unfolding bounds_answer bounds_checks
  bounds_decided c = decided bounds_result refuse told (bounds_checks v c) _ refl refl refl

  pub chunk-name_decided : (c : Cell) (out : List ℕ) → DecidedBy (chunk_name_checks v c out) (written_result (chunk_name_answer v c out))
  unfolding chunk_name_answer chunk_name_checks
  chunk-name_decided c out = decided written_result refuse told (chunk_name_checks v c out) _ refl refl refl

  pub chunk-name-kept : (c : Cell) (out : List ℕ) (k : Refusal) → chunk_name_answer v c out ≡ Err k → chunk_name_left v c out ≡ out
  unfolding chunk_name_answer chunk_name_left
  chunk-name-kept c out k e = keeping_by (chunk_name_checks v c out) _ _ out k e

module _ (spec : Sharding) where
  pub place_decided : (id : ℕ) → DecidedBy (place_checks spec) (place_result (place_answer spec id))
  unfolding place_answer place_checks
  place_decided id = decided place_result refuse told (place_checks spec) _ refl refl refl

  pub places_decided : (ids shards minishards : List ℕ) → DecidedBy (places_checks spec ids shards minishards) (written_result (places_answer spec ids shards minishards))
  unfolding places_answer places_checks
  places_decided ids shards minishards = decided written_result refuse told (places_checks spec ids shards minishards) _ refl refl refl

  pub places-kept : (ids shards minishards : List ℕ) (k : Refusal) → places_answer spec ids shards minishards ≡ Err k
      → (shards_left spec ids shards minishards ≡ shards) × (minishards_left spec ids shards minishards ≡ minishards)
  unfolding places_answer shards_left minishards_left
  places-kept ids shards minishards k e =
      let checks = places_checks spec ids shards minishards in
      (keeping_by checks _ _ shards k e, keeping_by checks _ _ minishards k e)

  pub file-name_decided : (kind : FileKind) (shard : ℕ) (out : List ℕ) → DecidedBy (file_name_checks kind spec shard out) (written_result (file_name_answer kind spec shard out))
  unfolding file_name_answer file_name_checks
  file-name_decided kind shard out = decided written_result refuse told (file_name_checks kind spec shard out) _ refl refl refl

  pub file-name-kept : (kind : FileKind) (shard : ℕ) (out : List ℕ) (k : Refusal) → file_name_answer kind spec shard out ≡ Err k → file_name_left kind spec shard out ≡ out
  unfolding file_name_answer file_name_left
  file-name-kept kind shard out k e = keeping_by (file_name_checks kind spec shard out) _ _ out k e

-- ---- cards

pub card-read_decided : (s : List ℕ) → DecidedBy (read_checks s) (card_result (read_answer s))
unfolding read_answer read_checks record_checks
card-read_decided s = decided card_result refuse told (read_checks s) _ refl refl refl

pub info_decided : (s : List ℕ) (scale : ℕ) → DecidedBy (info_checks s scale) (card_result (info_answer s scale))
unfolding info_answer info_checks settings_checks record_checks
info_decided s scale = decided card_result refuse told (info_checks s scale) _ refl refl refl

module _ (c : Card) (out : List ℕ) where
  pub card_write_decided : DecidedBy (write_checks c out) (written_result (write_answer c out))
  unfolding write_answer write_checks record_checks
  card_write_decided = decided written_result refuse told (write_checks c out) _ refl refl refl

  pub card-kept : (k : Refusal) → write_answer c out ≡ Err k → write_left c out ≡ out
  unfolding write_answer write_left
  card-kept k e = keeping_by (write_checks c out) _ _ out k e

-- ---- manifests

field-given : (s : List ℕ) (i : ℕ) → field_result (Ok (field_at s i)) ≡ success (pick (is_real_of (levels_of s) i) (1, to_bits binary32 (real_at s i)) (0, manifest_item s i))
unfolding field_at
field-given s i = go (is_real_of (levels_of s) i)
  where
    go : (b : Bool) → field_result (Ok (pick b (F.Real (real_at s i)) (F.Whole (manifest_item s i)))) ≡ success (pick b (1, to_bits binary32 (real_at s i)) (0, manifest_item s i))
    go true = refl
    go false = refl

module _ (s : List ℕ) where
  pub manifest_decided : DecidedBy (manifest_checks s) (manifest_result (manifest_answer s))
  unfolding manifest_answer manifest_checks
  manifest_decided = decided manifest_result refuse told (manifest_checks s) _ refl refl refl

  pub header_decided : DecidedBy (manifest_checks s) (header_result (header_answer s))
  unfolding header_answer manifest_checks
  header_decided = decided header_result refuse told (manifest_checks s) _ refl refl refl

  pub field_decided : (i : ℕ) → DecidedBy (field_checks s i) (field_result (field_answer s i))
  unfolding field_answer field_checks manifest_checks
  field_decided i = decided field_result refuse told (field_checks s i) (Ok (field_at s i)) (field-given s i) refl refl

  pub node_decided : (l i : ℕ) → DecidedBy (node_checks s l i) (node_result (node_answer s l i))
  unfolding node_answer node_checks manifest_checks
  node_decided l i = decided node_result refuse told (node_checks s l i) _ refl refl refl

  pub nodes_decided : (l : ℕ) (out : List ℕ) → DecidedBy (nodes_checks s l out) (written_result (nodes_answer s l out))
  unfolding nodes_answer nodes_checks manifest_checks
  nodes_decided l out = decided written_result refuse told (nodes_checks s l out) _ refl refl refl

  pub nodes-kept : (l : ℕ) (out : List ℕ) (k : Refusal) → nodes_answer s l out ≡ Err k → nodes_left s l out ≡ out
  unfolding nodes_answer nodes_left
  nodes-kept l out k e = keeping_by (nodes_checks s l out) _ _ out k e

  pub corners_decided : (l i : ℕ) → DecidedBy (corners_checks s l i) (corners_result (corners_answer s l i))
  unfolding corners_answer corners_checks node_checks manifest_checks box_checks
  corners_decided l i = decided corners_result refuse told (corners_checks s l i) _ refl refl refl

-- ---- labels

pub label_decided : (s : List ℕ) (sh : Shape) (x y z c : ℕ) → DecidedBy (label_checks s sh x y z c) (label_result (label_answer s sh x y z c))
unfolding label_answer label_checks
label_decided s sh x y z c = decided label_result refuse told (label_checks s sh x y z c) _ refl refl refl

pub unpack_decided : (s : List ℕ) (sh : Shape) (out : List ℕ) → DecidedBy (unpack_checks s sh out) (written_result (unpack_answer s sh out))
unfolding unpack_answer unpack_checks
unpack_decided s sh out = decided written_result refuse told (unpack_checks s sh out) _ refl refl refl

pub unpacked_length_decided : (sh : Shape) → DecidedBy (unpacked_length_checks sh) (written_result (length_answer sh))
unfolding length_answer unpacked_length_checks
unpacked_length_decided sh = decided written_result refuse told (unpacked_length_checks sh) _ refl refl refl

pub unpack-kept : (s : List ℕ) (sh : Shape) (out : List ℕ) (k : Refusal) → unpack_answer s sh out ≡ Err k → unpack_left s sh out ≡ out
unfolding unpack_answer unpack_left
unpack-kept s sh out k e = keeping_by (unpack_checks s sh out) _ _ out k e

-- ---- labels in C: 2 of the width, then those of the call

module _ (bits : ℕ) (s : List ℕ) (sh : Shape) where
  pub label_decided_in_c : (x y z c : ℕ) → DecidedBy (width_checks bits ++ label_checks s sh x y z c) (label_result (label_by bits (label_answer s sh x y z c)))
  label_decided_in_c x y z c = decided_after label_result refuse told (width_checks bits) _ _ (all_in_lem (width_checks bits) refl) (refl, tt) (label_decided s sh x y z c)

  pub unpack_decided_in_c : (out : List ℕ) → DecidedBy (width_checks bits ++ unpack_checks s sh out) (written_result (written_by bits (unpack_answer s sh out)))
  unpack_decided_in_c out = decided_after written_result refuse told (width_checks bits) _ _ (all_in_lem (width_checks bits) refl) (refl, tt) (unpack_decided s sh out)

  pub unpack-kept_in_c : (out : List ℕ) (k : Refusal) → written_by bits (unpack_answer s sh out) ≡ Err k → labels_left_by bits (unpack_left s sh out) out ≡ out
  unpack-kept_in_c out k = go (first_number (width_checks bits))
    where
      go : (n : ℕ) → unless refuse n (unpack_answer s sh out) ≡ Err k → unless (λ j. out) n (unpack_left s sh out) ≡ out
      go zero e = unfold unless in unpack-kept s sh out k e
      go (suc n) e = unfold unless in refl

pub unpacked_length_decided_in_c : (bits : ℕ) (sh : Shape) → DecidedBy (width_checks bits ++ unpacked_length_checks sh) (written_result (written_by bits (length_answer sh)))
unpacked_length_decided_in_c bits sh = decided_after written_result refuse told (width_checks bits) _ _ (all_in_lem (width_checks bits) refl) (refl, tt) (unpacked_length_decided sh)
