-- Demand 1: a refusal's number is "chosen by a fixed order of checks". Of each call whose list has the same length for all inputs, the numbers that are
-- tested, in turn, whatever is asked (RULES R2). So none of these calls gives 31, 32 or 33. (The lists of calls on a shard are longer where the shard lists more.)
use Rattle.std.specs.Prelude.{ℕ, ◌≡◌, Bool, List, [], ◌∷◌, map}
use Rattle.refusal.specs.Checks.{Check}
use Rattle.morton.specs.declared.grid.Volume.{Volume}
use Rattle.morton.specs.declared.grid.Cell.{Cell}
use Rattle.morton.specs.declared.bounds.Point.{Point}
use Rattle.morton.specs.grid.Answers.{grid_checks}
use Rattle.morton.specs.Answers.{key_checks, cell_checks}
use Rattle.morton.specs.bounds.Answers.{bounds_checks}
use Rattle.morton.specs.batch.Batch.{keys_checks}
use Rattle.cover.specs.overlap.Cover.{cover_checks}
use Rattle.sharding.specs.declared.Sharding.{Sharding}
use Rattle.sharding.specs.placement.Place.{place_checks}
use Rattle.sharding.specs.batch.Batch.{places_checks}
use Rattle.names.specs.chunks.Chunks.{chunk_name_checks}
use Rattle.names.specs.Shards.{file_name_checks}
use Rattle.names.specs.declared.FileKind.{FileKind}
use Rattle.card.specs.declared.Card.{Card}
use Rattle.card.specs.Answers.{read_checks, write_checks}
use Rattle.info.specs.Answers.{info_checks}
use Rattle.mesh_manifest.specs.sound.Verdict.{manifest_checks}
use Rattle.mesh_manifest.specs.Fields.{field_checks}
use Rattle.mesh_manifest.specs.nodes.Nodes.{node_checks}
use Rattle.mesh_manifest.specs.level.Level.{nodes_checks}
use Rattle.mesh_manifest.specs.corners.Boxes.{corners_checks}
use Rattle.split_shard.specs.seam.Pair.{pair_checks}
use Rattle.split_shard.specs.seam.Range.{range_checks}
use Rattle.intake.specs.declared.state.Intake.{Intake}
use Rattle.intake.specs.admission.Refusals.{open_checks, announce_checks, part_checks, close_checks}
use Rattle.compressed_segmentation.specs.declared.Shape.{Shape}
use Rattle.compressed_segmentation.specs.Labels.{label_checks}
use Rattle.compressed_segmentation.specs.raw_form.Raw.{unpack_checks, unpacked_length_checks}

-- the numbers that these checks give, in turn
abbrev pub tested : List Check → List ℕ
tested checks = map (λ (c : Check). c.number) checks

-- RULES R2
pub record FixedOrder : Type 0 where
  -- "Lower numbers are tested first":
  pub grid : (v : Volume) → tested (grid_checks v) ≡ 2 ∷ []
  pub key : (v : Volume) (c : Cell) → tested (key_checks v c) ≡ 2 ∷ 3 ∷ []
  pub cell : (v : Volume) (k : ℕ) → tested (cell_checks v k) ≡ 2 ∷ 3 ∷ 4 ∷ []
  pub keys : (v : Volume) (cells : List Cell) (out : List ℕ) → tested (keys_checks v cells out) ≡ 2 ∷ 3 ∷ 13 ∷ []
  pub bounds : (v : Volume) (c : Cell) → tested (bounds_checks v c) ≡ 2 ∷ []
  pub cover : (v : Volume) (lower upper : Point) (out : List ℕ) → tested (cover_checks v lower upper out) ≡ 2 ∷ 3 ∷ 13 ∷ []
  pub chunk_name : (v : Volume) (c : Cell) (out : List ℕ) → tested (chunk_name_checks v c out) ≡ 2 ∷ 13 ∷ []
  pub file_name : (kind : FileKind) (spec : Sharding) (shard : ℕ) (out : List ℕ) → tested (file_name_checks kind spec shard out) ≡ 1 ∷ 5 ∷ 13 ∷ []
  pub place : (spec : Sharding) → tested (place_checks spec) ≡ 1 ∷ []
  -- (13 of the shards, then of the minishards)
  pub places : (spec : Sharding) (ids shards minishards : List ℕ) → tested (places_checks spec ids shards minishards) ≡ 1 ∷ 13 ∷ 13 ∷ []
  -- "In a card, 14 precedes 1 and 2, and 3 comes after them";
  pub card_read : (s : List ℕ) → tested (read_checks s) ≡ 14 ∷ 1 ∷ 2 ∷ 3 ∷ []
  pub card_written : (c : Card) (out : List ℕ) → tested (write_checks c out) ≡ 1 ∷ 2 ∷ 3 ∷ 13 ∷ []
  -- of an info file, 19 and 20 precede these (order 1), and 1 of its hash that of the rest;
  pub info_read : (s : List ℕ) (k : ℕ) → tested (info_checks s k) ≡ 19 ∷ 20 ∷ 1 ∷ 1 ∷ 2 ∷ 3 ∷ []
  -- of a manifest, 18 of the node, and for corners that of its position, of the near corner and of the far one;
  pub manifest : (s : List ℕ) → tested (manifest_checks s) ≡ 15 ∷ 16 ∷ 17 ∷ []
  pub field : (s : List ℕ) (i : ℕ) → tested (field_checks s i) ≡ 15 ∷ 16 ∷ 17 ∷ 18 ∷ []
  pub node : (s : List ℕ) (l i : ℕ) → tested (node_checks s l i) ≡ 15 ∷ 16 ∷ 17 ∷ 18 ∷ []
  pub nodes : (s : List ℕ) (l : ℕ) (out : List ℕ) → tested (nodes_checks s l out) ≡ 15 ∷ 16 ∷ 17 ∷ 18 ∷ 13 ∷ []
  pub corners : (s : List ℕ) (l i : ℕ) → tested (corners_checks s l i) ≡ 15 ∷ 16 ∷ 17 ∷ 18 ∷ 18 ∷ 18 ∷ 18 ∷ []
  -- of a pair, 23 after 1 and 5 (order 10);
  pub pair : (spec : Sharding) (five : Bool) (index : List ℕ) → tested (pair_checks spec five index) ≡ 1 ∷ 5 ∷ 23 ∷ []
  pub range : (spec : Sharding) (index d : List ℕ) (start end : ℕ) → tested (range_checks spec index d start end) ≡ 1 ∷ 23 ∷ 6 ∷ 24 ∷ []
  -- of an intake, 30, 1, 5, 10, 25, 26, 13, "in that order" (order 11), those that the call has;
  pub intake_open : (spec : Sharding) (shard output : ℕ) → tested (open_checks spec shard output) ≡ 1 ∷ 5 ∷ 13 ∷ []
  pub intake_announce : (s : Intake) (id size output : ℕ) (waiting : List ℕ) → tested (announce_checks s id size output waiting) ≡ 30 ∷ 10 ∷ 25 ∷ 26 ∷ 13 ∷ []
  pub intake_part : (s : Intake) (n output : ℕ) (waiting : List ℕ) → tested (part_checks s n output waiting) ≡ 30 ∷ 25 ∷ 26 ∷ []
  pub intake_close : (s : Intake) (output : ℕ) (waiting : List ℕ) → tested (close_checks s output waiting) ≡ 30 ∷ 25 ∷ 26 ∷ []
  -- of labels, "2 first, 29 before 28, then 13 for unpacking" (order 14).
  pub label : (s : List ℕ) (sh : Shape) (x y z c : ℕ) → tested (label_checks s sh x y z c) ≡ 2 ∷ 29 ∷ 28 ∷ []
  pub unpack : (s : List ℕ) (sh : Shape) (out : List ℕ) → tested (unpack_checks s sh out) ≡ 2 ∷ 29 ∷ 28 ∷ 13 ∷ []
  pub unpacked_length : (sh : Shape) → tested (unpacked_length_checks sh) ≡ 2 ∷ 13 ∷ []
