-- The minishard that a refusal names: "A refusal returns its number and nothing else, but the whole-shard check adds the minishard" (RULES R3).
use Rattle.std.specs.Prelude.{ℕ, ◌≡◌, ◌↔◌, List, ◌++◌, length}
use Rattle.std.proofs.Math.Option.{none}
use Rattle.refusal.specs.Result.{Result, faulty_in, written_result, count_result}
use Rattle.morton.specs.grid.Answers.{grid_result}
use Rattle.morton.specs.Answers.{key_result, cell_result}
use Rattle.morton.specs.bounds.Answers.{bounds_result}
use Rattle.sharding.specs.declared.Sharding.{Sharding}
use Rattle.sharding.specs.placement.Place.{place_result}
use Rattle.shard.specs.File.{index_length_of, check_answer, check_result}
use Rattle.shard.specs.Sound.{FirstFaultIs}
use Rattle.lookup.specs.Find.{lookup_result}
use Rattle.split_shard.specs.seam.Range.{range_result}
use Rattle.split_shard.specs.Answers.{pair_check}
use Rattle.intake.specs.Calls.{intake_result, close_result}
use Rattle.holdings.specs.measures.Answers.{measure_answer, pair_measure, measure_result}
use Rattle.holdings.specs.Answers.{sheet_result}
use Rattle.card.specs.Answers.{card_result}
use Rattle.mesh_manifest.specs.sound.Verdict.{manifest_result}
use Rattle.mesh_manifest.specs.Fields.{header_result, field_result}
use Rattle.mesh_manifest.specs.nodes.Nodes.{node_result}
use Rattle.mesh_manifest.specs.corners.Boxes.{corners_result}
use Rattle.compressed_segmentation.specs.Labels.{label_result}

-- no answer of this kind names a minishard
abbrev pub NamesNone : {A B : Type 0} → (A → Result B) → Type 0
NamesNone {A} f = (a : A) → (f a).minishard ≡ none

-- an answer of this kind names one exactly where it names a position
abbrev pub NamesWithPosition : {A B : Type 0} → (A → Result B) → Type 0
NamesWithPosition {A} f = (a : A) → ((f a).minishard ≡ none) ↔ ((f a).position ≡ none)

-- RULES R3
pub record Minishards : Type 0 where
  -- The whole-shard check gives a number with a minishard and a position exactly when that is the fault of the first minishard, in number order, that has one;
  pub check : (spec : Sharding) (shard : ℕ) (file : List ℕ) (k m p : ℕ) → (check_result (check_answer spec shard file) ≡ faulty_in k m p) ↔ FirstFaultIs spec shard file k m p
  -- of a pair, once the index file is as long as the shard index (order 10);
  pub check_of_pair : (spec : Sharding) (shard : ℕ) (index d : List ℕ) (k m p : ℕ) → (check_result (pair_check spec shard index d) ≡ faulty_in k m p) ↔ ((length index ≡ index_length_of spec) × FirstFaultIs spec shard (index ++ d) k m p)
  -- a measure does as the check (order 13).
  pub measure : (spec : Sharding) (shard : ℕ) (file : List ℕ) (k m p : ℕ) → (measure_result (measure_answer spec shard file) ≡ faulty_in k m p) ↔ FirstFaultIs spec shard file k m p
  pub measure_of_pair : (spec : Sharding) (shard : ℕ) (index d : List ℕ) (k m p : ℕ) → (measure_result (pair_measure spec shard index d) ≡ faulty_in k m p) ↔ ((length index ≡ index_length_of spec) × FirstFaultIs spec shard (index ++ d) k m p)
  -- Neither names a minishard otherwise: not with 1, 5, 6, 23 or 27, nor with success.
  pub check_with_position : NamesWithPosition check_result
  pub measure_with_position : NamesWithPosition measure_result
  -- No other answer names one.
  pub grid : NamesNone grid_result
  pub key : NamesNone key_result
  pub cell : NamesNone cell_result
  pub bounds : NamesNone bounds_result
  pub place : NamesNone place_result
  pub written : NamesNone written_result
  pub count : NamesNone count_result
  pub lookup : NamesNone lookup_result
  pub range : NamesNone range_result
  pub sheet : NamesNone sheet_result
  pub intake : NamesNone intake_result
  pub close : NamesNone close_result
  pub card : NamesNone card_result
  pub manifest : NamesNone manifest_result
  pub header : NamesNone header_result
  pub field : NamesNone field_result
  pub node : NamesNone node_result
  pub corners : NamesNone corners_result
  pub label : NamesNone label_result
