-- The three demands, sentence by sentence, of the definitions that the entry points' contracts cite. Proved in proofs/Demands.antt.
use Rattle.std.specs.Prelude.{ℕ, ◌+◌, ◌*◌, ◌≤◌, ◌<◌, ◌≡◌, Bool, true, false, ◌↔◌, ◌⊎◌, List, [], ◌∷◌, ◌++◌, length, Err}
use Rattle.std.proofs.Math.Option.{Option, none}
use Rattle.refusal.specs.declared.Refusal.{Refusal}
use Rattle.refusal.specs.Checks.{Check, check, refusal}
use Rattle.refusal.specs.Result.{success, refused as refused_by, written_result, count_result, DecidedBy}
use Rattle.refusal.specs.Buffer.{over}
use Rattle.refusal.specs.Answers.{refuse}
use Rattle.endian.specs.Place.{Holds}
use Rattle.morton.specs.declared.grid.Volume.{Volume}
use Rattle.morton.specs.declared.grid.Cell.{Cell}
use Rattle.morton.specs.declared.bounds.Point.{Point}
use Rattle.morton.specs.grid.Grid.{grid_of, InU32}
use Rattle.morton.specs.Key.{key_bits_of, key_of}
use Rattle.morton.specs.grid.Answers.{no_cell, grid_checks, grid_answer, grid_result}
use Rattle.morton.specs.Answers.{key_checks, key_answer, cell_checks, cell_answer, key_result, cell_result}
use Rattle.morton.specs.bounds.Answers.{bounds_checks, bounds_answer, bounds_result}
use Rattle.morton.specs.batch.Batch.{keys_checks, keys_answer, keys_left}
use Rattle.cover.specs.overlap.Cover.{cover_checks, cover_answer, cover_left}
use Rattle.sharding.specs.declared.Sharding.{Sharding}
use Rattle.sharding.specs.Specification.{is_mesh, no_such_shard}
use Rattle.sharding.specs.placement.Place.{minishard_of, place_checks, place_answer, place_result}
use Rattle.sharding.specs.batch.Batch.{shards_of, minishards_of, places_checks, places_answer, shards_left, minishards_left}
use Rattle.names.specs.chunks.Chunks.{chunk_name_checks, chunk_name_answer, chunk_name_left}
use Rattle.names.specs.Shards.{file_name_checks, file_name_answer, file_name_left}
use Rattle.names.specs.declared.FileKind.{FileKind}
use Rattle.shard.specs.declared.CheckAnswer.TheVariants.{Sound}
use Rattle.shard.specs.index.Index.{most_shard_bytes}
use Rattle.shard.specs.File.{index_length_of, index_part, data_part, shard_checks, check_answer, check_result}
use Rattle.shard.specs.Sound.{SoundMinishard, SoundShard}
use Rattle.shard.specs.Items.{Item}
use Rattle.shard.specs.Lists.{ListsAt, ListsIn, ListsItem, SameListing, SameChunks}
use Rattle.unlisted.specs.ranges.Ranges.{Unlisted}
use Rattle.unlisted.specs.Answers.{unlisted_answer}
use Rattle.lookup.specs.declared.id_search.LookupAnswer.TheVariants as L
use Rattle.lookup.specs.Find.{lookup_checks, lookup_answer, lookup_result}
use Rattle.lookup.specs.Lookups.{Asked, chunk_start, HandsOut, entry_bytes, AgreeFor, SameAnswer}
use Rattle.lookup.specs.fragments.Fragment.{fragment_checks, fragment_answer}
use Rattle.lookup.specs.fragments.Fragments.{HandsOutFragment, LacksFragment, SameFragment}
use Rattle.refusal.specs.declared.CountAnswer.TheVariants as N
use Rattle.lookup.specs.listings.Listing.{listing_of, listed_count, count_checks, count_answer, listing_checks, listing_answer, listing_left}
use Rattle.lookup.specs.listings.Triples.{Says}
use Rattle.settled_form.specs.Content.{file_form, file_form_length}
use Rattle.settle.specs.answers.Answers.{settled_length_checks, length_answer, settle_checks, settle_answer, settle_left}
use Rattle.split_shard.specs.seam.Pair.{pair_checks}
use Rattle.split_shard.specs.seam.Range.{range_checks, range_answer, range_result}
use Rattle.split_shard.specs.Answers.{other_shard, pair_check, pair_lookup, pair_fragment}
use Rattle.split_shard.specs.form.Answers.{pair_asked_checks, pair_count, pair_listing, pair_listing_left, pair_unlisted, pair_length, pair_settle, pair_settle_left}
use Rattle.intake.specs.declared.state.Intake.{Intake}
use Rattle.intake.specs.admission.Refusals.{open_checks, announce_checks, part_checks, close_checks}
use Rattle.intake.specs.Calls.{open_answer, open_left, announce_answer, announce_left, announce_waiting, part_answer, part_left, close_answer, close_left, intake_result, close_result}
use Rattle.holdings.specs.measures.Measures.{chunk_bytes}
use Rattle.holdings.specs.chunk_sums.Totals.{passes}
use Rattle.holdings.specs.measures.Answers.{measure_answer, pair_measure, measure_result}
use Rattle.holdings.specs.declared.one_shard.Sheet.{Sheet}
use Rattle.holdings.specs.one_shard.Sheet.{rows}
use Rattle.holdings.specs.totals.Totals.{any_passes, both}
use Rattle.holdings.specs.Answers.{join_answer, sheet_of, add_answer, pair_sheet, pair_add_answer, sheet_result}
use Rattle.card.specs.declared.Card.{Card}
use Rattle.card.specs.Answers.{read_checks, read_answer, write_checks, write_answer, write_left, card_result}
use Rattle.card.specs.Meaning.{OneCard}
use Rattle.info.specs.Answers.{info_checks, info_answer}
use Rattle.info.specs.document.Meaning.{InfoMeaning}
use Rattle.mesh_manifest.specs.layout.Layout.{count_of}
use Rattle.mesh_manifest.specs.sound.Verdict.{manifest_checks, manifest_answer, manifest_result}
use Rattle.mesh_manifest.specs.Fields.{header_answer, field_checks, field_answer, header_result, field_result}
use Rattle.mesh_manifest.specs.nodes.Run.{fragment_of, all_fragments}
use Rattle.mesh_manifest.specs.nodes.Nodes.{has_node, fragments_length_of, node_at, node_checks, node_answer, node_result}
use Rattle.mesh_manifest.specs.node_numbers.Numbers.{numbers_of, nodes_of}
use Rattle.mesh_manifest.specs.level.Level.{nodes_checks, nodes_answer, nodes_left}
use Rattle.mesh_manifest.specs.corners.Boxes.{corners_checks, corners_answer, corners_result}
use Rattle.compressed_segmentation.specs.declared.Shape.{Shape}
use Rattle.compressed_segmentation.specs.Labels.{label_checks, label_answer, label_result}
use Rattle.compressed_segmentation.specs.raw_form.Raw.{unpack_checks, unpack_answer, unpack_left, unpacked_length_checks as length_checks_of_labels, length_answer as length_answer_of_labels}
use Rattle.coronagamba.specs.Labels.{width_checks, label_by, written_by, labels_left_by}
use Rattle.theorems.specs.FixedOrder.{FixedOrder}
use Rattle.theorems.specs.Minishards.{Minishards}
use Rattle.theorems.specs.Published.{Published}

-- ---- Demand 1

-- the checks of a measure: those of the check, then 27 where the sizes of the chunks together pass 2^64-1 (order 13)
abbrev pub measure_checks : Sharding → ℕ → List ℕ → List Check
measure_checks spec shard file = shard_checks spec shard file ++ (check 27 (passes (chunk_bytes spec (index_part spec file) (data_part spec file))) ∷ [])

-- the one check of two sheets that are joined: "27 a total would pass 2^64-1"
abbrev pub join_checks : Sheet → Sheet → List Check
join_checks a b = check 27 (any_passes (rows (both a b))) ∷ []

-- That every entry point takes any numbers and bytes and ends is the checker's own: no entry point's contract has a `requires`, and each function is proved to end.
-- (RULES D1, R5)
pub record Demand1 : Type 0 where
  -- A refusal gives one number of the table: that of the first check, in the call's fixed order, that holds; with the position of the same check, where it
  -- carries one (orders 6 and 7). Of each call:
  pub grid : (v : Volume) → DecidedBy (grid_checks v) (grid_result (grid_answer v))
  pub key : (v : Volume) (c : Cell) → DecidedBy (key_checks v c) (key_result (key_answer v c))
  pub keys : (v : Volume) (cells : List Cell) (out : List ℕ) → DecidedBy (keys_checks v cells out) (written_result (keys_answer v cells out))
  pub cell : (v : Volume) (k : ℕ) → DecidedBy (cell_checks v k) (cell_result (cell_answer v k))
  pub bounds : (v : Volume) (c : Cell) → DecidedBy (bounds_checks v c) (bounds_result (bounds_answer v c))
  pub cover : (v : Volume) (lower upper : Point) (out : List ℕ) → DecidedBy (cover_checks v lower upper out) (written_result (cover_answer v lower upper out))
  pub place : (spec : Sharding) (id : ℕ) → DecidedBy (place_checks spec) (place_result (place_answer spec id))
  pub places : (spec : Sharding) (ids shards minishards : List ℕ) → DecidedBy (places_checks spec ids shards minishards) (written_result (places_answer spec ids shards minishards))
  pub chunk_name : (v : Volume) (c : Cell) (out : List ℕ) → DecidedBy (chunk_name_checks v c out) (written_result (chunk_name_answer v c out))
  pub file_name : (kind : FileKind) (spec : Sharding) (shard : ℕ) (out : List ℕ) → DecidedBy (file_name_checks kind spec shard out) (written_result (file_name_answer kind spec shard out))
  pub lookup : (spec : Sharding) (shard : ℕ) (file : List ℕ) (id : ℕ) → DecidedBy (lookup_checks spec shard file id) (lookup_result (lookup_answer spec shard file id))
  pub fragment : (spec : Sharding) (shard : ℕ) (file : List ℕ) (id level node : ℕ) → DecidedBy (fragment_checks spec shard file id level node) (lookup_result (fragment_answer spec shard file id level node))
  pub count : (spec : Sharding) (shard : ℕ) (file : List ℕ) (m : ℕ) → DecidedBy (count_checks spec shard file m) (count_result (count_answer spec shard file m))
  pub listing : (spec : Sharding) (shard : ℕ) (file : List ℕ) (m : ℕ) (out : List ℕ) → DecidedBy (listing_checks spec shard file m out) (count_result (listing_answer spec shard file m out))
  pub check : (spec : Sharding) (shard : ℕ) (file : List ℕ) → DecidedBy (shard_checks spec shard file) (check_result (check_answer spec shard file))
  pub form_length : (spec : Sharding) (shard : ℕ) (file : List ℕ) (dropping : Bool) → DecidedBy (settled_length_checks spec shard file dropping) (count_result (length_answer spec shard file dropping))
  pub settle : (spec : Sharding) (shard : ℕ) (file : List ℕ) (dropping : Bool) (out : List ℕ) → DecidedBy (settle_checks spec shard file dropping out) (count_result (settle_answer spec shard file dropping out))
  pub unlisted : (spec : Sharding) (shard : ℕ) (file : List ℕ) → DecidedBy (shard_checks spec shard file) (count_result (unlisted_answer spec shard file))
  -- (of a pair: 1, 5, 23, of a listing 1, 5, 33, 23, then those of the joined file, whose 1, 5 and 33 are the same tests; order 10)
  pub check_of_pair : (spec : Sharding) (shard : ℕ) (index d : List ℕ) → DecidedBy (pair_checks spec (no_such_shard spec shard) index ++ shard_checks spec shard (index ++ d)) (check_result (pair_check spec shard index d))
  pub lookup_of_pair : (spec : Sharding) (shard : ℕ) (index d : List ℕ) (id : ℕ) → DecidedBy (pair_checks spec (other_shard spec shard id) index ++ lookup_checks spec shard (index ++ d) id) (lookup_result (pair_lookup spec shard index d id))
  pub fragment_of_pair : (spec : Sharding) (shard : ℕ) (index d : List ℕ) (id level node : ℕ) → DecidedBy (pair_checks spec (other_shard spec shard id) index ++ fragment_checks spec shard (index ++ d) id level node) (lookup_result (pair_fragment spec shard index d id level node))
  pub count_of_pair : (spec : Sharding) (shard : ℕ) (index d : List ℕ) (m : ℕ) → DecidedBy (pair_asked_checks spec shard m index ++ count_checks spec shard (index ++ d) m) (count_result (pair_count spec shard index d m))
  pub listing_of_pair : (spec : Sharding) (shard : ℕ) (index d : List ℕ) (m : ℕ) (out : List ℕ) → DecidedBy (pair_asked_checks spec shard m index ++ listing_checks spec shard (index ++ d) m out) (count_result (pair_listing spec shard index d m out))
  pub unlisted_of_pair : (spec : Sharding) (shard : ℕ) (index d : List ℕ) → DecidedBy (pair_checks spec (no_such_shard spec shard) index ++ shard_checks spec shard (index ++ d)) (count_result (pair_unlisted spec shard index d))
  pub form_length_of_pair : (spec : Sharding) (shard : ℕ) (index d : List ℕ) (dropping : Bool) → DecidedBy (pair_checks spec (no_such_shard spec shard) index ++ settled_length_checks spec shard (index ++ d) dropping) (count_result (pair_length spec shard index d dropping))
  pub settle_of_pair : (spec : Sharding) (shard : ℕ) (index d : List ℕ) (dropping : Bool) (out : List ℕ) → DecidedBy (pair_checks spec (no_such_shard spec shard) index ++ settle_checks spec shard (index ++ d) dropping out) (count_result (pair_settle spec shard index d dropping out))
  -- (of a measure: those of the check, then 27; of a sheet: 27 alone, where a total would pass; order 13)
  pub measure : (spec : Sharding) (shard : ℕ) (file : List ℕ) → DecidedBy (measure_checks spec shard file) (measure_result (measure_answer spec shard file))
  pub measure_of_pair : (spec : Sharding) (shard : ℕ) (index d : List ℕ) → DecidedBy (pair_checks spec (no_such_shard spec shard) index ++ measure_checks spec shard (index ++ d)) (measure_result (pair_measure spec shard index d))
  pub sheet_add : (sheet : Sheet) (spec : Sharding) (shard : ℕ) (file : List ℕ) → DecidedBy (join_checks sheet (sheet_of spec shard file)) (sheet_result (add_answer sheet spec shard file))
  pub sheet_add_pair : (sheet : Sheet) (spec : Sharding) (shard : ℕ) (index d : List ℕ) → DecidedBy (join_checks sheet (pair_sheet spec shard index d)) (sheet_result (pair_add_answer sheet spec shard index d))
  pub sheet_join : (a b : Sheet) → DecidedBy (join_checks a b) (sheet_result (join_answer a b))
  pub range : (spec : Sharding) (index d : List ℕ) (start end : ℕ) → DecidedBy (range_checks spec index d start end) (range_result (range_answer spec index d start end))
  pub card_read : (s : List ℕ) → DecidedBy (read_checks s) (card_result (read_answer s))
  pub card_written : (c : Card) (out : List ℕ) → DecidedBy (write_checks c out) (written_result (write_answer c out))
  pub info_read : (s : List ℕ) (k : ℕ) → DecidedBy (info_checks s k) (card_result (info_answer s k))
  -- (of an intake: of 30, 1, 5, 10, 25, 26, 13, in this order, those that the call has; order 11)
  pub intake_open : (spec : Sharding) (shard : ℕ) (out waiting : List ℕ) → DecidedBy (open_checks spec shard (length out)) (intake_result (open_answer spec shard out waiting))
  pub intake_announce : (s : Intake) (id size : ℕ) (out waiting : List ℕ) → DecidedBy (announce_checks s id size (length out) waiting) (intake_result (announce_answer s id size out waiting))
  pub intake_part : (s : Intake) (bytes out waiting : List ℕ) → DecidedBy (part_checks s (length bytes) (length out) waiting) (intake_result (part_answer s bytes out waiting))
  pub intake_close : (s : Intake) (out waiting : List ℕ) → DecidedBy (close_checks s (length out) waiting) (close_result (close_answer s out waiting))
  pub manifest : (s : List ℕ) → DecidedBy (manifest_checks s) (manifest_result (manifest_answer s))
  pub header : (s : List ℕ) → DecidedBy (manifest_checks s) (header_result (header_answer s))
  pub field : (s : List ℕ) (i : ℕ) → DecidedBy (field_checks s i) (field_result (field_answer s i))
  pub node : (s : List ℕ) (l i : ℕ) → DecidedBy (node_checks s l i) (node_result (node_answer s l i))
  pub nodes : (s : List ℕ) (l : ℕ) (out : List ℕ) → DecidedBy (nodes_checks s l out) (written_result (nodes_answer s l out))
  pub corners : (s : List ℕ) (l i : ℕ) → DecidedBy (corners_checks s l i) (corners_result (corners_answer s l i))
  -- (of labels: "2 first, 29 before 28, then 13 for unpacking"; order 14)
  pub label : (s : List ℕ) (sh : Shape) (x y z c : ℕ) → DecidedBy (label_checks s sh x y z c) (label_result (label_answer s sh x y z c))
  pub unpack : (s : List ℕ) (sh : Shape) (out : List ℕ) → DecidedBy (unpack_checks s sh out) (written_result (unpack_answer s sh out))
  pub unpacked_length : (sh : Shape) → DecidedBy (length_checks_of_labels sh) (written_result (length_answer_of_labels sh))
  -- (in C, where the label width is a number, 2 of the width comes before all else: RULES E1)
  pub label_in_c : (bits : ℕ) (s : List ℕ) (sh : Shape) (x y z c : ℕ) → DecidedBy (width_checks bits ++ label_checks s sh x y z c) (label_result (label_by bits (label_answer s sh x y z c)))
  pub unpack_in_c : (bits : ℕ) (s : List ℕ) (sh : Shape) (out : List ℕ) → DecidedBy (width_checks bits ++ unpack_checks s sh out) (written_result (written_by bits (unpack_answer s sh out)))
  pub unpacked_length_in_c : (bits : ℕ) (sh : Shape) → DecidedBy (width_checks bits ++ length_checks_of_labels sh) (written_result (written_by bits (length_answer_of_labels sh)))
  -- (The order is the same for all inputs.)
  pub fixed : FixedOrder
  -- It gives nothing else, but the whole-shard check adds the minishard.
  pub minishards : Minishards
  -- And it changes no byte of a buffer that was lent. (A sheet stays: order 13's stays.)
  pub keys_kept : (v : Volume) (cells : List Cell) (out : List ℕ) (r : Refusal) → keys_answer v cells out ≡ Err r → keys_left v cells out ≡ out
  pub cover_kept : (v : Volume) (lower upper : Point) (out : List ℕ) (r : Refusal) → cover_answer v lower upper out ≡ Err r → cover_left v lower upper out ≡ out
  pub places_kept : (spec : Sharding) (ids shards minishards : List ℕ) (r : Refusal) → places_answer spec ids shards minishards ≡ Err r
      → (shards_left spec ids shards minishards ≡ shards) × (minishards_left spec ids shards minishards ≡ minishards)
  pub chunk_name_kept : (v : Volume) (c : Cell) (out : List ℕ) (r : Refusal) → chunk_name_answer v c out ≡ Err r → chunk_name_left v c out ≡ out
  pub file_name_kept : (kind : FileKind) (spec : Sharding) (shard : ℕ) (out : List ℕ) (r : Refusal) → file_name_answer kind spec shard out ≡ Err r → file_name_left kind spec shard out ≡ out
  pub listing_kept : (spec : Sharding) (shard : ℕ) (file : List ℕ) (m : ℕ) (out : List ℕ) (k : ℕ) (p : Option ℕ) → listing_answer spec shard file m out ≡ refusal N.Refused N.Faulty k p → listing_left spec shard file m out ≡ out
  pub settle_kept : (spec : Sharding) (shard : ℕ) (file : List ℕ) (dropping : Bool) (out : List ℕ) (k : ℕ) (p : Option ℕ) → settle_answer spec shard file dropping out ≡ refusal N.Refused N.Faulty k p → settle_left spec shard file dropping out ≡ out
  pub listing_of_pair_kept : (spec : Sharding) (shard : ℕ) (index d : List ℕ) (m : ℕ) (out : List ℕ) (k : ℕ) (p : Option ℕ) → pair_listing spec shard index d m out ≡ refusal N.Refused N.Faulty k p → pair_listing_left spec shard index d m out ≡ out
  pub settle_of_pair_kept : (spec : Sharding) (shard : ℕ) (index d : List ℕ) (dropping : Bool) (out : List ℕ) (k : ℕ) (p : Option ℕ) → pair_settle spec shard index d dropping out ≡ refusal N.Refused N.Faulty k p → pair_settle_left spec shard index d dropping out ≡ out
  pub card_kept : (c : Card) (out : List ℕ) (r : Refusal) → write_answer c out ≡ Err r → write_left c out ≡ out
  -- (nor does it give an intake another state: its answer has none)
  pub intake_open_kept : (spec : Sharding) (shard : ℕ) (out waiting : List ℕ) (r : Refusal) → open_answer spec shard out waiting ≡ Err r → open_left spec shard out ≡ out
  pub intake_announce_kept : (s : Intake) (id size : ℕ) (out waiting : List ℕ) (r : Refusal) → announce_answer s id size out waiting ≡ Err r
      → (announce_left s id size out waiting ≡ out) × (announce_waiting s id size out waiting ≡ waiting)
  pub intake_part_kept : (s : Intake) (bytes out waiting : List ℕ) (r : Refusal) → part_answer s bytes out waiting ≡ Err r → part_left s bytes out waiting ≡ out
  pub intake_close_kept : (s : Intake) (out waiting : List ℕ) (r : Refusal) → close_answer s out waiting ≡ Err r → close_left s out waiting ≡ out
  pub nodes_kept : (s : List ℕ) (l : ℕ) (out : List ℕ) (r : Refusal) → nodes_answer s l out ≡ Err r → nodes_left s l out ≡ out
  pub unpack_kept : (s : List ℕ) (sh : Shape) (out : List ℕ) (r : Refusal) → unpack_answer s sh out ≡ Err r → unpack_left s sh out ≡ out
  pub unpack_in_c_kept : (bits : ℕ) (s : List ℕ) (sh : Shape) (out : List ℕ) (r : Refusal) → written_by bits (unpack_answer s sh out) ≡ Err r → labels_left_by bits (unpack_left s sh out) out ≡ out

-- ---- Demand 2

-- The minishard that the id chooses is sound, and it lists the id with these bytes, in entry i or in some entry
abbrev pub ChosenSound : Sharding → ℕ → List ℕ → ℕ → Type 0
ChosenSound spec shard file id = SoundMinishard spec shard (index_part spec file) (data_part spec file) (minishard_of spec id)

abbrev pub ChosenListsAt : Sharding → List ℕ → ℕ → ℕ → List ℕ → Type 0
ChosenListsAt spec file i id bytes = ListsAt (index_part spec file) (data_part spec file) (minishard_of spec id) i id bytes

abbrev pub ChosenLists : Sharding → List ℕ → ℕ → List ℕ → Type 0
ChosenLists spec file id bytes = ListsIn (index_part spec file) (data_part spec file) (minishard_of spec id) id bytes

-- it lists the item, with what goes with the chunk
abbrev pub ChosenListsItem : Sharding → List ℕ → Item → Type 0
ChosenListsItem spec file item = ListsItem spec (index_part spec file) (data_part spec file) (minishard_of spec item.id) item

-- RULES D2, G7, L3
pub record Demand2 : Type 0 where
  -- Keys, places, names, manifest fields and the parts of a pair are those of the published format.
  pub published : Published
  -- Where a grid has at most 64 key bits, a cell of it is answered with its key, and that key is answered with the cell.
  pub keyed : (v : Volume) (c : Cell) → InU32 v.size → no_cell v c ≡ false → key_bits_of (grid_of v) ≤ 64
      → (key_result (key_answer v c) ≡ success (key_of (grid_of v) c)) × (cell_result (cell_answer v (key_of (grid_of v) c)) ≡ success c)
  -- Nor is a key answered with a cell that has another key.
  pub celled : (v : Volume) (k : ℕ) (c : Cell) → cell_result (cell_answer v k) ≡ success c → key_result (key_answer v c) ≡ success k
  -- Where the chosen minishard is sound and its entry i lists the id, a lookup finds the bytes listed at the very place that the
  -- entry gives, within the file, and hands these out.
  pub found : (spec : Sharding) (shard : ℕ) (file : List ℕ) (id i : ℕ) (bytes : List ℕ) → Asked spec shard file id
      → ChosenSound spec shard file id → ChosenListsAt spec file i id bytes → HandsOut spec shard file id i bytes
  -- The call beside it gives that place and their length.
  pub found_at : (spec : Sharding) (shard : ℕ) (file : List ℕ) (id i : ℕ) (bytes : List ℕ) → Asked spec shard file id
      → ChosenSound spec shard file id → ChosenListsAt spec file i id bytes
      → lookup_result (lookup_answer spec shard file id) ≡ success (index_length_of spec + chunk_start (index_part spec file) (data_part spec file) (minishard_of spec id) i, length bytes)
  -- It says absent, 12, exactly when the chosen minishard is sound and lists the id with no bytes.
  pub absent : (spec : Sharding) (shard : ℕ) (file : List ℕ) (id : ℕ) → Asked spec shard file id
      → (lookup_answer spec shard file id ≡ L.Refused 12)
      ↔ (ChosenSound spec shard file id × ((bytes : List ℕ) → ChosenLists spec file id bytes → ⊥))
  -- Its answer depends on nothing else than the file's length, one index entry, that minishard's index, of a mesh every manifest of that
  -- minishard, and the chunk handed out.
  pub depends : (spec : Sharding) (shard id : ℕ) (a b : List ℕ) → AgreeFor spec id a b → SameAnswer spec shard id a b
  -- A refusal with 1 to 8 depends on the file's length and the index entry alone: behind an entry that 7 or 8 holds of, nothing matters.
  pub depends_entry : (spec : Sharding) (shard id : ℕ) (a b : List ℕ) → length a ≡ length b → entry_bytes a (minishard_of spec id) ≡ entry_bytes b (minishard_of spec id)
      → (k : ℕ) (p : Option ℕ) → k ≤ 8 → lookup_answer spec shard a id ≡ refusal L.Refused L.Faulty k p → lookup_answer spec shard b id ≡ refusal L.Refused L.Faulty k p
  -- (order 7) Where the chosen minishard of a mesh is sound and lists the item, and its manifest has the node, the node's fragment is found
  -- among the item's fragments and handed out.
  pub fragment : (spec : Sharding) (shard : ℕ) (file : List ℕ) (item : Item) (level node : ℕ) → is_mesh spec ≡ true → Asked spec shard file item.id
      → ChosenSound spec shard file item.id → ChosenListsItem spec file item → has_node item.body level node ≡ true
      → HandsOutFragment spec shard file item.id level node (fragment_of item.body item.lead level node)
  -- Laid one after the other, the fragments of a manifest are all that goes with it, as many bytes as its sizes sum up to.
  pub fragments : (spec : Sharding) (shard : ℕ) (file : List ℕ) (item : Item) → is_mesh spec ≡ true
      → ChosenSound spec shard file item.id → ChosenListsItem spec file item
      → (all_fragments item.body item.lead ≡ item.lead) × (length item.lead ≡ fragments_length_of item.body)
  -- This call says 18 exactly when the chosen minishard is sound and lists the id, of a volume or with a manifest that has no such node;
  pub no_fragment : (spec : Sharding) (shard : ℕ) (file : List ℕ) (id level node : ℕ) → Asked spec shard file id
      → (fragment_answer spec shard file id level node ≡ L.Refused 18) ↔ LacksFragment spec shard file id level node
  -- any other number, 12 among them, it gives exactly as the lookup does.
  pub refused_alike : (spec : Sharding) (shard : ℕ) (file : List ℕ) (id level node number : ℕ) (p : Option ℕ) → (number ≡ 18 → ⊥)
      → (fragment_answer spec shard file id level node ≡ refusal L.Refused L.Faulty number p) ↔ (lookup_answer spec shard file id ≡ refusal L.Refused L.Faulty number p)
  -- This answer depends on what a lookup's depends on, and on the fragment handed out.
  pub depends_fragment : (spec : Sharding) (shard id level node : ℕ) (a b : List ℕ) → AgreeFor spec id a b → SameFragment spec shard id level node a b
  -- The numbers of a listing say exactly what the entries of the minishard list.
  pub listed : (spec : Sharding) (file : List ℕ) (m : ℕ) → index_length_of spec ≤ length file → (i id : ℕ) (bytes : List ℕ)
      → ListsAt (index_part spec file) (data_part spec file) m i id bytes ↔ Says (listing_of spec file m) file i id bytes
  -- They are three for each entry; where the listing is not refused, they stand at the front of what is lent, which is as it was past them, and the count
  -- returned is how many they are. The call that counts the entries gives their count.
  pub listing_long : (spec : Sharding) (file : List ℕ) (m : ℕ) → length (listing_of spec file m) ≡ 3 * listed_count spec file m
  pub listing_written : (spec : Sharding) (shard : ℕ) (file : List ℕ) (m : ℕ) (out : List ℕ) (n : ℕ) → count_result (listing_answer spec shard file m out) ≡ success n
      → (n ≡ length (listing_of spec file m)) × (listing_left spec shard file m out ≡ over (listing_of spec file m) out)
  pub counted : (spec : Sharding) (shard : ℕ) (file : List ℕ) (m n : ℕ) → count_result (count_answer spec shard file m) ≡ success n → n ≡ listed_count spec file m
  -- The numbers of a level are those of its nodes in turn.
  pub levelled : (s : List ℕ) (l i : ℕ) (past : List ℕ) → i < count_of s l → Holds (nodes_of s l ++ past) (5 * i) (numbers_of (node_at s l i))
  -- They are five for each node, written as the numbers of a listing are;
  pub level_long : (s : List ℕ) (l : ℕ) → length (nodes_of s l) ≡ 5 * count_of s l
  pub level_written : (s : List ℕ) (l : ℕ) (out : List ℕ) (n : ℕ) → written_result (nodes_answer s l out) ≡ success n
      → (n ≡ length (nodes_of s l)) × (nodes_left s l out ≡ over (nodes_of s l) out)
  -- so are the shards of many ids and their minishards, each in its own buffer.
  pub places_written : (spec : Sharding) (ids shards minishards : List ℕ) (n : ℕ) → written_result (places_answer spec ids shards minishards) ≡ success n
      → (n ≡ length ids) × (shards_left spec ids shards minishards ≡ over (shards_of spec ids) shards) × (minishards_left spec ids shards minishards ≡ over (minishards_of spec ids) minishards)
  -- One meaning has one card.
  pub card : OneCard
  -- (order 1) The settings read from an info file are those that its document says, by the members that the rules name alone, and the card written of them reads back.
  pub info : InfoMeaning

-- ---- Demand 3

abbrev pub Passes : Sharding → ℕ → List ℕ → Type 0
Passes spec shard file = check_answer spec shard file ≡ Sound

-- the settled form is at most 1 GiB; it is longer than the output or than 1 GiB
abbrev pub Short : Sharding → List ℕ → Type 0
Short spec a = length (file_form spec a) ≤ most_shard_bytes

abbrev pub TooLong : Sharding → List ℕ → List ℕ → Type 0
TooLong spec a out = (length out < length (file_form spec a)) ⊎ (most_shard_bytes < length (file_form spec a))

-- settling `a` into `out` reports the length of `form` and writes exactly it: past it the output is as it was
abbrev pub Settles : Sharding → ℕ → List ℕ → Bool → List ℕ → List ℕ → Type 0
Settles spec shard a dropping form out = (count_result (settle_answer spec shard a dropping out) ≡ success (length form)) × (settle_left spec shard a dropping out ≡ over form out)

-- "Demand 3 holds as before when dropping is asked, and otherwise for shards with no unlisted byte." (order 8) (RULES D3)
abbrev pub Ready : Sharding → List ℕ → Bool → Type 0
Ready spec a dropping = (dropping ≡ true) ⊎ ((p : ℕ) → Unlisted spec (index_part spec a) (data_part spec a) p → ⊥)

-- RULES D3
pub record Demand3 : Type 0 where
  -- To pass the check is to be sound.
  pub sound : (spec : Sharding) (shard : ℕ) (a : List ℕ) → Passes spec shard a ↔ SoundShard spec shard a
  -- Two shards of one specification and one number that pass the check, neither form longer than 1 GiB:
  -- the forms are the same bytes exactly when both list the same ids with the same chunk bytes, of a mesh with the same fragments too.
  pub same : (spec : Sharding) (shard : ℕ) (a b : List ℕ) → Passes spec shard a → Passes spec shard b → Short spec a → Short spec b
      → (file_form spec a ≡ file_form spec b) ↔ SameListing spec a b
  -- In a volume, to list the same items is to list the same pairs of id and bytes: nothing goes with a chunk.
  pub pairs : (spec : Sharding) (a b : List ℕ) → is_mesh spec ≡ false → SameListing spec a b ↔ SameChunks spec a b
  -- Shards that list the same have one form, of whatever length.
  pub one : (spec : Sharding) (shard : ℕ) (a b : List ℕ) → SoundShard spec shard a → SoundShard spec shard b → SameListing spec a b → file_form spec a ≡ file_form spec b
  -- The settled form of a sound shard, where it is at most 1 GiB, passes the check under the same specification and number,
  pub passes : (spec : Sharding) (shard : ℕ) (a : List ℕ) → SoundShard spec shard a → Short spec a → Passes spec shard (file_form spec a)
  -- lists exactly what its original lists,
  pub lists : (spec : Sharding) (shard : ℕ) (a : List ℕ) → SoundShard spec shard a → Short spec a → SameListing spec a (file_form spec a)
  -- and settles to itself in every output that is long enough for it, whatever is asked.
  pub again : (spec : Sharding) (shard : ℕ) (a : List ℕ) (dropping : Bool) (out : List ℕ) → SoundShard spec shard a → Short spec a
      → length (file_form spec a) ≤ length out → Settles spec shard (file_form spec a) dropping (file_form spec a) out
  -- Settling a sound shard is refused exactly when its form is longer than the output or than 1 GiB, and then with 13, which has no position;
  pub refused : (spec : Sharding) (shard : ℕ) (a : List ℕ) (dropping : Bool) (out : List ℕ) → SoundShard spec shard a → Ready spec a dropping
      → (number : ℕ) (p : Option ℕ) → (settle_answer spec shard a dropping out ≡ refusal N.Refused N.Faulty number p) ↔ ((number ≡ 13) × (p ≡ none) × TooLong spec a out)
  -- otherwise it writes exactly that form and reports its length.
  pub written : (spec : Sharding) (shard : ℕ) (a : List ℕ) (dropping : Bool) (out : List ℕ) → SoundShard spec shard a → Ready spec a dropping
      → (TooLong spec a out → ⊥) → Settles spec shard a dropping (file_form spec a) out
  -- The form is as long as its length, a whole number of any size, says; the settled length of a sound shard is answered with it, or
  -- with 13 where it is above 1 GiB.
  pub long : (spec : Sharding) (a : List ℕ) → length (file_form spec a) ≡ file_form_length spec a
  pub measured : (spec : Sharding) (shard : ℕ) (a : List ℕ) (dropping : Bool) → SoundShard spec shard a → Ready spec a dropping → Short spec a → count_result (length_answer spec shard a dropping) ≡ success (file_form_length spec a)
  pub unmeasured : (spec : Sharding) (shard : ℕ) (a : List ℕ) (dropping : Bool) → SoundShard spec shard a → Ready spec a dropping → most_shard_bytes < file_form_length spec a → count_result (length_answer spec shard a dropping) ≡ refused_by 13
