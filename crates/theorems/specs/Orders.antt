-- What the orders promise (RULES R4, G10, S9, C6, F16, U7, U8), beyond the demands, which hold of volumes as they did, and since order 7 of meshes too.
use Rattle.std.specs.Prelude.{ℕ, zero, suc, ◌<◌, ◌≤◌, ◌+◌, ◌-◌, ◌^◌, ◌≡◌, Bool, true, false, not, ◌&&◌, ◌||◌, ◌↔◌, eqb, leb, length, take, get_or, Ok}
use Rattle.std.proofs.Math.Option.{none}
use mathlib.Core.List.{List, [], ◌∷◌, ◌++◌, Memᴰ, map}
use Rattle.refusal.specs.Choice.{pick}
use Rattle.refusal.specs.Checks.{Check, check, left, answered_at}
use Rattle.refusal.specs.Result.{Result, count_result}
use Rattle.refusal.specs.Buffer.{over, room}
use Rattle.refusal.specs.Answers.{refuse}
use Rattle.morton.specs.declared.grid.Cell.{Cell}
use Rattle.morton.specs.declared.grid.Extents.{Extents}
use Rattle.morton.specs.declared.bounds.Point.{Point}
use Rattle.morton.specs.declared.grid.Volume.{Volume}
use Rattle.morton.specs.grid.Grid.{grid_of, zero_extent, InU32}
use Rattle.morton.specs.Key.{too_many_bits, key_of, cell_of, is_key}
use Rattle.morton.specs.Answers.{key_answer}
use Rattle.morton.specs.batch.Batch.{each_in_grid, keys_of, keys_answer, keys_left}
use Rattle.morton.specs.spread.Spread.{Spreads, Placed}
use Rattle.morton.specs.plan.Parts.{low_key, rest_key, Shared}
use Rattle.morton.specs.rows.Row.{row_of}
use Rattle.cover.specs.overlap.Cover.{cover_keys, cover_answer, cover_left}
use Rattle.cover.specs.overlap.Meaning.{SharesVoxel, RisingFrom, reversed, outside_volume}
use Rattle.sharding.specs.declared.Sharding.{Sharding}
use Rattle.sharding.specs.Specification.{volume, mesh, is_mesh, minishard_bits_of, minishard_count_of, allowed, no_such_shard}
use Rattle.sharding.specs.placement.Place.{minishard_of, place_checks}
use Rattle.sharding.specs.batch.Batch.{shards_of, minishards_of, places_checks}
use Rattle.sharding.specs.Before.{most_minishard_bits_before, allowed_before}
use Rattle.names.specs.Shards.{shard_name, shard_name_checks}
use Rattle.shard.specs.declared.CheckAnswer.TheVariants.{Sound, Faulty}
use Rattle.shard.specs.index.Index.{entry_start_of, entry_end_of, entry_count, start_steps, chunk_at, most_shard_bytes}
use Rattle.mesh_manifest.specs.nodes.Nodes.{fragments_length_of}
use Rattle.shard.specs.File.{index_part, data_part, file_checks, shard_checks, check_answer, check_result}
use Rattle.shard.specs.Before.{PassedBefore}
use Rattle.shard.specs.Sound.{SoundMinishard, SoundShard}
use Rattle.mesh_manifest.specs.sound.Soundness.{Sound as Manifest}
use Rattle.unlisted.specs.ranges.Ranges.{count_in, chunk_start, Unlisted}
use Rattle.bitmap.specs.Positions.{misses}
use Rattle.unlisted.specs.ranges.Covered.{covered_at, file_unlisted}
use Rattle.unlisted.specs.Answers.{unlisted_answer}
use Rattle.lookup.specs.declared.id_search.LookupAnswer.TheVariants as L
use Rattle.lookup.specs.Find.{lookup_answer, lookup_result}
use Rattle.lookup.specs.fragments.Fragment.{fragment_answer}
use Rattle.refusal.specs.declared.CountAnswer.TheVariants as N
use Rattle.lookup.specs.listings.Listing.{count_answer, listing_answer}
use Rattle.settled_form.specs.Content.{file_content, file_form, file_form_length}
use Rattle.settled_form.specs.Form.{parts_length}
use Rattle.settled_form.specs.Before.{Pair, settled_before, pairs_from, pair_before, file_form_before_mesh}
use Rattle.settle.specs.answers.Answers.{length_check, settle_check, length_answer, settle_answer, settle_left}
use Rattle.split_shard.specs.Answers.{pair_check, pair_lookup, pair_fragment}
use Rattle.split_shard.specs.form.Answers.{pair_count, pair_listing, pair_unlisted, pair_length, pair_settle}
use Rattle.holdings.specs.measures.Answers.{measure_answer, pair_measure, measure_result}
use Rattle.positions.specs.Points.{PointsAt, Named}
use Rattle.card.specs.declared.Card.{Card}
use Rattle.card.specs.Layout.{card_bytes, Ranged}
use Rattle.card.specs.Answers.{record_checks, read_answer, write_answer, write_left}
use Rattle.card.specs.older_readers.Before.{card_bytes_before_mesh, read_answer_before_mesh, MeshCard, record_checks_before, read_answer_before, NewCard}
use Rattle.info.specs.Answers.{info_answer}
use Rattle.theorems.specs.Kept.{file_checks_before, check_before, lookup_before, settle_before, settle_left_before}

-- what k minishards from minishard m on listed before order 2, by exact sums, as it stands: ids rose, so nothing was sorted
unfoldable pub listed_before : List ℕ → List ℕ → ℕ → ℕ → List (List Pair)
listed_before index d m zero = []
listed_before index d m (suc k) =
    let s = entry_start_of index m in
    let n = entry_count s (entry_end_of index m) in
    pairs_from (pair_before d s n) 0 n ∷ listed_before index d (suc m) k

-- the settled form of it, restated (RULES U8)
unfoldable pub form_before : Sharding → List ℕ → List ℕ
form_before spec file = settled_before (listed_before (index_part spec file) (data_part spec file) 0 (minishard_count_of spec))

-- Order 2: "a shard that passed before settles to the bytes it did before". (RULES F16, U8)
pub record Order2 : Type 0 where
  -- a shard that passed before passes now,
  pub passes : (spec : Sharding) (shard : ℕ) (a : List ℕ) → PassedBefore spec shard a → check_answer spec shard a ≡ Sound
  -- its settled form is what it was,
  pub form : (spec : Sharding) (shard : ℕ) (a : List ℕ) → PassedBefore spec shard a → file_form spec a ≡ form_before spec a
  -- and where that has room, settling, asked to drop what is unlisted as it always did, writes these bytes and reports their length.
  pub settles : (spec : Sharding) (shard : ℕ) (a out : List ℕ) → PassedBefore spec shard a → length (form_before spec a) ≤ length out → length (form_before spec a) ≤ most_shard_bytes
      → (settle_answer spec shard a true out ≡ N.Count (length (form_before spec a))) × (settle_left spec shard a true out ≡ over (form_before spec a) out)

-- Order 4: "Existing shards and cards keep their bytes and meaning." Since order 7 it "speaks of volume cards". (RULES S9, C6)
pub record Order4 : Type 0 where
  -- What was allowed before is allowed now;
  pub allows : (spec : Sharding) → allowed_before spec ≡ true → allowed spec ≡ true
  -- with it every file is checked, looked up and settled as it was: the answers, and what settling leaves, are those kept from before;
  pub check_kept : (spec : Sharding) (shard : ℕ) (file : List ℕ) → allowed_before spec ≡ true → check_answer spec shard file ≡ check_before spec shard file
  pub lookup_kept : (spec : Sharding) (shard : ℕ) (file : List ℕ) (id : ℕ) → allowed_before spec ≡ true → lookup_answer spec shard file id ≡ lookup_before spec shard file id
  pub settle_kept : (spec : Sharding) (shard : ℕ) (file out : List ℕ) → allowed_before spec ≡ true
      → (settle_answer spec shard file true out ≡ settle_before spec shard file out) × (settle_left spec shard file true out ≡ settle_left_before spec shard file out)
  -- and the checks of a place, of places, of a shard's name, of other calls on a shard and of a card's record are what they were.
  pub places : (spec : Sharding) → allowed_before spec ≡ true → place_checks spec ≡ check 1 (not (allowed_before spec)) ∷ []
  pub batches : (spec : Sharding) (ids shards minishards : List ℕ) → allowed_before spec ≡ true
      → places_checks spec ids shards minishards ≡ check 1 (not (allowed_before spec)) ∷ room (shards_of spec ids) shards ∷ room (minishards_of spec ids) minishards ∷ []
  pub names : (spec : Sharding) (shard : ℕ) (out : List ℕ) → allowed_before spec ≡ true
      → shard_name_checks spec shard out ≡ check 1 (not (allowed_before spec)) ∷ check 5 (no_such_shard spec shard) ∷ room (shard_name spec shard) out ∷ []
  pub files : (spec : Sharding) (five : Bool) (file : List ℕ) → allowed_before spec ≡ true → file_checks spec five file ≡ file_checks_before spec five file
  pub records : (c : Card) → allowed_before c.sharding ≡ true → record_checks c ≡ record_checks_before c
  -- "A card with 13 to 16 is written in the same field,
  pub field : (c : Card) → get_or (card_bytes c) 11 0 ≡ minishard_bits_of c.sharding
  -- and the old reading room answers it with 1; show that it never answers otherwise."
  pub written : (c : Card) (out : List ℕ) (n : ℕ) → Ranged c → write_answer c out ≡ Ok n → c.sharding.kind ≡ volume
      → most_minishard_bits_before < minishard_bits_of c.sharding → read_answer_before (take n (write_left c out)) ≡ refuse 1
  pub new : (s : List ℕ) → NewCard s → read_answer_before s ≡ refuse 1
  -- It answers all other bytes but mesh cards as they are answered now,
  pub other : (s : List ℕ) → (MeshCard s → ⊥) → (NewCard s → ⊥) → read_answer_before s ≡ read_answer s
  -- and what it read is read so now.
  pub read : (s : List ℕ) (c : Card) → read_answer_before s ≡ Ok c → read_answer s ≡ Ok c

-- Order 5: "List the keys of all grid cells that share a voxel with the box, each once, in rising key order."
pub record Order5 : Type 0 where
  -- A number is listed exactly when it is a key of the grid and there is a voxel in that key's cell and in the box;
  pub listed : (v : Volume) (lower upper : Point) (k : ℕ)
      → Memᴰ k (cover_keys v lower upper) ↔ ((is_key (grid_of v) k ≡ true) × SharesVoxel v lower upper (cell_of (grid_of v) k))
  -- the same of each cell and the key that it is answered with.
  pub cells : (v : Volume) (lower upper : Point) (c : Cell) (k : ℕ) → InU32 v.size → key_answer v c ≡ Ok k
      → Memᴰ k (cover_keys v lower upper) ↔ SharesVoxel v lower upper c
  -- Each is above the one before it, so none stands twice.
  pub rising : (v : Volume) (lower upper : Point) → RisingFrom 0 (cover_keys v lower upper)
  -- "an empty or reversed one, or one outside the volume, lists none".
  pub empty : (v : Volume) (lower upper : Point) → reversed lower upper ≡ true → cover_keys v lower upper ≡ []
  pub beside : (v : Volume) (lower upper : Point) → outside_volume v lower upper ≡ true → cover_keys v lower upper ≡ []
  -- Where nothing is refused, the keys stand at the front of the output, which is as it was past them, and "the count returned is the
  -- number of keys".
  pub written : (v : Volume) (lower upper : Point) (out : List ℕ) → zero_extent v ≡ false → too_many_bits (grid_of v) ≡ false
      → length (cover_keys v lower upper) ≤ length out
      → (cover_answer v lower upper out ≡ Ok (length (cover_keys v lower upper))) × (cover_left v lower upper out ≡ over (cover_keys v lower upper) out)

-- the refusals that carry a position: 7 to 11, 15 to 17 and 21
abbrev pub is_placed : ℕ → Bool
is_placed k = (leb 7 k && leb k 11) || (leb 15 k && leb k 17) || eqb k 21

-- a result names a position exactly where its number is one of these
abbrev pub Carries : {A : Type 0} → Result A → Type 0
Carries r = (r.position ≡ none) ↔ (is_placed r.number ≡ false)

-- Order 6: "Refusals 7 to 11 now carry a byte position in the shard: for 7 and 8 the index entry, for 9 and 10 the id step of the first
-- offending entry, for 11 its start step. For 9 the offending entry is the later of the pair." Since order 7 also those of a mesh's manifests, 15 to 17
-- and 21: "all four carry what 11 carries".
pub record Order6 : Type 0 where
  -- the position that comes with a refusal is the place of the very bytes: of the minishard that the check names,
  pub check : (spec : Sharding) (shard : ℕ) (file : List ℕ) (k m p : ℕ) → check_answer spec shard file ≡ Faulty k m p → PointsAt spec shard file m k p
  -- of the minishard of the id that is looked up,
  pub lookup : (spec : Sharding) (shard : ℕ) (file : List ℕ) (id k p : ℕ) → lookup_answer spec shard file id ≡ L.Faulty k p → PointsAt spec shard file (minishard_of spec id) k p
  pub fragment : (spec : Sharding) (shard : ℕ) (file : List ℕ) (id level node k p : ℕ) → fragment_answer spec shard file id level node ≡ L.Faulty k p → PointsAt spec shard file (minishard_of spec id) k p
  -- of the minishard that is listed.
  pub count : (spec : Sharding) (shard : ℕ) (file : List ℕ) (m k p : ℕ) → count_answer spec shard file m ≡ N.Faulty k p → PointsAt spec shard file m k p
  pub listing : (spec : Sharding) (shard : ℕ) (file : List ℕ) (m : ℕ) (out : List ℕ) (k p : ℕ) → listing_answer spec shard file m out ≡ N.Faulty k p → PointsAt spec shard file m k p
  -- Settling, and the count of unlisted bytes, give what the check gives, without the minishard.
  pub unlisted : (spec : Sharding) (shard : ℕ) (file : List ℕ) (k p : ℕ) → unlisted_answer spec shard file ≡ N.Faulty k p → Named spec shard file k p
  pub form_length : (spec : Sharding) (shard : ℕ) (file : List ℕ) (k p : ℕ) (dropping : Bool) → length_answer spec shard file dropping ≡ N.Faulty k p → Named spec shard file k p
  pub settle : (spec : Sharding) (shard : ℕ) (file : List ℕ) (dropping : Bool) (out : List ℕ) (k p : ℕ) → settle_answer spec shard file dropping out ≡ N.Faulty k p → Named spec shard file k p
  -- "Refusals 7 to 11 now carry a byte position", and 15 to 17 and 21 of a listed manifest, always; no other refusal ever does. "All who pass these refusals on,
  -- from lookup to settling, pass the position too": of each call on a file, and on a pair.
  pub check_carries : (spec : Sharding) (shard : ℕ) (file : List ℕ) → Carries (check_result (check_answer spec shard file))
  pub lookup_carries : (spec : Sharding) (shard : ℕ) (file : List ℕ) (id : ℕ) → Carries (lookup_result (lookup_answer spec shard file id))
  pub fragment_carries : (spec : Sharding) (shard : ℕ) (file : List ℕ) (id level node : ℕ) → Carries (lookup_result (fragment_answer spec shard file id level node))
  pub count_carries : (spec : Sharding) (shard : ℕ) (file : List ℕ) (m : ℕ) → Carries (count_result (count_answer spec shard file m))
  pub listing_carries : (spec : Sharding) (shard : ℕ) (file : List ℕ) (m : ℕ) (out : List ℕ) → Carries (count_result (listing_answer spec shard file m out))
  pub unlisted_carries : (spec : Sharding) (shard : ℕ) (file : List ℕ) → Carries (count_result (unlisted_answer spec shard file))
  pub form_length_carries : (spec : Sharding) (shard : ℕ) (file : List ℕ) (dropping : Bool) → Carries (count_result (length_answer spec shard file dropping))
  pub settle_carries : (spec : Sharding) (shard : ℕ) (file : List ℕ) (dropping : Bool) (out : List ℕ) → Carries (count_result (settle_answer spec shard file dropping out))
  pub measure_carries : (spec : Sharding) (shard : ℕ) (file : List ℕ) → Carries (measure_result (measure_answer spec shard file))
  pub check_of_pair_carries : (spec : Sharding) (shard : ℕ) (index d : List ℕ) → Carries (check_result (pair_check spec shard index d))
  pub lookup_of_pair_carries : (spec : Sharding) (shard : ℕ) (index d : List ℕ) (id : ℕ) → Carries (lookup_result (pair_lookup spec shard index d id))
  pub fragment_of_pair_carries : (spec : Sharding) (shard : ℕ) (index d : List ℕ) (id level node : ℕ) → Carries (lookup_result (pair_fragment spec shard index d id level node))
  pub count_of_pair_carries : (spec : Sharding) (shard : ℕ) (index d : List ℕ) (m : ℕ) → Carries (count_result (pair_count spec shard index d m))
  pub listing_of_pair_carries : (spec : Sharding) (shard : ℕ) (index d : List ℕ) (m : ℕ) (out : List ℕ) → Carries (count_result (pair_listing spec shard index d m out))
  pub unlisted_of_pair_carries : (spec : Sharding) (shard : ℕ) (index d : List ℕ) → Carries (count_result (pair_unlisted spec shard index d))
  pub form_length_of_pair_carries : (spec : Sharding) (shard : ℕ) (index d : List ℕ) (dropping : Bool) → Carries (count_result (pair_length spec shard index d dropping))
  pub settle_of_pair_carries : (spec : Sharding) (shard : ℕ) (index d : List ℕ) (dropping : Bool) (out : List ℕ) → Carries (count_result (pair_settle spec shard index d dropping out))
  pub measure_of_pair_carries : (spec : Sharding) (shard : ℕ) (index d : List ℕ) → Carries (measure_result (pair_measure spec shard index d))

-- the specification, of a volume
abbrev pub as_volume : Sharding → Sharding
as_volume spec = record { preshift = spec.preshift; hash = spec.hash; minishard_bits = spec.minishard_bits; shard_bits = spec.shard_bits; kind = volume }

-- each chunk of minishard m is a sound manifest, and the sum of its sizes is at most its start
pub record Manifests (index d : List ℕ) (m : ℕ) : Type 0 where
  pub sound : (i : ℕ) → i < count_in index m → Manifest (chunk_at d (entry_start_of index m) (count_in index m) i)
  pub behind : (i : ℕ) → i < count_in index m → fragments_length_of (chunk_at d (entry_start_of index m) (count_in index m) i) ≤ chunk_start index d m i

-- of minishard m of a file: the number of its entries, and the start step and the chunk of entry i
abbrev pub entries_in : Sharding → List ℕ → ℕ → ℕ
entries_in spec file m = entry_count (entry_start_of (index_part spec file) m) (entry_end_of (index_part spec file) m)

abbrev pub start_step_in : Sharding → List ℕ → ℕ → ℕ → ℕ
start_step_in spec file m = start_steps (data_part spec file) (entry_start_of (index_part spec file) m) (entries_in spec file m)

abbrev pub chunk_in : Sharding → List ℕ → ℕ → ℕ → List ℕ
chunk_in spec file m = chunk_at (data_part spec file) (entry_start_of (index_part spec file) m) (entries_in spec file m)

-- where minishard m of the settled form begins: behind those before it
abbrev pub place_in : Sharding → List ℕ → ℕ → ℕ
place_in spec file m = parts_length (take m (file_content spec file))

-- Order 7: "In a mesh shard each chunk must be a sound manifest, and its fragments are the bytes before it, as many as the sum of its sizes." The
-- demands say it of both kinds. "card tag 8, one byte of 1, means mesh and is absent for volume, so a mesh card has 50 or 65 bytes. Readers from before answer it
-- with 14, so order 4 now speaks of volume cards; the info reader yields volume." (RULES C6, U8)
pub record Order7 : Type 0 where
  -- A minishard of a mesh is sound exactly where, taken for a volume's, it is sound, and each of its chunks is a sound manifest whose fragments do not start
  -- before the index end.
  pub manifests : (spec : Sharding) (shard : ℕ) (index d : List ℕ) (m : ℕ) → spec.kind ≡ mesh
      → SoundMinishard spec shard index d m ↔ (SoundMinishard (as_volume spec) shard index d m × Manifests index d m)
  -- The settled form of a volume is what it was, whatever the file.
  pub form : (spec : Sharding) (a : List ℕ) → is_mesh spec ≡ false → file_form spec a ≡ file_form_before_mesh spec a
  -- "The settled form puts the fragments first, so each start step is the sum of that manifest's sizes, plus the minishard's place for the first."
  pub starts : (spec : Sharding) (shard : ℕ) (a : List ℕ) (m i : ℕ) → is_mesh spec ≡ true → SoundShard spec shard a → length (file_form spec a) ≤ most_shard_bytes
      → m < minishard_count_of spec → i < entries_in spec (file_form spec a) m
      → start_step_in spec (file_form spec a) m i ≡ pick (eqb i 0) (place_in spec a m) 0 + fragments_length_of (chunk_in spec (file_form spec a) m i)
  -- The reader from before this order, and the one from before order 4, answer 14 to what is written now of a mesh, and to every mesh
  -- card, whoever made it.
  pub written : (c : Card) (out : List ℕ) (n : ℕ) → write_answer c out ≡ Ok n → c.sharding.kind ≡ mesh
      → (read_answer_before_mesh (take n (write_left c out)) ≡ refuse 14) × (read_answer_before (take n (write_left c out)) ≡ refuse 14)
  pub cards : (s : List ℕ) → MeshCard s → (read_answer_before_mesh s ≡ refuse 14) × (read_answer_before s ≡ refuse 14)
  -- All other bytes the reader from before this order answers as they are answered now,
  pub other : (s : List ℕ) → (MeshCard s → ⊥) → read_answer_before_mesh s ≡ read_answer s
  -- and the card of a volume has the bytes that it had, to which that of a mesh adds tag 8, a length of 1 and the one byte of 1.
  pub bytes : (c : Card) → c.sharding.kind ≡ volume → card_bytes c ≡ card_bytes_before_mesh c
  pub mesh_bytes : (c : Card) → c.sharding.kind ≡ mesh → card_bytes c ≡ card_bytes_before_mesh c ++ (8 ∷ 1 ∷ 0 ∷ 1 ∷ [])
  -- There is no third kind: 1.
  pub kinds : (spec : Sharding) → mesh < spec.kind → allowed spec ≡ false
  -- "the info reader yields volume".
  pub info : (s : List ℕ) (k : ℕ) (c : Card) → info_answer s k ≡ Ok c → c.sharding.kind ≡ volume

-- the checks of settling and of its length before order 8: those of the check, then 13 (RULES U7)
unfoldable pub settle_checks_before : Sharding → ℕ → List ℕ → List ℕ → List Check
settle_checks_before spec shard file out = shard_checks spec shard file ++ (settle_check spec (index_part spec file) (data_part spec file) out ∷ [])

unfoldable pub length_checks_before : Sharding → ℕ → List ℕ → List Check
length_checks_before spec shard file = shard_checks spec shard file ++ (length_check spec (index_part spec file) (data_part spec file) ∷ [])

-- Order 8: "Settling now refuses such a shard unless the caller asks to drop them." (RULES U7)
pub record Order8 : Type 0 where
  -- "An unlisted byte lies past the shard index in no listed chunk, no fragment and no nonempty minishard index." Their number, which a sound
  -- shard is answered with, is that of the positions of the data that the test misses, and these are the unlisted ones; it is 0 exactly when there
  -- is none.
  pub counted : (spec : Sharding) (shard : ℕ) (a : List ℕ) → SoundShard spec shard a → unlisted_answer spec shard a ≡ N.Count (file_unlisted spec a)
  pub number : (spec : Sharding) (a : List ℕ) → file_unlisted spec a ≡ misses (covered_at spec (index_part spec a) (data_part spec a)) (length (data_part spec a))
  pub missed : (spec : Sharding) (a : List ℕ) (p : ℕ) → p < length (data_part spec a)
      → (covered_at spec (index_part spec a) (data_part spec a) p ≡ false) ↔ Unlisted spec (index_part spec a) (data_part spec a) p
  pub none : (spec : Sharding) (a : List ℕ) → (file_unlisted spec a ≡ 0) ↔ ((p : ℕ) → Unlisted spec (index_part spec a) (data_part spec a) p → ⊥)
  -- A sound shard that has one is refused with 22, whatever the output's length, and the output is as it was;
  pub refused : (spec : Sharding) (shard : ℕ) (a out : List ℕ) (p : ℕ) → SoundShard spec shard a → Unlisted spec (index_part spec a) (data_part spec a) p
      → (settle_answer spec shard a false out ≡ N.Refused 22) × (settle_left spec shard a false out ≡ out)
  pub unmeasured : (spec : Sharding) (shard : ℕ) (a : List ℕ) (p : ℕ) → SoundShard spec shard a → Unlisted spec (index_part spec a) (data_part spec a) p → length_answer spec shard a false ≡ N.Refused 22
  -- asked to drop them, settling answers and writes what it did before there was a choice: the check's refusals, then 13; so does the settled length.
  pub asked : (spec : Sharding) (shard : ℕ) (a out : List ℕ)
      → (settle_answer spec shard a true out ≡ answered_at N.Refused N.Faulty (settle_checks_before spec shard a out) (N.Count (file_form_length spec a)))
      × (settle_left spec shard a true out ≡ left (settle_checks_before spec shard a out) (over (file_form spec a) out) out)
  pub asked_length : (spec : Sharding) (shard : ℕ) (a : List ℕ)
      → length_answer spec shard a true ≡ answered_at N.Refused N.Faulty (length_checks_before spec shard a) (N.Count (file_form_length spec a))
  -- A settled form has none.
  pub form : (spec : Sharding) (shard : ℕ) (a : List ℕ) → SoundShard spec shard a → length (file_form spec a) ≤ most_shard_bytes → file_unlisted spec (file_form spec a) ≡ 0

-- Order 9: "For the low bits that all three axes share, use a table of 256 spread bytes, entry b having bit k of b at place 3k; finish the
-- rest plainly."
pub record Order9 : Type 0 where
  -- What is asked of the table: bit k of b is at place 3 × k of entry b, the two places after it are empty, and no bit is above these.
  pub entries : (t : List ℕ) → Spreads t → (b : ℕ) → b < 256 → (k : ℕ) → k < 8 → Placed (get_or t b 0) b k
  pub ends : (t : List ℕ) → Spreads t → (b : ℕ) → b < 256 → get_or t b 0 < 2 ^ 24
  -- RULES G10, agreement with the steps of G5 in each grid and of each cell: however many of the turns that all three axes share are
  -- spread, with the rest by the steps it is the key.
  pub agrees : (g : Extents) (c : Cell) (n : ℕ) → InU32 g → ((i : ℕ) → i < n → Shared g i) → low_key n c + rest_key n g c ≡ key_of g c
  -- Many cells in a call, where nothing is refused: the keys by the steps stand at the front of the output, in the cells' order, and the
  -- output is as it was past them;
  pub written : (v : Volume) (cells : List Cell) (out : List ℕ) → zero_extent v ≡ false → each_in_grid (grid_of v) cells ≡ true → too_many_bits (grid_of v) ≡ false
      → length cells ≤ length out
      → (keys_answer v cells out ≡ Ok (length cells)) × (keys_left v cells out ≡ over (map (key_of (grid_of v)) cells) out)
  -- they are those that each cell is answered with alone.
  pub alone : (v : Volume) (cells : List Cell) (out : List ℕ) {n : ℕ} → keys_answer v cells out ≡ Ok n
      → (n ≡ length cells) × (map (key_answer v) cells ≡ map Ok (keys_of v cells))
  -- The cells of a row are those with x from one number up to another, that end excluded, at one y and z, and there are as many.
  pub row : (y z from to : ℕ) (c : Cell) → Memᴰ c (row_of from to y z) ↔ ((from ≤ c.x) × (c.x < to) × (c.y ≡ y) × (c.z ≡ z))
  pub count : (from to y z : ℕ) → length (row_of from to y z) ≡ to - from
