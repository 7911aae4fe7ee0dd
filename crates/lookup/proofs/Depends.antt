-- What a lookup's answer depends on (RULES L4): the file's length, one index entry, that minishard's index, of a mesh every
-- manifest that it lists, and the chunk handed out.
use Rattle.std.proofs.Common.{◌≡◌, ℕ, zero, suc, ◌+◌, ◌-◌, ◌*◌, ◌<◌, ◌≤◌, min, Bool, true, false, not, eqb, List, [], length, take, drop, sym, refl, ap, ◌∙◌, arith, length-drop, length-take}
use Rattle.refusal.specs.Choice.{pick}
use Rattle.duplicate_ids.specs.Twice.{repeats}
use Rattle.endian.specs.Little.{le_at}
use Rattle.endian.specs.Range.{sum_to, any_below, first}
use Rattle.endian.proofs.Ranges.{first-lt}
use Rattle.endian.proofs.Little.{le_at-drop, le_at-take}
use Rattle.sharding.specs.declared.Sharding.{Sharding}
use Rattle.sharding.specs.Specification.{is_mesh, minishard_count_of}
use Rattle.sharding.specs.placement.Place.{minishard_of}
use Rattle.sharding.proofs.placement.Placed.{minishard-below}
use Rattle.shard.specs.index.Index.{entry_start_of, entry_end_of, entry_count, id_steps, start_steps, sizes, id_at, start_at, chunk_at}
use Rattle.shard.specs.manifests.Mesh.{wrong_length, bad_real, unordered_nodes, fragments_outside, manifest_tests}
use Rattle.shard.specs.Faults.{bad_entry, bad_id, foreign_at, ends_past, mesh_tests, entry_tests, fault_at, fault_of}
use Rattle.shard.specs.File.{index_length_of, index_part, data_part, file_checks}
use Rattle.shard.proofs.index.Tests.{Agree, same-any, same_first, same_tests}
use Rattle.lookup.specs.declared.id_search.LookupAnswer.{LookupAnswer}
use Rattle.lookup.specs.declared.id_search.LookupAnswer.TheVariants.{Found, Refused, Faulty}
use Rattle.lookup.specs.id_search.Search.{is_id, chunk_of, found_in}
use Rattle.lookup.specs.chosen_minishard.Chosen.{lookup_in}
use Rattle.lookup.specs.Find.{lookup_answer, part_bytes}
use Rattle.lookup.specs.Lookups.{chunk_bytes, index_bytes, AgreeFor, AgreeInChunk, SameAnswer}
use Rattle.lookup.proofs.id_search.Seek.{found_picks}
use Rattle.lookup.proofs.chosen_minishard.InParts.{in_parts}
use Rattle.lookup.proofs.Answers.{answer-files}
use Rattle.lookup.proofs.Handed.{found-file, chosen_entry, found-bytes}

-- ---- rows that are alike in their first n numbers

abbrev pub Alike : ℕ → (ℕ → ℕ) → (ℕ → ℕ) → Type 0
Alike n f g = (i : ℕ) → i < n → f i ≡ g i

same_sum : (f g : ℕ → ℕ) (n : ℕ) → Alike n f g → sum_to f n ≡ sum_to g n
unfolding sum_to
same_sum f g zero p = refl
same_sum f g (suc n) p = rw (same_sum f g n (λ i l. p i (omega arith)), p n (omega arith))

module _ (f g : ℕ → ℕ) (n : ℕ) (p : Alike n f g) where
  same_id : (i : ℕ) → i < n → id_at f i ≡ id_at g i
  unfolding id_at
  same_id i l = rw (same_sum f g (suc i) (λ j h. p j (omega arith)))

  pub same_bad : (i : ℕ) → i < n → bad_id f i ≡ bad_id g i
  unfolding repeats
  same_bad i l = same-any (λ j. eqb (id_at f j) (id_at f i)) (λ j. eqb (id_at g j) (id_at g i)) i (λ j h. rw (same_id j (omega arith), same_id i l))

  pub same-foreign : (spec : Sharding) (shard m i : ℕ) → i < n → foreign_at spec shard m f i ≡ foreign_at spec shard m g i
  unfolding foreign_at
  same-foreign spec shard m i l = rw (same_id i l)

  pub same-is : (id i : ℕ) → i < n → is_id f id i ≡ is_id g id i
  unfolding is_id
  same-is id i l = rw (same_id i l)

module _ (f g h k : ℕ → ℕ) (n : ℕ) (p : Alike n f g) (q : Alike n h k) where
  pub same_start : (i : ℕ) → i < n → start_at f h i ≡ start_at g k i
  unfolding start_at
  same_start i l = rw (same_sum f g (suc i) (λ j t. p j (omega arith)), same_sum h k i (λ j t. q j (omega arith)))

  pub same_outside : {len len' : ℕ} → len ≡ len' → (i : ℕ) → i < n → ends_past len f h i ≡ ends_past len' g k i
  unfolding ends_past
  same_outside o i l = rw (o, same_start i l, q i l)

-- ---- data that agree in a minishard index and, of a mesh, in the manifests that it lists

abbrev AlikeChunks : Sharding → List ℕ → List ℕ → ℕ → ℕ → Type 0
AlikeChunks spec a b s n = is_mesh spec ≡ true → (i : ℕ) → i < n → chunk_at a s n i ≡ chunk_at b s n i

module _ (a b : List ℕ) (s e : ℕ) (size : length a ≡ length b) (bytes : take (e - s) (drop s a) ≡ take (e - s) (drop s b)) where
  same_number : (j : ℕ) → j + 8 ≤ e - s → le_at 8 a (s + j) ≡ le_at 8 b (s + j)
  same_number j l =
      sym (le_at-take 8 (drop s a) (e - s) j l ∙ le_at-drop 8 a s j)
      ∙ ap (λ (t : List ℕ). le_at 8 t j) bytes
      ∙ le_at-take 8 (drop s b) (e - s) j l
      ∙ le_at-drop 8 b s j

  same_row : (p k : ℕ) → s + (p - s) ≡ p → (p - s) + 8 * k ≤ e - s → (i : ℕ) → i < k → le_at 8 a (p + 8 * i) ≡ le_at 8 b (p + 8 * i)
  same_row p k o l i h =
      let at : s + (p - s + 8 * i) ≡ p + 8 * i = omega arith in
      rw at at (same_number (p - s + 8 * i) (omega arith))

  same-ids : Alike (entry_count s e) (id_steps a s) (id_steps b s)
  same-ids = same_row s (entry_count s e) (omega arith) (omega arith)

  same-starts : Alike (entry_count s e) (start_steps a s (entry_count s e)) (start_steps b s (entry_count s e))
  same-starts = same_row (s + 8 * entry_count s e) (entry_count s e) (omega arith) (omega arith)

  same-sizes : Alike (entry_count s e) (sizes a s (entry_count s e)) (sizes b s (entry_count s e))
  same-sizes = same_row (s + 16 * entry_count s e) (entry_count s e) (omega arith) (omega arith)

  agree_manifests : ((i : ℕ) → i < entry_count s e → chunk_at a s (entry_count s e) i ≡ chunk_at b s (entry_count s e) i)
      → Agree (entry_count s e) (manifest_tests a s (entry_count s e)) (manifest_tests b s (entry_count s e))
  unfolding manifest_tests wrong_length bad_real unordered_nodes fragments_outside
  agree_manifests alike = (
    refl,
    refl,
    λ i l. rw (alike i l),
    (
      refl,
      refl,
      λ i l. rw (alike i l),
      (refl, refl, λ i l. rw (alike i l), (refl, refl, λ i l. rw (alike i l, same_start _ _ _ _ _ same-starts same-sizes i l), tt)),
    ),
  )

  module _ (spec : Sharding) (alike : AlikeChunks spec a b s (entry_count s e)) where
    agree_mesh : Agree (entry_count s e) (mesh_tests spec a s (entry_count s e)) (mesh_tests spec b s (entry_count s e))
    agree_mesh = go (is_mesh spec) refl
      where
        go : (t : Bool) → is_mesh spec ≡ t → Agree (entry_count s e) (pick t (manifest_tests a s (entry_count s e)) []) (pick t (manifest_tests b s (entry_count s e)) [])
        go true h = agree_manifests (alike h)
        go false h = tt

    agree : (shard m : ℕ) → Agree (entry_count s e) (entry_tests spec shard m a s (entry_count s e)) (entry_tests spec shard m b s (entry_count s e))
    unfolding entry_tests
    agree shard m = (
      refl,
      refl,
      same_bad _ _ _ same-ids,
      (refl, refl, same-foreign _ _ _ same-ids spec shard m, (refl, refl, same_outside _ _ _ _ _ same-starts same-sizes size, agree_mesh)),
    )

    same-fault : (shard m base : ℕ) → fault_at spec shard m base a s e ≡ fault_at spec shard m base b s e
    unfolding fault_at bad_entry
    same-fault shard m base =
        let n = entry_count s e in
        rw (size, same_tests (base + s) n (entry_tests spec shard m a s n) (entry_tests spec shard m b s n) (agree shard m))

  same-chunk : (base i : ℕ) (t : Bool) → (t ≡ true → i < entry_count s e)
      → pick (not t) (Refused 12) (Found (base + start_at (start_steps a s (entry_count s e)) (sizes a s (entry_count s e)) i) (sizes a s (entry_count s e) i))
      ≡ pick (not t) (Refused 12) (Found (base + start_at (start_steps b s (entry_count s e)) (sizes b s (entry_count s e)) i) (sizes b s (entry_count s e) i))
  same-chunk base i true l = rw (same_start _ _ _ _ _ same-starts same-sizes i (l refl), same-sizes i (l refl))
  same-chunk base i false l = refl

  same-found : (base id : ℕ) → found_in base a s (entry_count s e) id ≡ found_in base b s (entry_count s e) id
  unfolding chunk_of
  same-found base id =
      let n = entry_count s e in
      let any = same-any (is_id (id_steps a s) id) (is_id (id_steps b s) id) n (same-is _ _ _ same-ids id) in
      let at = same_first (is_id (id_steps a s) id) (is_id (id_steps b s) id) n (same-is _ _ _ same-ids id) in
      rw (found_picks base a s n id, found_picks base b s n id, any, at)
      (same-chunk base (first (is_id (id_steps b s) id) n) (any_below n (is_id (id_steps b s) id)) (first-lt (is_id (id_steps b s) id) n))

same_in : (spec : Sharding) (shard : ℕ) (x y a b : List ℕ) (id : ℕ) {s e : ℕ} → length x ≡ length y → length a ≡ length b
    → entry_start_of x (minishard_of spec id) ≡ s → entry_end_of x (minishard_of spec id) ≡ e → entry_start_of y (minishard_of spec id) ≡ s → entry_end_of y (minishard_of spec id) ≡ e
    → take (e - s) (drop s a) ≡ take (e - s) (drop s b) → AlikeChunks spec a b s (entry_count s e) → lookup_in spec shard x a id ≡ lookup_in spec shard y b id
unfolding fault_of
same_in spec shard x y a b id {s} {e} p q u v u' v' w c =
    rw (in_parts spec shard x a id, in_parts spec shard y b id, p, u, v, u', v', same-fault a b s e q w spec c shard (minishard_of spec id) (length y), same-found a b s e q w (length y) id)

-- ---- files

-- a number of the entry, read in the index part of a file, stands in the 16 bytes of the entry
entry-number : (spec : Sharding) (m j : ℕ) (a : List ℕ) → m < minishard_count_of spec → j + 8 ≤ 16 → le_at 8 (index_part spec a) (16 * m + j) ≡ le_at 8 (take 16 (drop (16 * m) a)) j
entry-number spec m j a l h =
    le_at-take 8 a (index_length_of spec) (16 * m + j) (omega arith)
    ∙ sym (le_at-take 8 (drop (16 * m) a) 16 j h ∙ le_at-drop 8 a (16 * m) j)

module _ (spec : Sharding) (shard id : ℕ) (a b : List ℕ) (agree : AgreeFor spec id a b) where
  same-entry : (j : ℕ) → j + 8 ≤ 16 → le_at 8 (index_part spec a) (16 * minishard_of spec id + j) ≡ le_at 8 (index_part spec b) (16 * minishard_of spec id + j)
  same-entry j h =
      entry-number spec (minishard_of spec id) j a (minishard-below spec id) h
      ∙ ap (λ (t : List ℕ). le_at 8 t j) agree.entry
      ∙ sym (entry-number spec (minishard_of spec id) j b (minishard-below spec id) h)

  starts-alike : entry_start_of (index_part spec a) (minishard_of spec id) ≡ entry_start_of (index_part spec b) (minishard_of spec id)
  starts-alike = let at : 16 * minishard_of spec id + 0 ≡ 16 * minishard_of spec id = omega arith in rw at at (same-entry 0 (omega arith))

  ends-alike : entry_end_of (index_part spec a) (minishard_of spec id) ≡ entry_end_of (index_part spec b) (minishard_of spec id)
  ends-alike = same-entry 8 (omega arith)

  data_alike : length (data_part spec a) ≡ length (data_part spec b)
  data_alike = length-drop (index_length_of spec) a ∙ ap (λ (n : ℕ). n - index_length_of spec) agree.size ∙ sym (length-drop (index_length_of spec) b)

  index-alike : take (entry_end_of (index_part spec b) (minishard_of spec id) - entry_start_of (index_part spec b) (minishard_of spec id)) (drop (entry_start_of (index_part spec b) (minishard_of spec id)) (data_part spec a))
      ≡ index_bytes spec b (minishard_of spec id)
  index-alike = rw (starts-alike, ends-alike) at agree.index

  -- the id stands at the same entry
  entry-alike : chosen_entry spec a id ≡ chosen_entry spec b id
  entry-alike =
      let s = entry_start_of (index_part spec b) (minishard_of spec id) in
      let e = entry_end_of (index_part spec b) (minishard_of spec id) in
      rw (starts-alike, ends-alike)
      (same_first (is_id (id_steps (data_part spec a) s) id) (is_id (id_steps (data_part spec b) s) id) (entry_count s e)
      (same-is _ _ _ (same-ids (data_part spec a) (data_part spec b) s e data_alike index-alike) id))

  answer-depends : lookup_answer spec shard a id ≡ lookup_answer spec shard b id
  unfolding file_checks
  answer-depends =
      rw (
        answer-files spec shard a id,
        answer-files spec shard b id,
        agree.size,
        same_in spec shard (index_part spec a) (index_part spec b) (data_part spec a) (data_part spec b) id
            (length-take (index_length_of spec) a ∙ ap (min (index_length_of spec)) agree.size ∙ sym (length-take (index_length_of spec) b))
            data_alike
            starts-alike
            ends-alike
            refl
            refl
            index-alike
            (rw (starts-alike, ends-alike) at agree.manifests),
      )

  -- of a mesh, the manifest handed out is among those in which they agree
  pub manifest-agrees : is_mesh spec ≡ true → AgreeInChunk spec shard id a b
  manifest-agrees h start n e =
      let f = found-file spec shard a id start n (answer-depends ∙ e) in
      found-bytes f
      ∙ agree.manifests h (chosen_entry spec a id) f.found.at.among
      ∙ ap (chunk_bytes spec b (minishard_of spec id)) entry-alike
      ∙ sym (found-bytes (found-file spec shard b id start n e))

  part-depends : AgreeInChunk spec shard id a b → part_bytes (lookup_answer spec shard a id) a ≡ part_bytes (lookup_answer spec shard b id) b
  part-depends chunk = rw answer-depends (go (lookup_answer spec shard b id) refl)
    where
      go : (r : LookupAnswer) → lookup_answer spec shard b id ≡ r → part_bytes r a ≡ part_bytes r b
      go (Found start n) e = chunk start n e
      go (Refused n) e = refl
      go (Faulty n p) e = refl

  -- a lookup depends only on these
  pub lookup-depends-only-on_these : SameAnswer spec shard id a b
  lookup-depends-only-on_these = record { answer = answer-depends; bytes = part-depends }
