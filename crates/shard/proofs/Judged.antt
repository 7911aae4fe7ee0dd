-- The tests pass a minishard exactly where it is sound.
use Rattle.std.proofs.Common.{◌≡◌, ℕ, ◌+◌, ◌-◌, ◌%◌, ◌<◌, ◌≤◌, true, false, not, ◌&&◌, eqb, ltb, ◌⊎◌, List, length, inl, inr, ⊎_elim, eq-or-lt_of_le, arith, ltb-false, le-ltb, lt-ltb, eq-eqb, eqb-true}
use mathlib.Core.Bool.{and-false}
use borrow.Author.Tests.{not-false}
use Rattle.refusal.specs.Checks.{first_number}
use Rattle.refusal.proofs.Tests.{neither}
use Rattle.duplicate_ids.proofs.RowIds.{repeats-no, repeats-miss}
use Rattle.sharding.specs.declared.Sharding.{Sharding}
use Rattle.sharding.specs.Specification.{is_mesh}
use Rattle.sharding.specs.placement.Place.{shard_of, minishard_of}
use Rattle.mesh_manifest.specs.sound.Verdict.{right_length, reals_fit, nodes_rise, manifest_checks, manifest_verdict}
use Rattle.mesh_manifest.specs.sound.Soundness.{Sound}
use Rattle.mesh_manifest.proofs.sound.Sounds.{sound-if, sound-only}
use Rattle.mesh_manifest.specs.nodes.Nodes.{fragments_length_of}
use Rattle.shard.specs.index.Index.{entry_start_of, entry_end_of, entry_count, id_steps, start_steps, sizes, id_at, start_at, chunk_at}
use Rattle.shard.specs.index.Tests.{fault, entry_place, first_of}
use Rattle.shard.specs.manifests.Mesh.{manifest_tests, wrong_length, bad_real, unordered_nodes, fragments_outside}
use Rattle.shard.specs.Faults.{bad_entry, bad_length, bad_id, foreign, foreign_at, ends_past, id_test, place_test, end_test, mesh_tests, entry_tests, fault_at, fault_of}
use Rattle.shard.specs.Sound.{SoundFrom, SoundMinishard}
use Rattle.shard.proofs.index.Tests.{Passes, AllPass, pick-none, none-fails, all_pass}
use Rattle.shard.proofs.Meshes.{mesh_passed, mesh_pass, tests_numbered}
use Rattle.shard.proofs.Numbers.{pick-zero}

-- ---- what each test says

past_end : (s e n : ℕ) → ltb s e && ltb n e ≡ false → s < e → e ≤ n
past_end s e n p l = ltb-false n e (rw (lt-ltb s e l) at p)

pub entry-order : (d : List ℕ) (s e : ℕ) → bad_entry d s e ≡ false → s ≤ e
unfolding bad_entry
entry-order d s e p = ltb-false e s (neither (ltb e s) _ p).0

pub entry-within : (d : List ℕ) (s e : ℕ) → bad_entry d s e ≡ false → s < e → e ≤ length d
unfolding bad_entry
entry-within d s e p = past_end s e (length d) (neither (ltb e s) _ p).1

entry_good : (d : List ℕ) (s e : ℕ) → s ≤ e → (s ≡ e) ⊎ (e ≤ length d) → bad_entry d s e ≡ false
unfolding bad_entry
entry_good d s e o (inl q) = rw (le-ltb e s o, le-ltb s e (omega arith))
entry_good d s e o (inr q) = rw (le-ltb e s o, le-ltb (length d) e q) (and-false (ltb s e))

-- no two entries have one id
ids-apart : (f : ℕ → ℕ) (n : ℕ) → ((i : ℕ) → i < n → bad_id f i ≡ false) → (i j : ℕ) → i < j → j < n → id_at f i ≡ id_at f j → ⊥
ids-apart f n p i j l h = repeats-miss (id_at f) j i (p j h) l

apart-ids : (f : ℕ → ℕ) (n : ℕ) → ((i j : ℕ) → i < j → j < n → id_at f i ≡ id_at f j → ⊥) → (i : ℕ) → i < n → bad_id f i ≡ false
apart-ids f n p i l = repeats-no (id_at f) i (λ j h. p j i h l)

pub foreign-not : (spec : Sharding) (shard m id : ℕ) → foreign spec shard m id ≡ false → (shard_of spec id ≡ shard) × (minishard_of spec id ≡ m)
unfolding foreign
foreign-not spec shard m id e =
    let f = neither (not (eqb (shard_of spec id) shard)) _ e in
    (eqb-true _ _ (not-false _ f.0), eqb-true _ _ (not-false _ f.1))

not-foreign : (spec : Sharding) (shard m id : ℕ) → shard_of spec id ≡ shard → minishard_of spec id ≡ m → foreign spec shard m id ≡ false
unfolding foreign
not-foreign spec shard m id p q = rw (eq-eqb _ _ p, eq-eqb _ _ q)

-- ---- those of a mesh

-- a chunk that passes 15, 16 and 17 is a sound manifest
manifest-sound : (s : List ℕ) → not (right_length s) ≡ false → not (reals_fit s) ≡ false → not (nodes_rise s) ≡ false → Sound s
manifest-sound s a b c = sound-if s (unfold manifest_verdict manifest_checks first_number in rw (a, b, c))

sound-manifest : (s : List ℕ) → Sound s → (not (right_length s) ≡ false) × (not (reals_fit s) ≡ false) × (not (nodes_rise s) ≡ false)
unfolding manifest_verdict manifest_checks first_number
sound-manifest s h =
    let q15 = pick-zero (not (right_length s)) 14 _ (sound-only s h) in
    let q16 = pick-zero (not (reals_fit s)) 15 _ q15.1 in
    let q17 = pick-zero (not (nodes_rise s)) 16 _ q16.1 in
    (q15.0, q16.0, q17.0)

module _ (d : List ℕ) (s n : ℕ) where
  passed_manifests : AllPass n (manifest_tests d s n) → (i : ℕ) → i < n → Sound (chunk_at d s n i)
  unfolding manifest_tests wrong_length bad_real unordered_nodes
  passed_manifests h i l = manifest-sound (chunk_at d s n i) (h.0 i l) (h.1.0 i l) (h.1.1.0 i l)

  passed_fragments : AllPass n (manifest_tests d s n) → (i : ℕ) → i < n → fragments_length_of (chunk_at d s n i) ≤ start_at (start_steps d s n) (sizes d s n) i
  unfolding manifest_tests fragments_outside
  passed_fragments h i l = ltb-false _ _ (h.1.1.1.0 i l)

  manifests_pass : ((i : ℕ) → i < n → Sound (chunk_at d s n i)) → ((i : ℕ) → i < n → fragments_length_of (chunk_at d s n i) ≤ start_at (start_steps d s n) (sizes d s n) i)
      → AllPass n (manifest_tests d s n)
  unfolding manifest_tests wrong_length bad_real unordered_nodes fragments_outside
  manifests_pass h g = (
    (λ i l. (sound-manifest (chunk_at d s n i) (h i l)).0),
    ((λ i l. (sound-manifest (chunk_at d s n i) (h i l)).1), ((λ i l. (sound-manifest (chunk_at d s n i) (h i l)).2), ((λ i l. le-ltb _ _ (g i l)), tt))),
  )

-- ---- a minishard

module _ (spec : Sharding) (shard m : ℕ) (d : List ℕ) (s e : ℕ) where
  passes-sound : (base : ℕ) → (fault_at spec shard m base d s e).number ≡ 0 → SoundFrom spec shard m d s e
  unfolding fault_at bad_length foreign_at ends_past entry_tests
  passes-sound base p =
      let n = entry_count s e in
      let tests = entry_tests spec shard m d s n in
      let q7 = pick-none (bad_entry d s e) (fault 7 (entry_place m)) _ (λ z. omega arith) p in
      let q8 = pick-none (bad_length s e) (fault 8 (entry_place m)) (first_of (base + s) n tests) (λ z. omega arith) q7.1 in
      let all : AllPass n tests = none-fails (base + s) n 21 tests (tests_numbered spec d s n shard m) q8.1 in
      let ids : Passes n (id_test d s) = search all in
      let places : Passes n (place_test spec shard m d s) = search all in
      let ends : Passes n (end_test d s n) = search all in
      let listed : is_mesh spec ≡ true → AllPass n (manifest_tests d s n) = mesh_passed spec d s n all.1.1.1 in
      record {
        ordered = entry-order d s e q7.0;
        within = ⊎_elim (λ k. inl k) (λ l. inr (entry-within d s e q7.0 l)) (eq-or-lt_of_le (entry-order d s e q7.0));
        whole = eqb-true _ _ (not-false _ q8.0);
        distinct = ids-apart (id_steps d s) n ids;
        ours = λ i l. (foreign-not spec shard m _ (places i l)).0;
        here = λ i l. (foreign-not spec shard m _ (places i l)).1;
        inside = λ i l. ltb-false _ _ (ends i l);
        manifests = λ k. passed_manifests d s n (listed k);
        fragments = λ k. passed_fragments d s n (listed k);
      }

module _ {spec : Sharding} {shard m : ℕ} {d : List ℕ} {s e : ℕ} (g : SoundFrom spec shard m d s e) where
  sound-entry : bad_entry d s e ≡ false
  sound-entry = entry_good d s e g.ordered g.within

  ids_pass : (i : ℕ) → i < entry_count s e → bad_id (id_steps d s) i ≡ false
  ids_pass = apart-ids (id_steps d s) (entry_count s e) g.distinct

  places_pass : (i : ℕ) → i < entry_count s e → foreign_at spec shard m (id_steps d s) i ≡ false
  unfolding foreign_at
  places_pass i l = not-foreign spec shard m _ (g.ours i l) (g.here i l)

  ends_pass : (i : ℕ) → i < entry_count s e → ends_past (length d) (start_steps d s (entry_count s e)) (sizes d s (entry_count s e)) i ≡ false
  unfolding ends_past
  ends_pass i l = le-ltb _ _ (g.inside i l)

  mesh_tests_pass : AllPass (entry_count s e) (mesh_tests spec d s (entry_count s e))
  mesh_tests_pass = mesh_pass spec d s (entry_count s e) (λ k. manifests_pass d s (entry_count s e) (g.manifests k) (g.fragments k))

  sound-passes : (base : ℕ) → fault_at spec shard m base d s e ≡ fault 0 0
  unfolding fault_at bad_length entry_tests
  sound-passes base = rw (sound-entry, eq-eqb ((e - s) % 24) 0 g.whole) (all_pass (base + s) (entry_count s e) (entry_tests spec shard m d s (entry_count s e)) (search (ids_pass, places_pass, ends_pass), (search (ids_pass, places_pass, ends_pass), (search (ids_pass, places_pass, ends_pass), mesh_tests_pass))))

module _ (spec : Sharding) (shard : ℕ) (index d : List ℕ) (m : ℕ) where
  pub passes-minishard : (fault_of spec shard index d m).number ≡ 0 → SoundMinishard spec shard index d m
  unfolding fault_of
  passes-minishard p = passes-sound spec shard m d (entry_start_of index m) (entry_end_of index m) (length index) p

  pub minishard-passes : SoundMinishard spec shard index d m → fault_of spec shard index d m ≡ fault 0 0
  unfolding fault_of
  minishard-passes g = sound-passes g (length index)
