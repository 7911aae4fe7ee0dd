-- What a lookup answers of a sound minishard: the bytes that it lists, and 12 for what it does not list.
use Rattle.std.proofs.Common.{◌≡◌, ℕ, zero, suc, ◌+◌, ◌<◌, false, not, ◌||◌, eqb, ◌↔◌, List, length, drop, sym, refl, ap, ◌∙◌, subst, arith, length-drop, length-take-le, drop-drop, eq-eqb, ne_eqb}
use borrow.Author.Tests.{lt-leb}
use Rattle.refusal.specs.Checks.{unless}
use Rattle.endian.specs.Range.{first}
use Rattle.endian.proofs.Ranges.{any-no, first_hit}
use Rattle.sharding.specs.declared.Sharding.{Sharding}
use Rattle.sharding.specs.Specification.{shard_count_of, no_such_shard}
use Rattle.sharding.specs.placement.Place.{shard_of, minishard_of}
use Rattle.sharding.proofs.placement.Placed.{shard-below}
use Rattle.shard.specs.declared.index.Fault.{Fault}
use Rattle.shard.specs.index.Index.{entry_start_of, entry_end_of, entry_count, id_steps, start_steps, sizes, id_at, start_at}
use Rattle.shard.specs.File.{index_length_of, index_part, data_part}
use Rattle.shard.specs.Sound.{SoundMinishard}
use Rattle.shard.specs.Lists.{ListsAt, ListsIn}
use Rattle.shard.proofs.Judged.{passes-minishard, minishard-passes}
use Rattle.shard.proofs.Numbers.{unless-none, Called, called-file}
use Rattle.lookup.specs.declared.id_search.LookupAnswer.{LookupAnswer}
use Rattle.lookup.specs.declared.id_search.LookupAnswer.TheVariants.{Found, Refused, Faulty}
use Rattle.lookup.specs.id_search.Search.{is_id, found_in}
use Rattle.lookup.specs.chosen_minishard.Chosen.{lookup_in}
use Rattle.lookup.specs.Find.{lookup_answer, part_bytes}
use Rattle.lookup.specs.Lookups.{Asked, chunk_start, HandsOut}
use Rattle.lookup.proofs.id_search.Seek.{found_first, found_none, none_found}
use Rattle.lookup.proofs.chosen_minishard.InParts.{in_parts}
use Rattle.lookup.proofs.Answers.{answer-files}
use Rattle.lookup.proofs.Handed.{found_inside}

-- ---- ids that rise

-- as ids are distinct, the entry that has the id is the first that has it
first-is : (steps : ℕ → ℕ) (n id i : ℕ) → ((j k : ℕ) → j < k → k < n → id_at steps j ≡ id_at steps k → ⊥) → i < n → id_at steps i ≡ id → first (is_id steps id) n ≡ i
unfolding is_id
first-is steps n id i r l e =
    first_hit (is_id steps id) n i
    (any-no (is_id steps id) i (λ j h. ne_eqb (id_at steps j) id (λ q. r j i h l (q ∙ sym e))))
    l
    (eq-eqb _ _ e)

found_at : (base : ℕ) (d : List ℕ) (s n id i : ℕ) → ((j k : ℕ) → j < k → k < n → id_at (id_steps d s) j ≡ id_at (id_steps d s) k → ⊥) → i < n → id_at (id_steps d s) i ≡ id
    → found_in base d s n id ≡ Found (base + start_at (start_steps d s n) (sizes d s n) i) (sizes d s n i)
unfolding is_id
found_at base d s n id i r l e = found_first base d s n id i l (eq-eqb _ _ e) (first-is (id_steps d s) n id i r l e)

-- ---- in a shard of two parts

unless_12 : (k p : ℕ) (a : LookupAnswer) → unless (λ j. Faulty j p) k a ≡ Refused 12 → (k ≡ 0) × (a ≡ Refused 12)
unfolding unless
unless_12 zero p a e = (refl, e)
unless_12 (suc k) p a e = let z : ◌≡◌ {A = ℕ} 0 1 = cc in absurd (omega arith)

module _ (spec : Sharding) (shard : ℕ) (x d : List ℕ) (id : ℕ) where
  abbrev m : ℕ
  m = minishard_of spec id

  -- a sound minishard is searched
  in_sound : SoundMinishard spec shard x d m → lookup_in spec shard x d id ≡ found_in (length x) d (entry_start_of x m) (entry_count (entry_start_of x m) (entry_end_of x m)) id
  in_sound g = in_parts spec shard x d id ∙ sym (unless-none _ _ _ (ap (λ (f : Fault). f.number) (minishard-passes spec shard x d m g)))

  in_listed : SoundMinishard spec shard x d m → (i : ℕ) {bytes : List ℕ} → ListsAt x d m i id bytes
      → lookup_in spec shard x d id ≡ Found (length x + chunk_start x d m i) (sizes d (entry_start_of x m) (entry_count (entry_start_of x m) (entry_end_of x m)) i)
  in_listed g i t = in_sound g ∙ found_at _ _ _ _ _ i g.distinct t.among t.named

  in_unlisted : SoundMinishard spec shard x d m → ((bytes : List ℕ) → ListsIn x d m id bytes → ⊥) → lookup_in spec shard x d id ≡ Refused 12
  in_unlisted g none = in_sound g ∙ found_none _ _ _ _ _ (λ i l q. none _ (record { entry = i; lists = record { among = l; named = q; holding = refl } }))

  in_12 : lookup_in spec shard x d id ≡ Refused 12 → SoundMinishard spec shard x d m × ((bytes : List ℕ) → ListsIn x d m id bytes → ⊥)
  in_12 e =
      let q = unless_12 _ _ _ (sym (in_parts spec shard x d id) ∙ e) in (
        passes-minishard spec shard x d m q.0,
        λ bytes t. none_found _ _ _ _ _ q.1 t.entry t.lists.among t.lists.named,
      )

-- ---- in a file

module _ (spec : Sharding) (shard : ℕ) (file : List ℕ) (id : ℕ) (a : Asked spec shard file id) where
  -- none of 1, 5 and 6 holds
  five : no_such_shard spec shard || not (eqb (shard_of spec id) shard) ≡ false
  five = rw (lt-leb (shard_count_of spec) shard (subst (λ (k : ℕ). k < shard_count_of spec) a.numbered (shard-below spec id)), eq-eqb (shard_of spec id) shard a.numbered)

  answer-parts : lookup_answer spec shard file id ≡ lookup_in spec shard (index_part spec file) (data_part spec file) id
  unfolding unless
  answer-parts =
      let c : Called spec (no_such_shard spec shard || not (eqb (shard_of spec id) shard)) file = record { permitted = a.permitted; other = five; held = a.held; short = a.short } in
      rw (answer-files spec shard file id, called-file c)

  -- the chunk that entry i of a sound minishard lists is found at its place, and exactly its bytes are handed out
  pub listed-chunk-is_handed_out : {i : ℕ} {bytes : List ℕ} → SoundMinishard spec shard (index_part spec file) (data_part spec file) (minishard_of spec id)
      → ListsAt (index_part spec file) (data_part spec file) (minishard_of spec id) i id bytes → HandsOut spec shard file id i bytes
  listed-chunk-is_handed_out {i} {bytes} g t =
      let m = minishard_of spec id in
      let start = length (index_part spec file) + chunk_start (index_part spec file) (data_part spec file) m i in
      let count = sizes (data_part spec file) (entry_start_of (index_part spec file) m) (entry_count (entry_start_of (index_part spec file) m) (entry_end_of (index_part spec file) m)) i in
      let e = answer-parts ∙ in_listed spec shard (index_part spec file) (data_part spec file) id g i t in
      let h = length-take-le (index_length_of spec) file a.held in
      let w = found_inside spec shard file id start count e in
      let p : part_bytes (lookup_answer spec shard file id) file ≡ bytes = rw (e, h, ← drop-drop) t.holding in
      record {
        start = start;
        count = count;
        found = e;
        placed = rw h;
        within = w;
        counted = sym (length-take-le count (drop start file) (omega (arith, w, length-drop start file))) ∙ ap length (rw e at p);
        taken = rw e at p;
        part = p;
      }

  -- 12 exactly where the minishard is sound and lists the id with no bytes
  pub twelve_means_not-listed : (lookup_answer spec shard file id ≡ Refused 12)
      ↔ (SoundMinishard spec shard (index_part spec file) (data_part spec file) (minishard_of spec id)
      × ((bytes : List ℕ) → ListsIn (index_part spec file) (data_part spec file) (minishard_of spec id) id bytes → ⊥))
  twelve_means_not-listed = (
    (λ e. in_12 spec shard (index_part spec file) (data_part spec file) id (sym answer-parts ∙ e)),
    (λ t. answer-parts ∙ in_unlisted spec shard (index_part spec file) (data_part spec file) id t.0 t.1),
  )
