-- A volume shard that passed before order 2 passes now: its ids and starts do not wrap, and its ids rise.
use Rattle.std.proofs.Common.{◌≡◌, ℕ, zero, suc, ◌+◌, ◌^◌, ◌<◌, ◌≤◌, true, false, leb, List, length, sym, ◌∙◌, subst, inl, inr, ⊎_elim, le_of_suc-le-suc, not-suc-le-zero, eq-or-lt_of_le, arith, length-drop, ltb-false, eqb-true, leb-false}
use borrow.Author.Tests.{not-false}
use Rattle.refusal.specs.Checks.{first_number}
use Rattle.refusal.proofs.Tests.{neither}
use Rattle.refusal.proofs.Picks.{AllIn}
use Rattle.refusal.proofs.Refusing.{first-both}
use Rattle.sharding.specs.declared.Sharding.{Sharding}
use Rattle.sharding.specs.Specification.{volume, mesh, is_mesh, minishard_count_of, no_such_shard}
use Rattle.shard.specs.declared.CheckAnswer.TheVariants.{Sound}
use Rattle.shard.specs.index.Index.{entry_start_of, entry_end_of, entry_count, id_steps, start_steps, sizes, id_at, start_at, most_shard_bytes}
use Rattle.shard.specs.Faults.{bad_entry, bad_length, foreign}
use Rattle.shard.specs.File.{index_length_of, index_part, data_part, file_checks, check_answer}
use Rattle.shard.specs.Sound.{SoundMinishard, SoundShard}
use Rattle.shard.specs.Before.{exact_id, exact_start, bad_id_before, foreign_before, outside_before, entry_tests_before, minishard_checks_before, minishards_checks_before, shard_checks_before, PassedBefore}
use Rattle.shard.proofs.index.Tests.{AllPass, Numbered, none-fails}
use Rattle.shard.proofs.Judged.{entry-order, entry-within, foreign-not}
use Rattle.shard.proofs.Numbers.{pick-zero, or-none, entries-in, entries-number, file_in, file-called}
use Rattle.shard.proofs.Whole.{sound-passes-check}

-- ---- what the old tests said

bounded_before : (steps : ℕ → ℕ) (i : ℕ) → bad_id_before steps i ≡ false → exact_id steps i < 2 ^ 64
unfolding bad_id_before
bounded_before steps zero e = leb-false _ _ e
bounded_before steps (suc i) e = leb-false _ _ (neither (leb (exact_id steps (suc i)) (exact_id steps i)) _ e).1

rising-before : (steps : ℕ → ℕ) (i : ℕ) → bad_id_before steps (suc i) ≡ false → exact_id steps i < exact_id steps (suc i)
unfolding bad_id_before
rising-before steps i e = leb-false _ _ (neither _ (leb (2 ^ 64) (exact_id steps (suc i))) e).0

-- ---- sums that did not wrap are what they were

same_id : (steps : ℕ → ℕ) (i : ℕ) → exact_id steps i < 2 ^ 64 → id_at steps i ≡ exact_id steps i
unfolding id_at exact_id
same_id steps i l = omega arith

same_start : (starts size : ℕ → ℕ) (i : ℕ) → exact_start starts size i < 2 ^ 64 → start_at starts size i ≡ exact_start starts size i
unfolding start_at exact_start
same_start starts size i l = omega arith

-- what passed before in a minishard whose minishard index stands in d from s to e
pub record EarlierFrom (d : List ℕ) (s e : ℕ) : Type 0 where
  pub ids : (i : ℕ) → i < entry_count s e → id_at (id_steps d s) i ≡ exact_id (id_steps d s) i
  pub rising : (i : ℕ) → suc i < entry_count s e → id_at (id_steps d s) i < id_at (id_steps d s) (suc i)
  pub starts : (i : ℕ) → i < entry_count s e → start_at (start_steps d s (entry_count s e)) (sizes d s (entry_count s e)) i ≡ exact_start (start_steps d s (entry_count s e)) (sizes d s (entry_count s e)) i

id_below : (f : ℕ → ℕ) (n : ℕ) → ((i : ℕ) → suc i < n → f i < f (suc i)) → (i j : ℕ) → i < j → j < n → f i < f j
id_below f n up i zero l h = absurd (not-suc-le-zero l)
id_below f n up i (suc j) l h =
    let u = up j h in
    let t = id_below f n up i j in
    ⊎_elim (λ q. rw q u) (λ k. omega (arith, t k (omega arith))) (eq-or-lt_of_le (le_of_suc-le-suc l))

module _ (spec : Sharding) (old : spec.kind ≡ volume) (shard : ℕ) (index d : List ℕ) (m : ℕ) (short : length d ≤ most_shard_bytes) (z : first_number (minishard_checks_before spec shard index d m) ≡ 0) where
  abbrev s : ℕ
  s = entry_start_of index m

  abbrev e : ℕ
  e = entry_end_of index m

  abbrev n : ℕ
  n = entry_count (entry_start_of index m) (entry_end_of index m)

  numbered : Numbered 11 (entry_tests_before spec shard m d s n)
  unfolding entry_tests_before
  numbered = (omega arith, omega arith, (omega arith, omega arith, (omega arith, omega arith, tt)))

  split : (bad_entry d s e ≡ false) × (bad_length s e ≡ false) × AllPass n (entry_tests_before spec shard m d s n)
  unfolding minishard_checks_before first_number
  split =
      let q7 = pick-zero (bad_entry d s e) 6 _ z in
      let q8 = pick-zero (bad_length s e) 7 _ q7.1 in
      (q7.0, q8.0, none-fails (length index + s) n 11 (entry_tests_before spec shard m d s n) numbered (sym (entries-number (length index + s) n (entry_tests_before spec shard m d s n)) ∙ q8.1))

  ids_pass : (i : ℕ) → i < n → bad_id_before (id_steps d s) i ≡ false
  unfolding entry_tests_before
  ids_pass = split.2.0

  places_pass : (i : ℕ) → i < n → foreign spec shard m (exact_id (id_steps d s) i) ≡ false
  unfolding entry_tests_before foreign_before
  places_pass = split.2.1.0

  ends_pass : (i : ℕ) → i < n → exact_start (start_steps d s n) (sizes d s n) i + sizes d s n i ≤ length d
  unfolding entry_tests_before outside_before
  ends_pass i l = ltb-false _ _ (split.2.1.1.0 i l)

  pub earlier-from : EarlierFrom d s e
  earlier-from = record {
    ids = λ i l. same_id (id_steps d s) i (bounded_before (id_steps d s) i (ids_pass i l));
    rising = λ i l.
        let up = rising-before (id_steps d s) i (ids_pass (suc i) l) in
        let a = same_id (id_steps d s) i (bounded_before (id_steps d s) i (ids_pass i (omega arith))) in
        let b = same_id (id_steps d s) (suc i) (bounded_before (id_steps d s) (suc i) (ids_pass (suc i) l)) in
        omega arith;
    starts = λ i l. let h = ends_pass i l in same_start (start_steps d s n) (sizes d s n) i (omega arith);
  }

  no-mesh : is_mesh spec ≡ true → ⊥
  no-mesh k = let q = eqb-true spec.kind mesh k in omega (arith, old)

  earlier-minishard : SoundMinishard spec shard index d m
  unfolding bad_length
  earlier-minishard =
      let g = earlier-from in
      record {
        ordered = entry-order d s e split.0;
        within = ⊎_elim (λ k. inl k) (λ l. inr (entry-within d s e split.0 l)) (eq-or-lt_of_le (entry-order d s e split.0));
        whole = eqb-true _ _ (not-false _ split.1);
        distinct = λ i j l h q. let up = id_below (id_at (id_steps d s)) n g.rising i j l h in omega arith;
        ours = λ i l. rw (g.ids i l) (foreign-not spec shard m (exact_id (id_steps d s) i) (places_pass i l)).0;
        here = λ i l. rw (g.ids i l) (foreign-not spec shard m (exact_id (id_steps d s) i) (places_pass i l)).1;
        inside = λ i l. rw (g.starts i l) (ends_pass i l);
        manifests = λ k. absurd (no-mesh k);
        fragments = λ k. absurd (no-mesh k);
      }

-- ---- a shard

module _ (spec : Sharding) (shard : ℕ) (index d : List ℕ) where
  minishard_in : (m : ℕ) → AllIn (minishard_checks_before spec shard index d m)
  unfolding minishard_checks_before entry_tests_before
  minishard_in m =
      let s = entry_start_of index m in
      let n = entry_count s (entry_end_of index m) in
      ((omega arith, omega arith), ((omega arith, omega arith), entries-in (length index + s) n 11 (entry_tests_before spec shard m d s n) (omega arith) (omega arith, omega arith, (omega arith, omega arith, (omega arith, omega arith, tt)))))

  each-before : (m k : ℕ) → first_number (minishards_checks_before spec shard index d m k) ≡ 0 → (j : ℕ) → m ≤ j → j < m + k → first_number (minishard_checks_before spec shard index d j) ≡ 0
  unfolding minishards_checks_before
  each-before m zero z j l h = absurd (omega arith)
  each-before m (suc k) z j l h =
      let q = or-none _ _ (sym (first-both (minishard_checks_before spec shard index d m) (minishards_checks_before spec shard index d (suc m) k) (minishard_in m)) ∙ z) in
      let t = each-before (suc m) k q.1 j in
      ⊎_elim (λ p. subst (λ (i : ℕ). first_number (minishard_checks_before spec shard index d i) ≡ 0) p q.0) (λ o. t o (omega arith)) (eq-or-lt_of_le l)

module _ (spec : Sharding) (shard : ℕ) (file : List ℕ) (z : PassedBefore spec shard file) where
  parts : (first_number (file_checks spec (no_such_shard spec shard) file) ≡ 0) × (first_number (minishards_checks_before spec shard (index_part spec file) (data_part spec file) 0 (minishard_count_of spec)) ≡ 0)
  unfolding shard_checks_before
  parts = or-none _ _ (sym (first-both (file_checks spec (no_such_shard spec shard) file) _ (file_in spec (no_such_shard spec shard) file)) ∙ z.none)

  short_data : length (data_part spec file) ≤ most_shard_bytes
  short_data = omega (arith, length-drop (index_length_of spec) file, (file-called spec (no_such_shard spec shard) file parts.0).short)

  pub earlier-each : (m : ℕ) → m < minishard_count_of spec → EarlierFrom (data_part spec file) (entry_start_of (index_part spec file) m) (entry_end_of (index_part spec file) m)
  earlier-each m l =
      earlier-from spec z.volumes shard (index_part spec file) (data_part spec file) m short_data
      (each-before spec shard (index_part spec file) (data_part spec file) 0 (minishard_count_of spec) parts.1 m (omega arith) (omega arith))

  -- it is sound
  pub earlier-sound : SoundShard spec shard file
  earlier-sound =
      let c = file-called spec (no_such_shard spec shard) file parts.0 in
      record {
        permitted = c.permitted;
        numbered = leb-false _ _ c.other;
        held = c.held;
        short = c.short;
        each = λ m l.
            earlier-minishard spec z.volumes shard (index_part spec file) (data_part spec file) m short_data
            (each-before spec shard (index_part spec file) (data_part spec file) 0 (minishard_count_of spec) parts.1 m (omega arith) (omega arith));
      }

  -- and passes
  pub earlier-passes : check_answer spec shard file ≡ Sound
  earlier-passes = sound-passes-check spec shard file earlier-sound
