-- The measure of a shard that passed the check, and what the call answers.
use Prim.Native.Nat.{ℕ, ◌≤◌, ◌<◌}
use mathlib.Core.Path.{◌≡◌, refl, sym, ap, ◌∙◌}
use mathlib.Core.Bool.{Bool, true, false}
use mathlib.Core.List.{List, ◌++◌}
use mathlib.Core.Logic.{⊎_elim}
use native.Mathlib.Omega.{arith}
use borrow.Author.Rules.{rules}
use lib.ListN.{length, take}
use Rattle.refusal.specs.Choice.{pick}
use Rattle.refusal.specs.Checks.{first_number, unless}
use Rattle.endian.specs.Range.{sum_to}
use Rattle.duplicate_ids.proofs.ids.Cases.{eq-or-not}
use Rattle.sharding.specs.declared.Sharding.{Sharding}
use Rattle.sharding.specs.Specification.{allowed, minishard_count_of}
use Rattle.shard.specs.index.Index.{entry_start_of, entry_end_of, most_shard_bytes}
use Rattle.shard.specs.declared.CheckAnswer.{CheckAnswer}
use Rattle.shard.specs.declared.CheckAnswer.TheVariants as C
use Rattle.shard.specs.File.{index_length_of, check_answer}
use Rattle.shard.specs.Sound.{SoundShard}
use Rattle.shard.proofs.Whole.{check-passes-sound}
use Rattle.shard.proofs.Split.{rest_of, rest-whole}
use Rattle.shard.proofs.AfterCheck.{passed_sound, passed_allowed, passed_held, passed_front}
use Rattle.split_shard.proofs.seam.Pairs.{seamed_front, seamed_back}
use Rattle.split_shard.specs.Answers.{pair_check}
use Rattle.split_shard.proofs.Laws.{sound_seamed, check_as_joined}
use Rattle.unlisted.specs.ranges.Ranges.{count_in}
use Rattle.unlisted.specs.ranges.Covered.{unlisted_bytes}
use Rattle.unlisted.specs.stretches.Reading.{RangedShard}
use Rattle.unlisted.proofs.Counted.{sound_ranged}
use Rattle.settled_form.specs.Content.{form_length}
use Rattle.settle.specs.minishard_length.Writing.{capped}
use Rattle.settle.specs.length.Settleable.{SettleableShard}
use Rattle.settle.proofs.two_parts.WriteAnswers.{sound_settleable}
use Rattle.holdings.specs.declared.chunk_sums.Total.{Total}
use Rattle.holdings.specs.chunk_sums.Reading.{SizedIn, SizedParts, Few}
use Rattle.holdings.specs.chunk_sums.Totals.{sizes_in, passes, total_of}
use Rattle.holdings.specs.declared.measures.MeasureAnswer.{MeasureAnswer}
use Rattle.holdings.specs.declared.measures.MeasureAnswer.TheVariants.{Sound, Refused, Faulty}
use Rattle.holdings.specs.measures.Measures.{chunk_count, chunk_bytes, measure_of}
use Rattle.holdings.specs.measures.Answers.{measured_in, after_verdict, measure_answer, pair_measure}

-- ---- a shard that passed

module _ {spec : Sharding} {index d : List ℕ} (r : RangedShard spec index d) where
  sized_in : (m : ℕ) → m < minishard_count_of spec → SizedIn index d m
  sized_in m l =
      let g = r.each m l in
      record {
        entry = g.entry;
        ordered = g.ordered;
        some = λ q. record { short = r.short; whole = (g.some q).whole; each = λ i k. omega (arith, (g.some q).inside i k) };
      }

  few_in : (m : ℕ) → m < minishard_count_of spec → count_in index m ≤ most_shard_bytes
  few_in m l =
      let g = r.each m l in
      ⊎_elim (λ (e : entry_start_of index m ≡ entry_end_of index m). omega (arith, e)) (λ n. omega (arith, (g.some n).whole, r.short)) (eq-or-not (entry_start_of index m) (entry_end_of index m))

  module _ {n : ℕ} (e : n ≡ minishard_count_of spec) (k : n ≤ 65536) where
    pub measured-parts : SizedParts index d n
    measured-parts = record { few = k; each = λ m l. sized_in m (omega arith) }

    pub measured-few : Few index n
    measured-few = record { few = k; entry = λ m l. (r.each m (omega arith)).entry; ordered = λ m l. (r.each m (omega arith)).ordered; each = λ m l. few_in m (omega arith) }

pub measured-allowed : {spec : Sharding} {index d : List ℕ} → RangedShard spec index d → allowed spec ≡ true
measured-allowed r = r.permitted

module _ (spec : Sharding) (index d : List ℕ) where
  pub measured-pick : measured_in spec index d ≡ pick (passes (chunk_bytes spec index d)) (Refused 27) (Sound (measure_of spec index d))
  unfolding measured_in first_number
  measured-pick = go (passes (chunk_bytes spec index d))
    where
      go : (b : Bool) → unless Refused (pick b 27 0) (Sound (measure_of spec index d)) ≡ pick b (Refused 27) (Sound (measure_of spec index d))
      go true = unfold unless in refl
      go false = unfold unless in refl

  module _ {n : ℕ} (e : n ≡ minishard_count_of spec) {t : Total} (g : t ≡ total_of (sum_to (sizes_in index d) n)) where
    bytes_are : sum_to (sizes_in index d) n ≡ chunk_bytes spec index d
    unfolding chunk_bytes
    bytes_are = ap (sum_to (sizes_in index d)) e

    passing : t.passed ≡ passes (chunk_bytes spec index d)
    unfolding total_of
    passing = ap (λ (x : Total). x.passed) g ∙ ap (λ (k : ℕ). passes k) bytes_are

    pub measured-past : t.passed ≡ true → Refused 27 ≡ measured_in spec index d
    measured-past h = rw (measured-pick, ← passing, h)

    module _ (h : t.passed ≡ false) where
      within : passes (chunk_bytes spec index d) ≡ false
      within = sym passing ∙ h

      summed : t.sum ≡ chunk_bytes spec index d
      unfolding total_of
      summed = ap (λ (x : Total). x.sum) g ∙ rw (bytes_are, within)

      pub measured-whole : {a u f : ℕ} → a ≡ sum_to (count_in index) n → u ≡ unlisted_bytes spec index d → f ≡ capped (form_length spec index d)
          → Sound (record { chunks = a; bytes = t.sum; unlisted = u; settled = f }) ≡ measured_in spec index d
      unfolding measure_of chunk_count
      measured-whole p q w = rw (measured-pick, within, p, e, q, w, summed)

pub ruleset measuring = (measured-parts, measured-few, measured-allowed, measured-past, measured-whole, rules)

-- ---- after the check

module _ (spec : Sharding) (shard : ℕ) (file : List ℕ) {a : CheckAnswer} (e : a ≡ check_answer spec shard file) where
  pub measure_stopped : {k : ℕ} → a ≡ C.Refused k → Refused k ≡ measure_answer spec shard file
  unfolding measure_answer after_verdict
  measure_stopped q = rw (← e, q)

  pub measure-faulty : {k m p : ℕ} → a ≡ C.Faulty k m p → Faulty k m p ≡ measure_answer spec shard file
  unfolding measure_answer after_verdict
  measure-faulty q = rw (← e, q)

  module _ (q : a ≡ C.Sound) {n : ℕ} (c : n ≡ index_length_of spec) where
    pub passed_parts : SettleableShard spec (take n file) (rest_of n file)
    passed_parts = rw (rest-whole n file, c) (sound_settleable (passed_sound spec shard file e q))

    pub passed_ranges : RangedShard spec (take n file) (rest_of n file)
    passed_ranges = rw (rest-whole n file, c) (sound_ranged (passed_sound spec shard file e q))

    pub measure_passed : {r : MeasureAnswer} → r ≡ measured_in spec (take n file) (rest_of n file) → r ≡ measure_answer spec shard file
    unfolding measure_answer after_verdict
    measure_passed h = rw (← e, q) (rw (rest-whole n file, c) at h)

pub ruleset checked = (measure_stopped, measure-faulty, passed_allowed, passed_held, passed_front, passed_parts, passed_ranges, measure_passed, rules)

-- the same of a pair
module _ (spec : Sharding) (shard : ℕ) (index d : List ℕ) {a : CheckAnswer} (e : a ≡ pair_check spec shard index d) where
  pub pair_stopped : {k : ℕ} → a ≡ C.Refused k → Refused k ≡ pair_measure spec shard index d
  unfolding pair_measure after_verdict
  pair_stopped q = rw (← e, q)

  pub pair-faulty : {k m p : ℕ} → a ≡ C.Faulty k m p → Faulty k m p ≡ pair_measure spec shard index d
  unfolding pair_measure after_verdict
  pair-faulty q = rw (← e, q)

  module _ (q : a ≡ C.Sound) where
    whole : length index ≡ index_length_of spec
    whole = (sound_seamed spec shard index d (sym e ∙ q)).0

    sound : SoundShard spec shard (index ++ d)
    sound = check-passes-sound spec shard (index ++ d) (sound_seamed spec shard index d (sym e ∙ q)).1

    pub pair_parts : SettleableShard spec index d
    pair_parts = rw (seamed_front spec index d whole, seamed_back spec index d whole) at (sound_settleable sound)

    pub pair_ranges : RangedShard spec index d
    pair_ranges = rw (seamed_front spec index d whole, seamed_back spec index d whole) at (sound_ranged sound)

    pub pair_passed : {r : MeasureAnswer} → r ≡ measured_in spec index d → r ≡ pair_measure spec shard index d
    unfolding pair_measure after_verdict
    pair_passed h = rw (← e, q) h

pub ruleset paired = (pair_stopped, pair-faulty, pair_parts, pair_ranges, pair_passed, rules)

-- but for 23, as for the joined file
pub measure_as_joined : (spec : Sharding) (shard : ℕ) (index d : List ℕ) → length index ≡ index_length_of spec → pair_measure spec shard index d ≡ measure_answer spec shard (index ++ d)
unfolding pair_measure measure_answer
measure_as_joined spec shard index d e = rw (check_as_joined spec shard index d e, seamed_front spec index d e, seamed_back spec index d e)

-- a fault that it names is the check's
pub named-fault : (spec : Sharding) (index d : List ℕ) (a : CheckAnswer) {k m p : ℕ} → after_verdict a (measured_in spec index d) ≡ Faulty k m p → a ≡ C.Faulty k m p
unfolding after_verdict
named-fault spec index d C.Sound {k} {m} {p} e = absurd (none (passes (chunk_bytes spec index d)) (rw (measured-pick spec index d) at e))
  where
    none : (b : Bool) → pick b (Refused 27) (Sound (measure_of spec index d)) ≡ Faulty k m p → ⊥
    none true e = let z : ◌≡◌ {A = ℕ} 0 1 = cc in omega arith
    none false e = let z : ◌≡◌ {A = ℕ} 0 1 = cc in omega arith
named-fault spec index d (C.Refused n) e = let z : ◌≡◌ {A = ℕ} 0 1 = cc in absurd (omega arith)
named-fault spec index d (C.Faulty n i q) e = cc
