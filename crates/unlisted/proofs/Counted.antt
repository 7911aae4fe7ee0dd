-- The count, by the walk in order or by windows; what a sound shard gives to it; its answer.
use Rattle.std.proofs.Common.{◌≡◌, ℕ, ◌+◌, ◌-◌, ◌*◌, ◌<◌, ◌≤◌, Bool, true, false, not, List, length, take, sym, refl, ap, ◌∙◌, arith, length-drop, length-take-le, rules}
use Rattle.refusal.specs.Result.{count_result, DecidedBy}
use Rattle.refusal.proofs.Results.{decided_at}
use Rattle.refusal.proofs.Tests.{told-yes}
use Rattle.refusal.proofs.Positions.{RefusesAt, refusing_at}
use Rattle.bitmap.specs.Positions.{after, misses}
use Rattle.bitmap.proofs.Counts.{misses-all, misses-same, misses-after, after-at}
use Rattle.sharding.specs.declared.Sharding.{Sharding}
use Rattle.sharding.specs.Specification.{allowed, minishard_count_of, shard_count_of}
use Rattle.shard.specs.index.Index.{entry_start_of, entry_end_of, most_shard_bytes}
use Rattle.shard.specs.declared.CheckAnswer.{CheckAnswer}
use Rattle.shard.specs.declared.CheckAnswer.TheVariants.{Sound, Refused as CheckRefused, Faulty as CheckFaulty}
use Rattle.shard.specs.File.{index_length_of, index_part, data_part, shard_checks, check_answer}
use Rattle.shard.specs.Sound.{SoundMinishard, SoundShard}
use Rattle.shard.specs.Faults.{shard_fault}
use Rattle.shard.proofs.Judged.{passes-minishard}
use Rattle.shard.proofs.Numbers.{shard_in}
use Rattle.shard.proofs.Split.{rest_of, rest-whole}
use Rattle.shard.proofs.Whole.{sound-passes-check}
use Rattle.shard.proofs.WholeAnswers.{check_disallowed, check-shard, check-short, check-long, check_sound, check-fault}
use Rattle.refusal.specs.declared.CountAnswer.TheVariants.{Count, Refused, Faulty}
use Rattle.unlisted.specs.declared.rising_walk.Run.{Run}
use Rattle.unlisted.specs.ranges.Ranges.{Range, chunk_range, lead_range, index_range, count_in, begin, finish, Has, LiesIn}
use Rattle.unlisted.specs.ranges.Covered.{covered_at, unlisted_bytes, file_unlisted}
use Rattle.unlisted.specs.declared.checked_walk.Judged.{Judged}
use Rattle.unlisted.specs.declared.counting.Counted.{Counted}
use Rattle.unlisted.specs.Judging.{JudgedAs, Counts}
use Rattle.unlisted.specs.stretches.Reading.{RangedShard}
use Rattle.unlisted.specs.rising_walk.Order.{broken, Tells}
use Rattle.unlisted.specs.Answers.{unlisted_answer}
use Rattle.shard.proofs.AfterCheck.{after_check, by_check}
use Rattle.unlisted.proofs.stretches.Covering.{ranged_in}
use Rattle.unlisted.proofs.ranges.Meaning.{covered_listed}

-- ---- all ranges lie within the data

module _ {spec : Sharding} {index d : List ℕ} (r : RangedShard spec index d) where
  some-entry : (m i : ℕ) → i < count_in index m → entry_start_of index m ≡ entry_end_of index m → ⊥
  some-entry m i l e = omega arith

  lies-below : (range : Range) (p : ℕ) → LiesIn spec index d range p → p < length d
  unfolding Has begin finish
  lies-below (chunk_range m i) p h =
      omega (arith, h.before, ((r.each m h.has.0).some (some-entry m i h.has.1)).inside i h.has.1)
  lies-below (lead_range m i) p h =
      omega (arith, h.before, ((r.each m h.has.0).some (some-entry m i h.has.1)).inside i h.has.1)
  lies-below (index_range m) p h =
      omega (arith, h.before, (r.each m h.has).ends (λ e. omega (arith, h.from, h.before)))

  covered_below : (p : ℕ) → covered_at spec index d p ≡ true → p < length d
  covered_below p e = let h = (covered_listed spec index d p).0 e in lies-below h.range p h.lies

  -- ---- the count

  module _ {run : Run} (t : Tells (covered_at spec index d) run) (n : run.last ≡ broken → ⊥) where
    pub order-short : run.to ≤ length d
    order-short = (t.told n).short (length d) covered_below

    pub order-counted : run.gaps + (length d - run.to) ≡ unlisted_bytes spec index d
    unfolding unlisted_bytes
    order-counted =
        let f = covered_at spec index d in
        let a = misses-after f run.to (length d - run.to) in
        let b : misses f (length d) ≡ misses f (run.to + (length d - run.to)) = ap (misses f) (omega (arith, order-short)) in
        let c : misses (after run.to f) (length d - run.to) ≡ length d - run.to =
        misses-all (after run.to f) (length d - run.to) (λ i l. sym (after-at run.to f i) ∙ (t.told n).past (run.to + i) (omega arith)) in
        omega (arith, (t.told n).count)

after-zero : (f : ℕ → Bool) (i : ℕ) → after 0 f i ≡ f i
unfolding after
after-zero f i = ap f (omega arith)

pub windows_counted : (spec : Sharding) (index d : List ℕ) {r : ℕ} → r ≡ misses (after 0 (covered_at spec index d)) (length d)
    → r ≡ unlisted_bytes spec index d
unfolding unlisted_bytes
windows_counted spec index d e = e ∙ misses-same (after 0 (covered_at spec index d)) (covered_at spec index d) (length d) (λ i l. after-zero (covered_at spec index d) i)

pub ruleset counting = (order-short, order-counted, windows_counted, rules)

-- ---- a sound shard

-- a shard of two parts whose minishards are sound
pub parts_ranged : {spec : Sharding} {shard : ℕ} {index d : List ℕ} → allowed spec ≡ true → 16 * minishard_count_of spec ≤ length index
    → length d ≤ most_shard_bytes
    → ((m : ℕ) → m < minishard_count_of spec → SoundMinishard spec shard index d m) → RangedShard spec index d
parts_ranged a h l each = record { permitted = a; short = l; each = λ m k. ranged_in (each m k) (omega arith) l }

pub sound_ranged : {spec : Sharding} {shard : ℕ} {file : List ℕ} → SoundShard spec shard file → RangedShard spec (index_part spec file) (data_part spec file)
sound_ranged {spec} {shard} {file} g =
    parts_ranged g.permitted (omega (arith, length-take-le (index_length_of spec) file g.held)) (omega (arith, length-drop (index_length_of spec) file, g.short)) g.each

-- ---- its answer

-- a file by its two parts, as the code takes them
pub parts-counts : (spec : Sharding) {shard : ℕ} (file : List ℕ) {n : ℕ} {r : Counted} → n ≡ index_length_of spec → Counts spec shard (take n file) (rest_of n file) r
    → Counts spec shard (index_part spec file) (data_part spec file) r
parts-counts spec file {n} e t = rw (rest-whole n file, e) at t

module _ (spec : Sharding) (shard : ℕ) (file : List ℕ) where
  pub unlisted_by_check : unlisted_answer spec shard file ≡ after_check Refused Faulty (check_answer spec shard file) (Count (file_unlisted spec file))
  unfolding unlisted_answer
  unlisted_by_check = by_check Refused Faulty (Count (file_unlisted spec file)) spec shard file

  -- the refusals are the check's
  pub unlisted-refuses : RefusesAt (unlisted_answer spec shard file) Refused Faulty (shard_checks spec shard file)
  unfolding unlisted_answer
  unlisted-refuses = refusing_at Refused Faulty (λ j k e. cc) (λ j k p q e. (cc, cc)) (λ j k p e. cc) (shard_checks spec shard file) _ (λ k e. cc) (λ k p e. cc) (shard_in spec shard file)

  pub unlisted_decided : DecidedBy (shard_checks spec shard file) (count_result (unlisted_answer spec shard file))
  unfolding unlisted_answer
  unlisted_decided = decided_at count_result Refused (λ k t. refl) Faulty (λ k p. (refl, refl, refl)) (shard_checks spec shard file) _ refl (shard_in spec shard file)

  -- of a sound shard the count is answered
  pub unlisted-sound : SoundShard spec shard file → unlisted_answer spec shard file ≡ Count (file_unlisted spec file)
  unlisted-sound g = unlisted_by_check ∙ rw (sound-passes-check spec shard file g)

  -- by what the check answers
  module _ {a : CheckAnswer} (e : a ≡ check_answer spec shard file) where
    unlisted-refused : {k : ℕ} → a ≡ CheckRefused k → Refused k ≡ unlisted_answer spec shard file
    unlisted-refused q = rw (unlisted_by_check, ← e, q)

    unlisted-faulty : {k m p : ℕ} → a ≡ CheckFaulty k m p → Faulty k p ≡ unlisted_answer spec shard file
    unlisted-faulty q = rw (unlisted_by_check, ← e, q)

    unlisted_passed : a ≡ Sound → Count (file_unlisted spec file) ≡ unlisted_answer spec shard file
    unlisted_passed q = rw (unlisted_by_check, ← e, q)

  -- by the way that it is reached
  module _ {b : Bool} (p : b ≡ allowed spec) where
    pub unlisted_disallowed : not b ≡ true → Refused 1 ≡ unlisted_answer spec shard file
    unlisted_disallowed q = unlisted-refused (check_disallowed spec shard file p q) refl

    module _ (q : not b ≡ false) where
      pub entry-allowed : allowed spec ≡ true
      entry-allowed = told-yes p q

      module _ {c : ℕ} (u : c ≡ shard_count_of spec) where
        pub unlisted-shard : c ≤ shard → Refused 5 ≡ unlisted_answer spec shard file
        unlisted-shard l = unlisted-refused (check-shard spec shard file p q u l) refl

        module _ (l : shard < c) {n : ℕ} (w : n ≡ index_length_of spec) where
          pub unlisted-short : length file < n → Refused 6 ≡ unlisted_answer spec shard file
          unlisted-short k = unlisted-refused (check-short spec shard file p q u l w k) refl

          pub unlisted-long : most_shard_bytes < length file → Refused 6 ≡ unlisted_answer spec shard file
          unlisted-long k = unlisted-refused (check-long spec shard file p q u l w k) refl

          module _ (k : n ≤ length file) (h : length file ≤ most_shard_bytes) {r : Counted} (counts : Counts spec shard (index_part spec file) (data_part spec file) r) where
            pub unlisted-counted : r.number ≡ 0 → Count r.bytes ≡ unlisted_answer spec shard file
            unlisted-counted z =
                ap (λ (j : ℕ). Count j) (counts.count z)
                ∙ unlisted_passed (check_sound spec shard file p q u l w k h refl (sym counts.number ∙ z)) refl

            pub unlisted-found : (r.number ≡ 0 → ⊥) → Faulty r.number r.position ≡ unlisted_answer spec shard file
            unlisted-found z =
                let f = shard_fault spec shard (index_part spec file) (data_part spec file) in
                let e : Faulty r.number r.position ≡ Faulty f.number f.position = rw (counts.number, counts.position) in
                e ∙ unlisted-faulty (check-fault spec shard file p q u l w k h refl (λ y. z (counts.number ∙ y))) refl

pub ruleset answering = (unlisted_disallowed, entry-allowed, unlisted-shard, unlisted-short, unlisted-long, unlisted-counted, unlisted-found, rules)

-- ---- the fault, or the count

module _ {spec : Sharding} {shard : ℕ} {index d : List ℕ} {r : Judged} (j : JudgedAs spec shard index d r) where
  pub judged-counts : (r.number ≡ 0 → ⊥) → Counts spec shard index d (record { number = r.number; position = r.position; bytes = 0 })
  judged-counts n = record { number = j.number; position = j.position; count = λ z. absurd (n z); none = λ _. refl }

  module _ (z : r.number ≡ 0) where
    pub judged_ranged : allowed spec ≡ true → length index ≡ index_length_of spec → length d ≤ most_shard_bytes → RangedShard spec index d
    judged_ranged a h l = parts_ranged a (omega arith) l (λ m k. passes-minishard spec shard index d m (j.each z m k))

    pub judged-tells : Tells (covered_at spec index d) r.run
    judged-tells = j.tells z

    pub judged-counted : {n : ℕ} → n ≡ unlisted_bytes spec index d → Counts spec shard index d (record { number = 0; position = r.position; bytes = n })
    judged-counted e = record { number = sym z ∙ j.number; position = j.position; count = λ q. e; none = λ n. absurd (n refl) }
