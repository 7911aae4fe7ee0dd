-- What each way out of a lookup shows.
use Rattle.std.proofs.Common.{◌≡◌, ℕ, ◌<◌, ◌≤◌, Bool, true, false, not, ◌||◌, eqb, List, length, take, ◌∙◌, eq-eqb, ne_eqb, le-leb}
use borrow.Author.Tests.{lt-leb}
use Rattle.refusal.specs.Choice.{pick}
use Rattle.refusal.specs.Checks.{answered}
use Rattle.refusal.proofs.Tests.{told-no, told-yes}
use Rattle.refusal.proofs.Positions.{at_both}
use Rattle.sharding.specs.declared.Sharding.{Sharding}
use Rattle.sharding.specs.Specification.{allowed, shard_count_of, no_such_shard}
use Rattle.sharding.specs.placement.Place.{shard_of}
use Rattle.shard.specs.index.Index.{most_shard_bytes}
use Rattle.shard.specs.File.{index_length_of, index_part, data_part, bad_file_length, file_checks}
use Rattle.shard.proofs.Numbers.{file_in, file_picks, file-answer}
use Rattle.shard.proofs.Split.{rest_of, rest-whole, length-short, length-long, length_good}
use Rattle.lookup.specs.declared.id_search.LookupAnswer.{LookupAnswer}
use Rattle.lookup.specs.declared.id_search.LookupAnswer.TheVariants.{Refused, Faulty}
use Rattle.lookup.specs.chosen_minishard.Chosen.{chosen_checks, chosen_chunk, lookup_in}
use Rattle.lookup.specs.Find.{lookup_checks, lookup_answer}

-- a file by its two parts, as the code takes them
pub parts-lookup : (spec : Sharding) (file : List ℕ) {n : ℕ} → n ≡ index_length_of spec → (shard id : ℕ) {a : LookupAnswer}
    → a ≡ lookup_in spec shard (take n file) (rest_of n file) id → a ≡ lookup_in spec shard (index_part spec file) (data_part spec file) id
parts-lookup spec file {n} e shard id r = rw (rest-whole n file, e) at r

-- ---- in one file: 1, 5, 6, then as above

module _ (spec : Sharding) (shard : ℕ) (file : List ℕ) (id : ℕ) where
  pub answer-files : lookup_answer spec shard file id
      ≡ answered Refused (file_checks spec (no_such_shard spec shard || not (eqb (shard_of spec id) shard)) file) (lookup_in spec shard (index_part spec file) (data_part spec file) id)
  unfolding lookup_answer lookup_checks lookup_in
  answer-files =
      at_both Refused Faulty (file_checks spec (no_such_shard spec shard || not (eqb (shard_of spec id) shard)) file) (chosen_checks spec shard (index_part spec file) (data_part spec file) id)
      (chosen_chunk spec (index_part spec file) (data_part spec file) id) (file_in spec (no_such_shard spec shard || not (eqb (shard_of spec id) shard)) file)
      ∙ file-answer spec (no_such_shard spec shard || not (eqb (shard_of spec id) shard)) file Refused Faulty _

  answer_picks : lookup_answer spec shard file id
      ≡ pick (not (allowed spec)) (Refused 1)
      (pick (no_such_shard spec shard || not (eqb (shard_of spec id) shard)) (Refused 5)
      (pick (bad_file_length spec (length file)) (Refused 6) (lookup_in spec shard (index_part spec file) (data_part spec file) id)))
  answer_picks = answer-files ∙ file_picks spec (no_such_shard spec shard || not (eqb (shard_of spec id) shard)) file Refused _

  module _ {b : Bool} (p : b ≡ allowed spec) where
    pub answer_spec : not b ≡ true → Refused 1 ≡ lookup_answer spec shard file id
    answer_spec q = rw (answer_picks, told-no p q)

    module _ (q : not b ≡ false) {c : ℕ} (u : c ≡ shard_count_of spec) where
      pub answer-shard : c ≤ shard → Refused 5 ≡ lookup_answer spec shard file id
      answer-shard l = rw (answer_picks, told-yes p q, ← u, le-leb c shard l)

      module _ (l : shard < c) {t : ℕ} (v : t ≡ shard_of spec id) where
        pub answer-other : (t ≡ shard → ⊥) → Refused 5 ≡ lookup_answer spec shard file id
        answer-other n = rw (answer_picks, told-yes p q, ← u, lt-leb c shard l, ← v, ne_eqb t shard n)

        module _ (o : t ≡ shard) {n : ℕ} (w : n ≡ index_length_of spec) where
          pub answer-short : length file < n → Refused 6 ≡ lookup_answer spec shard file id
          answer-short k = rw (answer_picks, told-yes p q, ← u, lt-leb c shard l, ← v, eq-eqb t shard o, length-short spec w k)

          pub answer-long : most_shard_bytes < length file → Refused 6 ≡ lookup_answer spec shard file id
          answer-long k = rw (answer_picks, told-yes p q, ← u, lt-leb c shard l, ← v, eq-eqb t shard o, length-long spec (length file) k)

          pub answer_in : n ≤ length file → length file ≤ most_shard_bytes → {a : LookupAnswer} → a ≡ lookup_in spec shard (index_part spec file) (data_part spec file) id → a ≡ lookup_answer spec shard file id
          answer_in k h e = rw (answer_picks, told-yes p q, ← u, lt-leb c shard l, ← v, eq-eqb t shard o, length_good spec w k h) e
