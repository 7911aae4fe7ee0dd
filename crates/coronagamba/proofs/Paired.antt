-- What comes with a refusal of a pair has room in the answer word, as with one of the joined file; and what the match on the answer to a range
-- tells.
use Prim.Native.Nat.{ℕ, zero, suc, ◌+◌, ◌<◌}
use mathlib.Core.Path.{◌≡◌, refl, sym, ap, ◌∙◌}
use mathlib.Core.Bool.{Bool}
use mathlib.Core.List.{List, ◌++◌}
use native.Mathlib.Omega.{arith}
use borrow.Author.Rules.{rules}
use Rattle.refusal.specs.Checks.{first_number, unless}
use Rattle.sharding.specs.declared.Sharding.{Sharding}
use Rattle.sharding.specs.Specification.{no_such_shard}
use Rattle.shard.specs.declared.CheckAnswer.{CheckAnswer}
use Rattle.shard.specs.declared.CheckAnswer.TheVariants as C
use Rattle.shard.specs.File.{check_answer}
use Rattle.lookup.specs.declared.id_search.LookupAnswer.{LookupAnswer}
use Rattle.lookup.specs.declared.id_search.LookupAnswer.TheVariants as L
use Rattle.refusal.specs.declared.CountAnswer.{CountAnswer}
use Rattle.refusal.specs.declared.CountAnswer.TheVariants as N
use Rattle.split_shard.specs.declared.held_range.RangeAnswer.{RangeAnswer}
use Rattle.split_shard.specs.declared.held_range.RangeAnswer.TheVariants as R
use Rattle.split_shard.specs.seam.Pair.{pair_checks}
use Rattle.split_shard.specs.seam.Range.{range_answer, range_result}
use Rattle.split_shard.specs.Answers.{other_shard, pair_check, pair_lookup, pair_fragment}
use Rattle.split_shard.specs.form.Answers.{pair_asked_checks, pair_count, pair_listing, pair_unlisted, pair_length, pair_settle}
use Rattle.coronagamba.specs.word.Word.{word_of}
use Rattle.coronagamba.specs.Pairs.{file_after, place_after, range_after}
use Rattle.coronagamba.proofs.Told.{word-success, word-refused, after}
use Rattle.coronagamba.proofs.Checked.{minishard-fits, check-fits, lookup-fits, fragment-fits, count_fits, listing-fits, unlisted-fits, length-fits, settle-fits}

-- what is no refusal by 1, 5, 33 or 23 is the joined file's answer
joined : {A : Type 0} (n : ℕ) (r : ℕ → A) {f x : A} → ((k : ℕ) → r k ≡ f → ⊥) → unless r n x ≡ f → x ≡ f
unfolding unless
joined zero r other e = e
joined (suc n) r other e = absurd (other (suc n) e)

module _ (spec : Sharding) (shard : ℕ) (index d : List ℕ) where
  first : Bool → ℕ
  first five = first_number (pair_checks spec five index)

  module _ {a : CheckAnswer} {k m p : ℕ} (e : a ≡ pair_check spec shard index d) (h : a ≡ C.Faulty k m p) where
    faulty : check_answer spec shard (index ++ d) ≡ C.Faulty k m p
    unfolding pair_check first
    faulty = joined (first (no_such_shard spec shard)) C.Refused (λ j q. let z : ◌≡◌ {A = ℕ} 0 1 = cc in omega arith) (sym e ∙ h)

    pub pair-minishard-fits : m + 1 < 16777216
    pair-minishard-fits = minishard-fits spec shard (index ++ d) refl faulty

    pub pair-check-fits : p + 1 < 4294967296
    pair-check-fits = check-fits spec shard (index ++ d) refl faulty

  module _ (id : ℕ) {a : LookupAnswer} {k p : ℕ} where
    pub pair-lookup-fits : a ≡ pair_lookup spec shard index d id → a ≡ L.Faulty k p → p + 1 < 4294967296
    unfolding pair_lookup first
    pair-lookup-fits e h =
        lookup-fits spec shard (index ++ d) id refl (joined (first (other_shard spec shard id)) L.Refused (λ j q. let z : ◌≡◌ {A = ℕ} 0 1 = cc in omega arith) (sym e ∙ h))

    pub pair-fragment-fits : (level node : ℕ) → a ≡ pair_fragment spec shard index d id level node → a ≡ L.Faulty k p → p + 1 < 4294967296
    unfolding pair_fragment first
    pair-fragment-fits level node e h =
        fragment-fits spec shard (index ++ d) id level node refl
        (joined (first (other_shard spec shard id)) L.Refused (λ j q. let z : ◌≡◌ {A = ℕ} 0 1 = cc in omega arith) (sym e ∙ h))

  module _ (m : ℕ) {a : CountAnswer} {k p : ℕ} where
    pub pair-count-fits : a ≡ pair_count spec shard index d m → a ≡ N.Faulty k p → p + 1 < 4294967296
    unfolding pair_count
    pair-count-fits e h =
        count_fits spec shard (index ++ d) m refl (joined (first_number (pair_asked_checks spec shard m index)) N.Refused (λ j q. let z : ◌≡◌ {A = ℕ} 0 1 = cc in omega arith) (sym e ∙ h))

    pub pair-listing-fits : (out : List ℕ) → a ≡ pair_listing spec shard index d m out → a ≡ N.Faulty k p → p + 1 < 4294967296
    unfolding pair_listing
    pair-listing-fits out e h =
        listing-fits spec shard (index ++ d) m out refl
        (joined (first_number (pair_asked_checks spec shard m index)) N.Refused (λ j q. let z : ◌≡◌ {A = ℕ} 0 1 = cc in omega arith) (sym e ∙ h))

  pub pair-unlisted-fits : {a : CountAnswer} {k p : ℕ} → a ≡ pair_unlisted spec shard index d → a ≡ N.Faulty k p → p + 1 < 4294967296
  unfolding pair_unlisted first
  pair-unlisted-fits e h =
      unlisted-fits spec shard (index ++ d) refl (joined (first (no_such_shard spec shard)) N.Refused (λ j q. let z : ◌≡◌ {A = ℕ} 0 1 = cc in omega arith) (sym e ∙ h))

  module _ (dropping : Bool) {a : CountAnswer} {k p : ℕ} where
    pub pair-length-fits : a ≡ pair_length spec shard index d dropping → a ≡ N.Faulty k p → p + 1 < 4294967296
    unfolding pair_length first
    pair-length-fits e h =
        length-fits spec shard (index ++ d) dropping refl
        (joined (first (no_such_shard spec shard)) N.Refused (λ j q. let z : ◌≡◌ {A = ℕ} 0 1 = cc in omega arith) (sym e ∙ h))

    pub pair-settle-fits : (out : List ℕ) → a ≡ pair_settle spec shard index d dropping out → a ≡ N.Faulty k p → p + 1 < 4294967296
    unfolding pair_settle first
    pair-settle-fits out e h =
        settle-fits spec shard (index ++ d) dropping out refl
        (joined (first (no_such_shard spec shard)) N.Refused (λ j q. let z : ◌≡◌ {A = ℕ} 0 1 = cc in omega arith) (sym e ∙ h))

pub ruleset fitting = (pair-minishard-fits, pair-check-fits, pair-lookup-fits, pair-fragment-fits, pair-count-fits, pair-listing-fits, pair-unlisted-fits, pair-length-fits, pair-settle-fits, rules)

-- ---- a range

-- of the specification that the caller's numbers are
pub of_range : (index d : List ℕ) (start end : ℕ) {s t : Sharding} {b : RangeAnswer} → s ≡ t → b ≡ range_answer s index d start end → b ≡ range_answer t index d start end
of_range index d start end q e = e ∙ ap (λ (u : Sharding). range_answer u index d start end) q

module _ {a b : RangeAnswer} (e : b ≡ a) where
  module _ {s n : ℕ} (h : b ≡ R.InIndex s n) where
    pub index_word : 0 ≡ word_of (range_result a)
    index_word = word-success range_result e h refl

    pub index-file : (x : ℕ) → 0 ≡ file_after a x
    unfolding file_after
    index-file x = after file_after x e h

    pub index-place : (x : ℕ) → s ≡ place_after a x
    unfolding place_after
    index-place x = after place_after x e h

    pub index-bytes : (x : ℕ) → n ≡ range_after a x
    unfolding range_after
    index-bytes x = after range_after x e h

  module _ {s n : ℕ} (h : b ≡ R.InData s n) where
    pub data_word : 0 ≡ word_of (range_result a)
    data_word = word-success range_result e h refl

    pub data_file : (x : ℕ) → 1 ≡ file_after a x
    unfolding file_after
    data_file x = after file_after x e h

    pub data_place : (x : ℕ) → s ≡ place_after a x
    unfolding place_after
    data_place x = after place_after x e h

    pub data_bytes : (x : ℕ) → n ≡ range_after a x
    unfolding range_after
    data_bytes x = after range_after x e h

  module _ {k : ℕ} (h : b ≡ R.Refused k) where
    pub refused-word : k ≡ word_of (range_result a)
    refused-word = word-refused range_result e h refl

    pub refused-file : (x : ℕ) → x ≡ file_after a x
    unfolding file_after
    refused-file x = after file_after x e h

    pub refused-place : (x : ℕ) → x ≡ place_after a x
    unfolding place_after
    refused-place x = after place_after x e h

    pub refused-bytes : (x : ℕ) → x ≡ range_after a x
    unfolding range_after
    refused-bytes x = after range_after x e h

pub ruleset ranging = (of_range, index_word, index-file, index-place, index-bytes, data_word, data_file, data_place, data_bytes, refused-word, refused-file, refused-place, refused-bytes, rules)
