-- The calls that list a minishard of a pair, a law for each way out.
use Prim.Native.Nat.{ℕ, zero, suc, ◌*◌, ◌/◌, ◌≤◌, ◌<◌}
use mathlib.Core.Path.{◌≡◌, refl, sym, ◌∙◌}
use mathlib.Core.Bool.{Bool, true, false, not}
use mathlib.Core.List.{List, ◌++◌}
use native.Mathlib.Omega.{arith}
use lib.ListN.{length}
use borrow.Author.Rules.{rules}
use borrow.Author.Tests.{le-leb, lt-leb}
use Rattle.refusal.specs.Choice.{pick}
use Rattle.refusal.specs.Checks.{first_number, unless}
use Rattle.refusal.proofs.Picks.{by_picks}
use Rattle.refusal.proofs.Tests.{told-no, told-yes}
use Rattle.endian.specs.Place.{paste}
use Rattle.sharding.specs.declared.Sharding.{Sharding}
use Rattle.sharding.specs.Specification.{allowed, minishard_count_of, shard_count_of, no_such_shard, no_such_minishard}
use Rattle.shard.specs.index.Index.{entry_start_of, entry_end_of, entry_count}
use Rattle.shard.specs.index.Reading.{ReadableIn}
use Rattle.shard.specs.File.{index_length_of, index_part, data_part}
use Rattle.shard.proofs.Numbers.{unless-some, unless-none}
use Rattle.split_shard.specs.seam.Pair.{length_number}
use Rattle.split_shard.proofs.seam.Pairs.{before_seamed, before-length, number_seamed, seamed_index, seamed_data, seamed_front, seamed_rest, seam_measured, seam_short}
use Rattle.lookup.specs.entries.Entries.{listing_in}
use Rattle.refusal.specs.declared.CountAnswer.{CountAnswer}
use Rattle.refusal.specs.declared.CountAnswer.TheVariants.{Count, Refused, Faulty}
use Rattle.lookup.specs.listings.Listing.{asked_checks, count_in, count_answer, listing_answer, listing_left}
use Rattle.lookup.proofs.listings.Refused.{asked_in}
use Rattle.lookup.proofs.listings.Listings as one
use Rattle.split_shard.specs.form.Answers.{pair_asked_checks, pair_count, pair_listing, pair_listing_left}

-- ---- the count

module _ (spec : Sharding) (shard : ℕ) (index d : List ℕ) (m : ℕ) {b : Bool} (p : b ≡ allowed spec) where
  -- 1, 5, 33, 23, 6, then as in one file
  count_picks : pair_count spec shard index d m
      ≡ pick (not (allowed spec)) (Refused 1)
      (pick (no_such_shard spec shard) (Refused 5)
      (pick (no_such_minishard spec m) (Refused 33)
      (unless Refused (length_number spec index d) (count_in spec shard (index_part spec (index ++ d)) (data_part spec (index ++ d)) m))))
  unfolding pair_count pair_asked_checks asked_checks
  count_picks =
      before-length (asked_checks spec shard m) (asked_in spec shard m) spec index Refused d _ (one.count-files spec shard (index ++ d) m)
      ∙ by_picks Refused (asked_checks spec shard m) _ refl

  pub count_spec : not b ≡ true → Refused 1 ≡ pair_count spec shard index d m
  count_spec q = rw (count_picks, told-no p q)

  module _ (q : not b ≡ false) {c : ℕ} (u : c ≡ shard_count_of spec) where
    pub count-shard : c ≤ shard → Refused 5 ≡ pair_count spec shard index d m
    count-shard l = rw (count_picks, told-yes p q, ← u, le-leb c shard l)

    module _ (l : shard < c) {k : ℕ} (v : k ≡ minishard_count_of spec) where
      pub count-minishard : k ≤ m → Refused 33 ≡ pair_count spec shard index d m
      count-minishard o = rw (count_picks, told-yes p q, ← u, lt-leb c shard l, ← v, le-leb k m o)

      module _ (o : m < k) {n : ℕ} (e : n ≡ length_number spec index d) where
        numbered : no_such_minishard spec m ≡ false
        numbered = rw (← v, lt-leb k m o)

        pub count-length : (n ≡ 0 → ⊥) → Refused n ≡ pair_count spec shard index d m
        count-length z = rw (count_picks, told-yes p q, ← u, lt-leb c shard l, numbered, ← e) (unless-some Refused n _ z)

        pub count-inside : n ≡ 0 → {a : CountAnswer} → a ≡ count_in spec shard index d m → a ≡ pair_count spec shard index d m
        count-inside z g =
            let s = number_seamed spec index d (sym e ∙ z) in
            rw (count_picks, told-yes p q, ← u, lt-leb c shard l, numbered, ← e, seamed_index s, seamed_data s) (g ∙ unless-none Refused n _ z)

pub ruleset counting = (count_spec, count-shard, count-minishard, count-length, count-inside, seam_measured, seam_short, told-yes, rules)

-- ---- the listing, by what the count answered

abbrev count_of : List ℕ → ℕ → ℕ
count_of x m = entry_count (entry_start_of x m) (entry_end_of x m)

-- a refusal of the first call is that of the second, by 1, 5, 33 and 23 or by the joined file
stopped : (n k : ℕ) {r x y : CountAnswer} → r ≡ unless Refused n x → r ≡ Refused k → (x ≡ Refused k → Refused k ≡ y) → Refused k ≡ unless Refused n y
unfolding unless
stopped zero k p q f = f (sym p ∙ q)
stopped (suc n) k p q f = sym q ∙ p

faulted : (n k at : ℕ) {r x y : CountAnswer} → r ≡ unless Refused n x → r ≡ Faulty k at → (x ≡ Faulty k at → Faulty k at ≡ y) → Faulty k at ≡ unless Refused n y
unfolding unless
faulted zero k at p q f = f (sym p ∙ q)
faulted (suc n) k at p q f = let z : ◌≡◌ {A = ℕ} 0 1 = cc in absurd (omega arith)

kept : (n : ℕ) {b r x : CountAnswer} {out y : List ℕ} → r ≡ unless Refused n x → r ≡ b → (x ≡ b → out ≡ y) → out ≡ unless (λ k. out) n y
unfolding unless
kept zero p q f = f (sym p ∙ q)
kept (suc n) p q f = refl

counted : (n k : ℕ) {r x : CountAnswer} → r ≡ unless Refused n x → r ≡ Count k → (n ≡ 0) × (x ≡ Count k)
unfolding unless
counted zero k p q = (refl, sym p ∙ q)
counted (suc n) k p q = let z : ◌≡◌ {A = ℕ} 0 1 = cc in absurd (omega arith)

module _ (spec : Sharding) (shard : ℕ) (index d : List ℕ) (m : ℕ) (out : List ℕ) {r : CountAnswer} (p : r ≡ pair_count spec shard index d m) where
  abbrev first : ℕ
  first = first_number (pair_asked_checks spec shard m index)

  given : r ≡ unless Refused first (count_answer spec shard (index ++ d) m)
  unfolding pair_count
  given = p

  pub answer-refused : {k : ℕ} → r ≡ Refused k → Refused k ≡ pair_listing spec shard index d m out
  unfolding pair_listing
  answer-refused {k} q = stopped first k given q (λ e. one.answer-refused spec shard (index ++ d) m out refl e)

  pub out_refused : {k : ℕ} → r ≡ Refused k → out ≡ pair_listing_left spec shard index d m out
  unfolding pair_listing_left
  out_refused q = kept first given q (λ e. one.out_refused spec shard (index ++ d) m out refl e)

  pub answer-faulty : {k at : ℕ} → r ≡ Faulty k at → Faulty k at ≡ pair_listing spec shard index d m out
  unfolding pair_listing
  answer-faulty {k} {at} q = faulted first k at given q (λ e. one.answer-faulty spec shard (index ++ d) m out refl e)

  pub out_faulty : {k at : ℕ} → r ≡ Faulty k at → out ≡ pair_listing_left spec shard index d m out
  unfolding pair_listing_left
  out_faulty q = kept first given q (λ e. one.out_faulty spec shard (index ++ d) m out refl e)

  module _ {k : ℕ} (q : r ≡ Count k) where
    joined : count_answer spec shard (index ++ d) m ≡ Count k
    joined = (counted first k given q).1

    measured : length index ≡ index_length_of spec
    unfolding pair_asked_checks
    measured = before_seamed (asked_checks spec shard m) (asked_in spec shard m) spec index (counted first k given q).0

    answers : {a : CountAnswer} → a ≡ listing_answer spec shard (index ++ d) m out → a ≡ pair_listing spec shard index d m out
    unfolding pair_listing unless
    answers e = rw (counted first k given q).0 e

    leaves : {o : List ℕ} → o ≡ listing_left spec shard (index ++ d) m out → o ≡ pair_listing_left spec shard index d m out
    unfolding pair_listing_left unless
    leaves e = rw (counted first k given q).0 e

    pub parts-readable : ReadableIn index d m
    parts-readable = rw (seamed_front spec index d measured, seamed_rest spec index d measured) at (one.parts-readable spec shard (index ++ d) m out refl joined refl)

    pub has_room : k ≤ length out / 3 → 3 * count_of index m ≤ length out
    has_room h = rw (seamed_front spec index d measured) at (one.has_room spec shard (index ++ d) m out refl joined refl h)

    pub answer-short : length out / 3 < k → Refused 13 ≡ pair_listing spec shard index d m out
    answer-short h = answers (one.answer-short spec shard (index ++ d) m out refl joined h)

    pub out_short : length out / 3 < k → out ≡ pair_listing_left spec shard index d m out
    out_short h = leaves (one.out_short spec shard (index ++ d) m out refl joined h)

    pub answer-whole : k ≤ length out / 3 → Count (3 * k) ≡ pair_listing spec shard index d m out
    answer-whole h = answers (one.answer-whole spec shard (index ++ d) m out refl joined h)

    pub out_whole : k ≤ length out / 3 → {o : List ℕ} → o ≡ paste 0 (listing_in index d m) out → o ≡ pair_listing_left spec shard index d m out
    out_whole h w = leaves (one.out_whole spec shard (index ++ d) m out refl joined refl h (rw (seamed_front spec index d measured, seamed_rest spec index d measured) w))

pub ruleset listing = (answer-refused, out_refused, answer-faulty, out_faulty, parts-readable, has_room, answer-short, out_short, answer-whole, out_whole, rules)
