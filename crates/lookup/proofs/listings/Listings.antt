-- What each way out of the calls that list a minishard shows.
use Rattle.std.proofs.Common.{◌≡◌, ℕ, zero, suc, ◌+◌, ◌*◌, ◌/◌, ◌<◌, ◌≤◌, Bool, true, false, not, ltb, List, [], ◌∷◌, ◌++◌, length, take, sym, refl, ap, ◌∙◌, arith, ltb-false, le-ltb, lt-ltb, le-leb, leb-false}
use mathlib.Core.Option.{Option, none, some}
use borrow.Author.Tests.{lt-leb, not-false}
use Rattle.refusal.specs.Choice.{pick}
use Rattle.refusal.specs.Checks.{check, first_number, first_position, unless, answered, refusal}
use Rattle.refusal.proofs.Tests.{neither, told-no, told-yes}
use Rattle.refusal.proofs.Picks.{all_in_lem, by_picks}
use Rattle.refusal.proofs.Refusing.{first-both}
use Rattle.refusal.proofs.Positions.{at_both, at_plain}
use Rattle.endian.specs.Place.{paste}
use Rattle.endian.proofs.Paste.{paste-front}
use Rattle.sharding.specs.declared.Sharding.{Sharding}
use Rattle.sharding.specs.Specification.{allowed, minishard_count_of, shard_count_of, no_such_shard, no_such_minishard}
use Rattle.shard.specs.declared.index.Fault.{Fault}
use Rattle.shard.specs.index.Index.{entry_start_of, entry_end_of, entry_count, most_shard_bytes}
use Rattle.shard.specs.Faults.{fault_of}
use Rattle.shard.specs.Checks.{minishard_checks}
use Rattle.shard.specs.File.{index_length_of, index_part, data_part, bad_file_length}
use Rattle.shard.specs.Sound.{SoundMinishard}
use Rattle.shard.specs.index.Reading.{ReadableIn}
use Rattle.shard.proofs.Judged.{passes-minishard}
use Rattle.shard.proofs.Numbers.{or-none, pick-zero, unless-some, unless-none, minishard-number, minishard-answer}
use Rattle.shard.proofs.Passed.{sound-readable}
use Rattle.shard.proofs.Split.{rest_of, rest-whole, rest-short, front-index, length-short, length-long, length_good, index_short}
use Rattle.lookup.specs.entries.Entries.{listing_in}
use Rattle.lookup.proofs.entries.Entries.{length-entries}
use Rattle.refusal.specs.declared.CountAnswer.{CountAnswer}
use Rattle.refusal.specs.declared.CountAnswer.TheVariants.{Count, Refused, Faulty}
use Rattle.lookup.specs.listings.Listing.{listing_of, listed_count, count_in, asked_checks, count_checks, count_answer, listing_answer, listing_left}
use Rattle.lookup.proofs.listings.Refused.{listing_picks, left_picks}

-- how many chunks minishard m lists
abbrev count_of : List ℕ → ℕ → ℕ
count_of x m = entry_count (entry_start_of x m) (entry_end_of x m)

-- ---- over two parts: the count, or the fault

-- the minishard's fault refuses, with its number and position; without one its entries are counted
in_parts : (spec : Sharding) (shard : ℕ) (x d : List ℕ) (m : ℕ)
    → count_in spec shard x d m ≡ unless (λ k. Faulty k (fault_of spec shard x d m).position) (fault_of spec shard x d m).number (Count (count_of x m))
unfolding count_in
in_parts spec shard x d m = minishard-answer spec shard x d Refused Faulty m _

module _ (spec : Sharding) (shard m : ℕ) (x d : List ℕ) {r : Fault} (p : r ≡ fault_of spec shard x d m) where
  pub in_fault : (r.number ≡ 0 → ⊥) → Faulty r.number r.position ≡ count_in spec shard x d m
  in_fault h = rw (in_parts spec shard x d m, ← p) (unless-some (λ k. Faulty k r.position) _ _ h)

  module _ (z : r.number ≡ 0) where
    pub in_count : {k : ℕ} → k ≡ count_of x m → Count k ≡ count_in spec shard x d m
    in_count q = rw (in_parts spec shard x d m, ← p) (ap Count q ∙ unless-none (λ k. Faulty k r.position) _ _ z)

    pub in_entry : m < minishard_count_of spec → length x ≡ index_length_of spec → 16 * m + 16 ≤ length x
    in_entry l h = omega arith

    pub in_order : entry_start_of x m ≤ entry_end_of x m
    in_order = (passes-minishard spec shard x d m (ap (λ (f : Fault). f.number) (sym p) ∙ z)).ordered

-- a file by its two parts, as the code takes them
pub parts-count : (spec : Sharding) (file : List ℕ) (shard m : ℕ) {n : ℕ} → n ≡ index_length_of spec → {a : CountAnswer}
    → a ≡ count_in spec shard (take n file) (rest_of n file) m → a ≡ count_in spec shard (index_part spec file) (data_part spec file) m
parts-count spec file shard m {n} e r = rw (rest-whole n file, e) at r

-- ---- in a file: 1, 5, 33, 6, then as above

module _ (spec : Sharding) (shard : ℕ) (file : List ℕ) (m : ℕ) where
  pub count-files : count_answer spec shard file m
      ≡ answered Refused (asked_checks spec shard m ++ (check 6 (bad_file_length spec (length file)) ∷ [])) (count_in spec shard (index_part spec file) (data_part spec file) m)
  unfolding count_answer count_checks asked_checks count_in
  count-files =
      let checks = asked_checks spec shard m ++ (check 6 (bad_file_length spec (length file)) ∷ []) in
      at_both Refused Faulty checks (minishard_checks spec shard (index_part spec file) (data_part spec file) m) _ (all_in_lem checks refl)
      ∙ at_plain Refused Faulty checks _ (refl, (refl, (refl, (refl, tt))))

  count_picks : count_answer spec shard file m
      ≡ pick (not (allowed spec)) (Refused 1)
      (pick (no_such_shard spec shard) (Refused 5)
      (pick (no_such_minishard spec m) (Refused 33)
      (pick (bad_file_length spec (length file)) (Refused 6) (count_in spec shard (index_part spec file) (data_part spec file) m))))
  unfolding asked_checks
  count_picks = count-files ∙ by_picks Refused (asked_checks spec shard m ++ (check 6 (bad_file_length spec (length file)) ∷ [])) _ refl

  module _ {b : Bool} (p : b ≡ allowed spec) where
    pub count_spec : not b ≡ true → Refused 1 ≡ count_answer spec shard file m
    count_spec q = rw (count_picks, told-no p q)

    module _ (q : not b ≡ false) {c : ℕ} (u : c ≡ shard_count_of spec) where
      pub count-shard : c ≤ shard → Refused 5 ≡ count_answer spec shard file m
      count-shard l = rw (count_picks, told-yes p q, ← u, le-leb c shard l)

      module _ (l : shard < c) {k : ℕ} (v : k ≡ minishard_count_of spec) where
        pub count-minishard : k ≤ m → Refused 33 ≡ count_answer spec shard file m
        count-minishard o = rw (count_picks, told-yes p q, ← u, lt-leb c shard l, ← v, le-leb k m o)

        module _ (o : m < k) {n : ℕ} (w : n ≡ index_length_of spec) where
          pub count-short : length file < n → Refused 6 ≡ count_answer spec shard file m
          count-short h = rw (count_picks, told-yes p q, ← u, lt-leb c shard l, length-short spec w h, lt-leb (minishard_count_of spec) m (omega arith))

          pub count_long : most_shard_bytes < length file → Refused 6 ≡ count_answer spec shard file m
          count_long h = rw (count_picks, told-yes p q, ← u, lt-leb c shard l, length-long spec (length file) h, lt-leb (minishard_count_of spec) m (omega arith))

          pub count-parts : n ≤ length file → length file ≤ most_shard_bytes → {r : CountAnswer} → r ≡ count_in spec shard (index_part spec file) (data_part spec file) m
              → r ≡ count_answer spec shard file m
          count-parts h g e = rw (count_picks, told-yes p q, ← u, lt-leb c shard l, length_good spec w h g, lt-leb (minishard_count_of spec) m (omega arith)) e

-- ---- what a count shows

-- where none of 1, 5, 33 and 6 holds
pub record Asked (spec : Sharding) (file : List ℕ) (m : ℕ) : Type 0 where
  pub permitted : allowed spec ≡ true
  pub below : m < minishard_count_of spec
  pub held : index_length_of spec ≤ length file
  pub short : length file ≤ most_shard_bytes

pub asked-called : (spec : Sharding) (shard : ℕ) (file : List ℕ) (m : ℕ)
    → first_number (asked_checks spec shard m ++ (check 6 (bad_file_length spec (length file)) ∷ [])) ≡ 0 → Asked spec file m
unfolding asked_checks first_number bad_file_length
asked-called spec shard file m e =
    let q1 = pick-zero (not (allowed spec)) 0 _ e in
    let q5 = pick-zero (no_such_shard spec shard) 4 _ q1.1 in
    let q33 = pick-zero (no_such_minishard spec m) 32 _ q5.1 in
    let q6 = pick-zero (bad_file_length spec (length file)) 5 _ q33.1 in
    let o = neither (ltb (length file) (index_length_of spec)) _ q6.0 in
    record { permitted = not-false _ q1.0; below = leb-false _ _ q33.0; held = ltb-false _ _ o.0; short = ltb-false _ _ o.1 }

record Listable (spec : Sharding) (shard : ℕ) (file : List ℕ) (m : ℕ) : Type 0 where
  permitted : allowed spec ≡ true
  below : m < minishard_count_of spec
  held : index_length_of spec ≤ length file
  short : length file ≤ most_shard_bytes
  sound : SoundMinishard spec shard (index_part spec file) (data_part spec file) m

listable : (spec : Sharding) (shard : ℕ) (file : List ℕ) (m : ℕ) → first_number (count_checks spec shard file m) ≡ 0 → Listable spec shard file m
unfolding count_checks asked_checks
listable spec shard file m e =
    let checks = asked_checks spec shard m ++ (check 6 (bad_file_length spec (length file)) ∷ []) in
    let q = or-none _ _ (sym (first-both checks (minishard_checks spec shard (index_part spec file) (data_part spec file) m) (all_in_lem checks refl)) ∙ e) in
    let c = asked-called spec shard file m q.0 in
    record {
      permitted = c.permitted;
      below = c.below;
      held = c.held;
      short = c.short;
      sound = passes-minishard spec shard (index_part spec file) (data_part spec file) m (sym (minishard-number spec shard (index_part spec file) (data_part spec file) m) ∙ q.1);
    }

-- an answer that is not the one given is a refusal, whatever else would be given
stops : {A B : Type 0} (r : ℕ → A) (s : ℕ → B) (n : ℕ) (x y : A) (u : B) {b : A} → unless r n x ≡ b → (x ≡ b → ◌≡◌ {A = ℕ} 0 1) → (b ≡ unless r n y) × ((v : B) → ((k : ℕ) → v ≡ s k) → v ≡ unless s n u)
unfolding unless
stops r s zero x y u e never = let z = never e in absurd (omega arith)
stops r s (suc n) x y u e never = (sym e, λ v h. h (suc n))

counts : (n k c : ℕ) (p : Option ℕ) → unless (λ j. refusal Refused Faulty j p) n (Count c) ≡ Count k → (n ≡ 0) × (c ≡ k)
unfolding unless
counts zero k c p e = (refl, cc)
counts (suc n) k c none e = let z : ◌≡◌ {A = ℕ} 0 1 = cc in absurd (omega arith)
counts (suc n) k c (some p) e = let z : ◌≡◌ {A = ℕ} 0 1 = cc in absurd (omega arith)

-- ---- the listing, by what the count answered

module _ (spec : Sharding) (shard : ℕ) (file : List ℕ) (m : ℕ) (out : List ℕ) {r : CountAnswer} (p : r ≡ count_answer spec shard file m) where
  refused : {b : CountAnswer} → r ≡ b → (Count (listed_count spec file m) ≡ b → ◌≡◌ {A = ℕ} 0 1) → (b ≡ listing_answer spec shard file m out) × (out ≡ listing_left spec shard file m out)
  unfolding count_answer
  refused {b} q never =
      let n = first_number (count_checks spec shard file m) in
      let at = first_position (count_checks spec shard file m) in
      let t = stops (λ j. refusal Refused Faulty j at) (λ j. out) n _ _ _ (sym p ∙ q) never in
      (t.0 ∙ sym (listing_picks spec shard file m out), t.1 out (λ k. refl) ∙ sym (left_picks spec shard file m out))

  pub answer-refused : {k : ℕ} → r ≡ Refused k → Refused k ≡ listing_answer spec shard file m out
  answer-refused q = (refused q (λ e. cc)).0

  pub out_refused : {k : ℕ} → r ≡ Refused k → out ≡ listing_left spec shard file m out
  out_refused q = (refused q (λ e. cc)).1

  pub answer-faulty : {k at : ℕ} → r ≡ Faulty k at → Faulty k at ≡ listing_answer spec shard file m out
  answer-faulty q = (refused q (λ e. cc)).0

  pub out_faulty : {k at : ℕ} → r ≡ Faulty k at → out ≡ listing_left spec shard file m out
  out_faulty q = (refused q (λ e. cc)).1

  module _ {k : ℕ} (q : r ≡ Count k) where
    counted : (first_number (count_checks spec shard file m) ≡ 0) × (listed_count spec file m ≡ k)
    unfolding count_answer
    counted = counts (first_number (count_checks spec shard file m)) k (listed_count spec file m) (first_position (count_checks spec shard file m)) (sym p ∙ q)

    facts : Listable spec shard file m
    facts = listable spec shard file m counted.0

    pub is-permitted : allowed spec ≡ true
    is-permitted = facts.permitted

    is-length : 3 * k ≡ length (listing_of spec file m)
    unfolding listing_in
    is-length =
        let x = index_part spec file in
        let c = counted.1 in
        omega (arith, length-entries (length x) (data_part spec file) (entry_start_of x m) (count_of x m) 0 (count_of x m))

    -- of the two parts, as the code takes them
    module _ {n : ℕ} (e : n ≡ index_length_of spec) where
      pub index-held : n ≡ length (take n file)
      index-held = let f = facts in sym (front-index spec file e f.held ∙ sym e)

      pub index-within : n ≤ length file
      index-within = let f = facts in omega arith

      parts-sound : SoundMinishard spec shard (take n file) (rest_of n file) m
      parts-sound = rw (rest-whole n file, e) facts.sound

      pub parts-readable : ReadableIn (take n file) (rest_of n file) m
      parts-readable =
          let f = facts in
          sound-readable parts-sound (omega (arith, f.below, front-index spec file e f.held)) (index_short spec (front-index spec file e f.held) f.permitted) (rest-short spec file e f.short)

      pub has_room : k ≤ length out / 3 → 3 * count_of (take n file) m ≤ length out
      has_room h = let c : count_of (take n file) m ≡ k = rw e counted.1 in omega arith

      pub out_whole : {out' : List ℕ} → k ≤ length out / 3 → out' ≡ paste 0 (listing_in (take n file) (rest_of n file) m) out → out' ≡ listing_left spec shard file m out
      unfolding unless
      out_whole h w =
          (rw (rest-whole n file, e) at w)
          ∙ paste-front (listing_of spec file m) out (length (listing_of spec file m)) refl
          ∙ rw (left_picks spec shard file m out, counted.0, le-ltb (length out) (length (listing_of spec file m)) (omega (arith, is-length)))

    pub answer-short : length out / 3 < k → Refused 13 ≡ listing_answer spec shard file m out
    unfolding unless
    answer-short h = rw (listing_picks spec shard file m out, counted.0, lt-ltb (length out) (length (listing_of spec file m)) (omega (arith, is-length)))

    pub out_short : length out / 3 < k → out ≡ listing_left spec shard file m out
    unfolding unless
    out_short h = rw (left_picks spec shard file m out, counted.0, lt-ltb (length out) (length (listing_of spec file m)) (omega (arith, is-length)))

    pub answer-whole : k ≤ length out / 3 → Count (3 * k) ≡ listing_answer spec shard file m out
    unfolding unless
    answer-whole h = rw (listing_picks spec shard file m out, counted.0, le-ltb (length out) (length (listing_of spec file m)) (omega (arith, is-length)), ← is-length)
