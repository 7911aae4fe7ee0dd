-- The calls that list a minishard refuse by their checks, and then leave the lent numbers as they were.
use Rattle.std.proofs.Common.{◌≡◌, ℕ, zero, suc, ltb, List, [], ◌∷◌, length, refl, ◌∙◌, arith}
use mathlib.Core.Option.{Option, none, some}
use Rattle.refusal.specs.Choice.{pick}
use Rattle.refusal.specs.Checks.{check, first_number, first_position, unless, left, refusal, answered_at}
use Rattle.refusal.specs.Result.{count_result, DecidedBy}
use Rattle.refusal.proofs.Results.{decided_at}
use Rattle.refusal.specs.Buffer.{room, over}
use Rattle.refusal.proofs.Picks.{AllIn, all_in_lem, all_in_both, by_picks}
use Rattle.refusal.proofs.Refusing.{answered-both}
use Rattle.refusal.proofs.Positions.{RefusesAt, at_both, at_plain, refusing_at, keeping_at}
use Rattle.sharding.specs.declared.Sharding.{Sharding}
use Rattle.shard.specs.Checks.{minishard_checks}
use Rattle.shard.specs.File.{index_part, data_part, bad_file_length}
use Rattle.shard.proofs.Numbers.{minishard_in}
use Rattle.refusal.specs.declared.CountAnswer.TheVariants.{Count, Refused, Faulty}
use Rattle.lookup.specs.listings.Listing.{listing_of, asked_checks, count_checks, count_answer, listing_checks, listing_answer, listing_left}

pub asked_in : (spec : Sharding) (shard m : ℕ) → AllIn (asked_checks spec shard m)
unfolding asked_checks
asked_in spec shard m = all_in_lem (asked_checks spec shard m) refl

module _ (spec : Sharding) (shard : ℕ) (file : List ℕ) (m : ℕ) where
  pub count-in : AllIn (count_checks spec shard file m)
  unfolding count_checks
  count-in =
      all_in_both (asked_checks spec shard m) (check 6 (bad_file_length spec (length file)) ∷ minishard_checks spec shard (index_part spec file) (data_part spec file) m)
      (asked_in spec shard m) ((omega arith, omega arith), minishard_in spec shard (index_part spec file) (data_part spec file) m)

  pub count-refuses : RefusesAt (count_answer spec shard file m) Refused Faulty (count_checks spec shard file m)
  unfolding count_answer
  count-refuses = refusing_at Refused Faulty (λ j k e. cc) (λ j k p q e. (cc, cc)) (λ j k p e. cc) (count_checks spec shard file m) _ (λ k e. cc) (λ k p e. cc) count-in

  pub count_decided : DecidedBy (count_checks spec shard file m) (count_result (count_answer spec shard file m))
  unfolding count_answer
  count_decided = decided_at count_result Refused (λ k t. refl) Faulty (λ k p. (refl, refl, refl)) (count_checks spec shard file m) _ refl count-in

  module _ (out : List ℕ) where
    -- the refusals of the count, then 13
    pub listing_picks : listing_answer spec shard file m out
        ≡ answered_at Refused Faulty (count_checks spec shard file m) (pick (ltb (length out) (length (listing_of spec file m))) (Refused 13) (Count (length (listing_of spec file m))))
    unfolding listing_answer listing_checks
    listing_picks =
        let last = room (listing_of spec file m) out ∷ [] in
        at_both Refused Faulty (count_checks spec shard file m) last _ count-in
        ∙ rw (at_plain Refused Faulty last (Count (length (listing_of spec file m))) (refl, tt), by_picks Refused last (Count (length (listing_of spec file m))) refl)

    pub left_picks : listing_left spec shard file m out
        ≡ left (count_checks spec shard file m) (pick (ltb (length out) (length (listing_of spec file m))) out (over (listing_of spec file m) out)) out
    unfolding listing_left listing_checks
    left_picks =
        let last = room (listing_of spec file m) out ∷ [] in
        answered-both (λ k. out) (count_checks spec shard file m) last _ count-in
        ∙ rw (by_picks (λ k. out) last (over (listing_of spec file m) out) refl)

    pub listing-in : AllIn (listing_checks spec shard file m out)
    unfolding listing_checks
    listing-in = all_in_both (count_checks spec shard file m) (room (listing_of spec file m) out ∷ []) count-in ((omega arith, omega arith), tt)

    pub listing-refuses : RefusesAt (listing_answer spec shard file m out) Refused Faulty (listing_checks spec shard file m out)
    unfolding listing_answer
    listing-refuses = refusing_at Refused Faulty (λ j k e. cc) (λ j k p q e. (cc, cc)) (λ j k p e. cc) (listing_checks spec shard file m out) _ (λ k e. cc) (λ k p e. cc) listing-in

    pub listing_decided : DecidedBy (listing_checks spec shard file m out) (count_result (listing_answer spec shard file m out))
    unfolding listing_answer
    listing_decided = decided_at count_result Refused (λ k t. refl) Faulty (λ k p. (refl, refl, refl)) (listing_checks spec shard file m out) _ refl listing-in

    pub listing-kept : (k : ℕ) (p : Option ℕ) → listing_answer spec shard file m out ≡ refusal Refused Faulty k p → listing_left spec shard file m out ≡ out
    unfolding listing_answer listing_left
    listing-kept k p e = keeping_at Refused Faulty (λ j k e. cc) (λ j k p q e. (cc, cc)) (λ j k p e. cc) (listing_checks spec shard file m out) _ (λ k e. cc) (λ k p e. cc) _ out k p e

    -- not refused, the listing stands in them, and past it what was there
    pub listing-written : (n : ℕ) → listing_answer spec shard file m out ≡ Count n
        → (n ≡ length (listing_of spec file m)) × (listing_left spec shard file m out ≡ over (listing_of spec file m) out)
    unfolding listing_answer listing_left
    listing-written n e = go (first_number (listing_checks spec shard file m out)) (first_position (listing_checks spec shard file m out)) e
      where
        go : (k : ℕ) (p : Option ℕ) → unless (λ j. refusal Refused Faulty j p) k (Count (length (listing_of spec file m))) ≡ Count n
            → (n ≡ length (listing_of spec file m)) × (unless (λ j. out) k (over (listing_of spec file m) out) ≡ over (listing_of spec file m) out)
        go zero p e = unfold unless in (cc, refl)
        go (suc k) none e = unfold unless in (let z : ◌≡◌ {A = ℕ} 0 1 = cc in absurd (omega arith))
        go (suc k) (some p) e = unfold unless in (let z : ◌≡◌ {A = ℕ} 0 1 = cc in absurd (omega arith))
