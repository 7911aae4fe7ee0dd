-- Which refusals carry a position: one law over lists of checks gives it of every call.
use Prim.Native.Nat.{ℕ, zero, suc, ◌+◌}
use mathlib.Core.Path.{◌≡◌, refl}
use mathlib.Core.Logic.{◌↔◌}
use mathlib.Core.Bool.{Bool, true, false}
use mathlib.Core.List.{List, [], ◌∷◌, ◌++◌}
use mathlib.Core.Option.{Option, none, some}
use lib.ListN.{length}
use Rattle.refusal.specs.Choice.{pick}
use Rattle.refusal.specs.Checks.{Check, first_number, first_position}
use Rattle.refusal.specs.Result.{Result, count_result, DecidedBy}
use Rattle.sharding.specs.declared.Sharding.{Sharding}
use Rattle.sharding.specs.Specification.{is_mesh, minishard_count_of, no_such_shard}
use Rattle.sharding.specs.placement.Place.{minishard_of}
use Rattle.shard.specs.index.Index.{entry_start_of, entry_end_of, entry_count}
use Rattle.shard.specs.index.Tests.{EntryTest}
use Rattle.shard.specs.manifests.Mesh.{manifest_tests}
use Rattle.shard.specs.Faults.{entry_tests}
use Rattle.shard.specs.Checks.{entry_checks, minishard_checks, minishards_checks}
use Rattle.shard.specs.File.{index_part, data_part, file_checks, shard_checks, check_answer, check_result}
use Rattle.shard.proofs.Whole.{check_decided}
use Rattle.unlisted.specs.Answers.{unlisted_answer}
use Rattle.unlisted.proofs.Counted.{unlisted_decided}
use Rattle.lookup.specs.id_search.Search.{not_listed}
use Rattle.lookup.specs.chosen_minishard.Chosen.{chosen_checks}
use Rattle.lookup.specs.Find.{lookup_checks, lookup_answer, lookup_result}
use Rattle.lookup.proofs.Refused.{lookup_decided}
use Rattle.lookup.specs.fragments.Fragment.{fragment_checks, fragment_answer}
use Rattle.lookup.proofs.fragments.Refused.{fragment_decided}
use Rattle.lookup.specs.listings.Listing.{asked_checks, count_checks, count_answer, listing_checks, listing_answer}
use Rattle.lookup.proofs.listings.Refused.{count_decided, listing_decided}
use Rattle.settle.specs.answers.Answers.{unlisted_check, length_check, settled_length_checks, length_answer, settle_check, settle_checks, settle_answer}
use Rattle.settle.proofs.Refused.{length_decided, settle_decided}
use Rattle.split_shard.specs.seam.Pair.{pair_checks}
use Rattle.split_shard.specs.Answers.{other_shard, pair_check, pair_lookup, pair_fragment}
use Rattle.split_shard.specs.form.Answers.{pair_asked_checks, pair_count, pair_listing, pair_unlisted, pair_length, pair_settle}
use Rattle.holdings.specs.measures.Answers.{measure_answer, pair_measure, measure_result}
use Rattle.theorems.specs.Demands.{measure_checks}
use Rattle.theorems.specs.Orders.{is_placed, Carries}
use Rattle.theorems.proofs.Measures.{measure_decided, check_decided_pair, measure_decided_pair}
use Rattle.theorems.proofs.PairCalls.{lookup_decided_pair, fragment_decided_pair, count_decided_pair, listing_decided_pair, unlisted_decided_pair, length_decided_pair, settle_decided_pair}

-- ---- the law

abbrev has : Option ℕ → Bool
has none = false
has (some p) = true

-- each check has a position exactly where its number is one that carries one
Marked : List Check → Type 0
Marked [] = Unit {0}
Marked (c ∷ cs) = (is_placed c.number ≡ has c.position) × Marked cs

marked-both : (xs ys : List Check) → Marked xs → Marked ys → Marked (xs ++ ys)
unfolding Marked
marked-both [] ys h g = g
marked-both (c ∷ cs) ys h g = (h.0, marked-both cs ys h.1 g)

first-marked : (cs : List Check) → Marked cs → is_placed (first_number cs) ≡ has (first_position cs)
unfolding Marked first_number first_position
first-marked [] h = refl
first-marked (c ∷ cs) h = either c.holds h.0 (first-marked cs h.1)
  where
    either : (b : Bool) → is_placed c.number ≡ has c.position → is_placed (first_number cs) ≡ has (first_position cs)
        → is_placed (pick b c.number (first_number cs)) ≡ has (pick b c.position (first_position cs))
    either true f g = f
    either false f g = g

has-none : (p : Option ℕ) (b : Bool) → b ≡ has p → (p ≡ none) ↔ (b ≡ false)
has-none none b e = (λ z. e, λ z. refl)
has-none (some p) b e = (λ z. cc, λ z. cc)

carried : {A : Type 0} {r : Result A} (cs : List Check) → Marked cs → DecidedBy cs r → Carries r
carried {A} {r} cs m h = rw (h.position, h.number) (has-none (first_position cs) (is_placed (first_number cs)) (first-marked cs m))

-- ---- the lists

MarkedTests : List EntryTest → Type 0
MarkedTests [] = Unit {0}
MarkedTests (t ∷ ts) = (is_placed t.number ≡ true) × MarkedTests ts

marked_tests : (spec : Sharding) (shard m : ℕ) (d : List ℕ) (s n : ℕ) → MarkedTests (entry_tests spec shard m d s n)
unfolding entry_tests MarkedTests
marked_tests spec shard m d s n = (refl, (refl, (refl, go (is_mesh spec))))
  where
    go : (b : Bool) → MarkedTests (pick b (manifest_tests d s n) [])
    go true = unfold manifest_tests in (refl, (refl, (refl, (refl, tt))))
    go false = tt

marked-entries : (p n : ℕ) (ts : List EntryTest) → MarkedTests ts → Marked (entry_checks p n ts)
unfolding entry_checks Marked MarkedTests
marked-entries p n [] h = tt
marked-entries p n (t ∷ ts) h = (h.0, marked-entries p n ts h.1)

marked-minishard : (spec : Sharding) (shard : ℕ) (index d : List ℕ) (m : ℕ) → Marked (minishard_checks spec shard index d m)
unfolding minishard_checks Marked
marked-minishard spec shard index d m =
    let s = entry_start_of index m in
    let n = entry_count s (entry_end_of index m) in
    (refl, (refl, marked-entries (length index + s) n (entry_tests spec shard m d s n) (marked_tests spec shard m d s n)))

marked-minishards : (spec : Sharding) (shard : ℕ) (index d : List ℕ) (m k : ℕ) → Marked (minishards_checks spec shard index d m k)
unfolding minishards_checks
marked-minishards spec shard index d m zero = unfold Marked in tt
marked-minishards spec shard index d m (suc k) =
    marked-both (minishard_checks spec shard index d m) (minishards_checks spec shard index d (suc m) k) (marked-minishard spec shard index d m) (marked-minishards spec shard index d (suc m) k)

marked-file : (spec : Sharding) (five : Bool) (file : List ℕ) → Marked (file_checks spec five file)
unfolding file_checks Marked
marked-file spec five file = (refl, (refl, (refl, tt)))

marked_seam : (spec : Sharding) (five : Bool) (index : List ℕ) (cs : List Check) → Marked cs → Marked (pair_checks spec five index ++ cs)
unfolding pair_checks Marked
marked_seam spec five index cs m = (refl, (refl, (refl, m)))

marked-asked : (spec : Sharding) (shard m : ℕ) (index : List ℕ) (cs : List Check) → Marked cs → Marked (pair_asked_checks spec shard m index ++ cs)
unfolding pair_asked_checks asked_checks Marked
marked-asked spec shard m index cs h = (refl, (refl, (refl, (refl, h))))

module _ (spec : Sharding) (shard : ℕ) (file : List ℕ) where
  marked-shard : Marked (shard_checks spec shard file)
  unfolding shard_checks
  marked-shard = marked-both (file_checks spec (no_such_shard spec shard) file) _ (marked-file spec (no_such_shard spec shard) file) (marked-minishards spec shard (index_part spec file) (data_part spec file) 0 (minishard_count_of spec))

  marked-lookup : (id : ℕ) → Marked (lookup_checks spec shard file id)
  unfolding lookup_checks chosen_checks
  marked-lookup id =
      let index = index_part spec file in
      let m = minishard_of spec id in
      let last = not_listed (data_part spec file) (entry_start_of index m) (entry_count (entry_start_of index m) (entry_end_of index m)) id ∷ [] in
      let g : Marked last = unfold Marked in (refl, tt) in
      marked-both (file_checks spec (other_shard spec shard id) file) _ (marked-file spec (other_shard spec shard id) file)
      (marked-both (minishard_checks spec shard index (data_part spec file) m) last (marked-minishard spec shard index (data_part spec file) m) g)

  marked-fragment : (id level node : ℕ) → Marked (fragment_checks spec shard file id level node)
  unfolding fragment_checks
  marked-fragment id level node = marked-both (lookup_checks spec shard file id) _ (marked-lookup id) (unfold Marked in (refl, tt))

  marked-count : (m : ℕ) → Marked (count_checks spec shard file m)
  unfolding count_checks asked_checks Marked
  marked-count m = (refl, (refl, (refl, (refl, marked-minishard spec shard (index_part spec file) (data_part spec file) m))))

  marked-listing : (m : ℕ) (out : List ℕ) → Marked (listing_checks spec shard file m out)
  unfolding listing_checks
  marked-listing m out = marked-both (count_checks spec shard file m) _ (marked-count m) (unfold Marked in (refl, tt))

  marked-length : (dropping : Bool) → Marked (settled_length_checks spec shard file dropping)
  unfolding settled_length_checks unlisted_check length_check
  marked-length dropping = marked-both (shard_checks spec shard file) _ marked-shard (unfold Marked in (refl, (refl, tt)))

  marked-settle : (dropping : Bool) (out : List ℕ) → Marked (settle_checks spec shard file dropping out)
  unfolding settle_checks unlisted_check settle_check
  marked-settle dropping out = marked-both (shard_checks spec shard file) _ marked-shard (unfold Marked in (refl, (refl, tt)))

  marked-measure : Marked (measure_checks spec shard file)
  marked-measure = marked-both (shard_checks spec shard file) _ marked-shard (unfold Marked in (refl, tt))

-- ---- the calls on a file

module _ (spec : Sharding) (shard : ℕ) (file : List ℕ) where
  pub check-carries : Carries (check_result (check_answer spec shard file))
  check-carries = carried (shard_checks spec shard file) (marked-shard spec shard file) (check_decided spec shard file)

  pub lookup-carries : (id : ℕ) → Carries (lookup_result (lookup_answer spec shard file id))
  lookup-carries id = carried (lookup_checks spec shard file id) (marked-lookup spec shard file id) (lookup_decided spec shard file id)

  pub fragment-carries : (id level node : ℕ) → Carries (lookup_result (fragment_answer spec shard file id level node))
  fragment-carries id level node = carried (fragment_checks spec shard file id level node) (marked-fragment spec shard file id level node) (fragment_decided spec shard file id level node)

  pub count-carries : (m : ℕ) → Carries (count_result (count_answer spec shard file m))
  count-carries m = carried (count_checks spec shard file m) (marked-count spec shard file m) (count_decided spec shard file m)

  pub listing-carries : (m : ℕ) (out : List ℕ) → Carries (count_result (listing_answer spec shard file m out))
  listing-carries m out = carried (listing_checks spec shard file m out) (marked-listing spec shard file m out) (listing_decided spec shard file m out)

  pub unlisted-carries : Carries (count_result (unlisted_answer spec shard file))
  unlisted-carries = carried (shard_checks spec shard file) (marked-shard spec shard file) (unlisted_decided spec shard file)

  pub length-carries : (dropping : Bool) → Carries (count_result (length_answer spec shard file dropping))
  length-carries dropping = carried (settled_length_checks spec shard file dropping) (marked-length spec shard file dropping) (length_decided spec shard file dropping)

  pub settle-carries : (dropping : Bool) (out : List ℕ) → Carries (count_result (settle_answer spec shard file dropping out))
  settle-carries dropping out = carried (settle_checks spec shard file dropping out) (marked-settle spec shard file dropping out) (settle_decided spec shard file dropping out)

  pub measure-carries : Carries (measure_result (measure_answer spec shard file))
  measure-carries = carried (measure_checks spec shard file) (marked-measure spec shard file) (measure_decided spec shard file)

-- ---- the calls on a pair

module _ (spec : Sharding) (shard : ℕ) (index d : List ℕ) where
  seamed : {A : Type 0} {r : Result A} (five : Bool) (cs : List Check) → Marked cs → DecidedBy (pair_checks spec five index ++ cs) r → Carries r
  seamed five cs m h = carried (pair_checks spec five index ++ cs) (marked_seam spec five index cs m) h

  pub check-pair-carries : Carries (check_result (pair_check spec shard index d))
  check-pair-carries = seamed (no_such_shard spec shard) (shard_checks spec shard (index ++ d)) (marked-shard spec shard (index ++ d)) (check_decided_pair spec shard index d)

  pub lookup-pair-carries : (id : ℕ) → Carries (lookup_result (pair_lookup spec shard index d id))
  lookup-pair-carries id = seamed (other_shard spec shard id) (lookup_checks spec shard (index ++ d) id) (marked-lookup spec shard (index ++ d) id) (lookup_decided_pair spec shard index d id)

  pub fragment-pair-carries : (id level node : ℕ) → Carries (lookup_result (pair_fragment spec shard index d id level node))
  fragment-pair-carries id level node = seamed (other_shard spec shard id) (fragment_checks spec shard (index ++ d) id level node) (marked-fragment spec shard (index ++ d) id level node) (fragment_decided_pair spec shard index d id level node)

  pub count-pair-carries : (m : ℕ) → Carries (count_result (pair_count spec shard index d m))
  count-pair-carries m =
      let cs = count_checks spec shard (index ++ d) m in
      carried (pair_asked_checks spec shard m index ++ cs) (marked-asked spec shard m index cs (marked-count spec shard (index ++ d) m)) (count_decided_pair spec shard index d m)

  pub listing-pair-carries : (m : ℕ) (out : List ℕ) → Carries (count_result (pair_listing spec shard index d m out))
  listing-pair-carries m out =
      let cs = listing_checks spec shard (index ++ d) m out in
      carried (pair_asked_checks spec shard m index ++ cs) (marked-asked spec shard m index cs (marked-listing spec shard (index ++ d) m out)) (listing_decided_pair spec shard index d m out)

  pub unlisted-pair-carries : Carries (count_result (pair_unlisted spec shard index d))
  unlisted-pair-carries = seamed (no_such_shard spec shard) (shard_checks spec shard (index ++ d)) (marked-shard spec shard (index ++ d)) (unlisted_decided_pair spec shard index d)

  pub length-pair-carries : (dropping : Bool) → Carries (count_result (pair_length spec shard index d dropping))
  length-pair-carries dropping = seamed (no_such_shard spec shard) (settled_length_checks spec shard (index ++ d) dropping) (marked-length spec shard (index ++ d) dropping) (length_decided_pair spec shard index d dropping)

  pub settle-pair-carries : (dropping : Bool) (out : List ℕ) → Carries (count_result (pair_settle spec shard index d dropping out))
  settle-pair-carries dropping out = seamed (no_such_shard spec shard) (settle_checks spec shard (index ++ d) dropping out) (marked-settle spec shard (index ++ d) dropping out) (settle_decided_pair spec shard index d dropping out)

  pub measure-pair-carries : Carries (measure_result (pair_measure spec shard index d))
  measure-pair-carries = seamed (no_such_shard spec shard) (measure_checks spec shard (index ++ d)) (marked-measure spec shard (index ++ d)) (measure_decided_pair spec shard index d)
