-- The ways out of `places_of`, and that each place is what is answered for its id alone.
use Prim.Native.Nat.{ℕ, ◌+◌, ◌≤◌, ◌<◌}
use mathlib.Core.Path.{◌≡◌, refl, sym, ◌∙◌}
use mathlib.Core.Bool.{Bool, true, false, not}
use mathlib.Core.List.{List, [], ◌∷◌, map}
use native.Mathlib.Omega.{arith}
use native.Mathlib.Numerals.{add-one}
use borrow.Author.Rules.{rules}
use borrow.Author.Tests.{lt-ltb, le-ltb, not-false}
use lib.Dec.{ltb}
use lib.ListN.{length, length-map, get_or, set, drop}
use lib.Seq.{drop-cons}
use Rattle.refusal.specs.Choice.{pick}
use Rattle.refusal.specs.Checks.{first_number}
use Rattle.std.specs.Prelude.{Ok}
use Rattle.refusal.specs.Answers.{refuse}
use Rattle.refusal.proofs.Picks.{by_picks}
use Rattle.refusal.proofs.Refusing.{by_number, by_none}
use Rattle.endian.specs.Place.{paste}
use Rattle.endian.proofs.Paste.{paste-front}
use Rattle.endian.proofs.Mapped.{map_next}
use Rattle.sharding.specs.declared.Sharding.{Sharding}
use Rattle.sharding.specs.Specification.{allowed}
use Rattle.sharding.specs.placement.Place.{shard_of, minishard_of, place_of, place_answer}
use Rattle.sharding.specs.batch.Batch.{shards_of, minishards_of, places_checks, places_answer, shards_left, minishards_left}
use Rattle.sharding.proofs.placement.Placed.{answer_at}

-- what is left to write for the ids from i on, after that for the id at i
pub place_next : (f : ℕ → ℕ) (ids : List ℕ) (i : ℕ) (d : List ℕ) {e : List ℕ} → paste i (map f (drop i ids)) d ≡ e
    → {v : ℕ} → i < length ids → length ids ≤ length d → v ≡ f (get_or ids i 0) → paste (i + 1) (map f (drop (i + 1) ids)) (set d i v) ≡ e
place_next f ids i d h l m w = map_next f ids i d h (rw (add-one i) (drop-cons ids i 0 l)) w (omega arith)

-- ---- the ways out: the number of the first check that holds, or 0

module _ (spec : Sharding) (ids shards minishards : List ℕ) where
  module _ {b : Bool} (a : b ≡ allowed spec) where
    pub places_1 : not b ≡ true → first_number (places_checks spec ids shards minishards) ≡ 1
    unfolding first_number places_checks
    places_1 t = rw (← a, t)

    pub places_13_shards : not b ≡ false → length shards < length ids → first_number (places_checks spec ids shards minishards) ≡ 13
    unfolding first_number places_checks shards_of
    places_13_shards t h = rw (← a, t, length-map, lt-ltb _ _ h)

    module _ (t : not b ≡ false) (g : length ids ≤ length shards) where
      pub places_13_minishards : length minishards < length ids → first_number (places_checks spec ids shards minishards) ≡ 13
      unfolding first_number places_checks shards_of minishards_of
      places_13_minishards h = simp length-map (rw (← a, t, le-ltb _ _ g, lt-ltb _ _ h))

      pub places_0 : length ids ≤ length minishards → first_number (places_checks spec ids shards minishards) ≡ 0
      unfolding first_number places_checks shards_of minishards_of
      places_0 h = simp length-map (rw (← a, t, le-ltb _ _ g, le-ltb _ _ h))

  module _ (k : ℕ) (h : 0 < k) (f : first_number (places_checks spec ids shards minishards) ≡ k) where
    pub places-refused : refuse k ≡ places_answer spec ids shards minishards
    unfolding places_answer
    places-refused = sym (by_number refuse (places_checks spec ids shards minishards) _ k f h)

    pub shards-kept : shards ≡ shards_left spec ids shards minishards
    unfolding shards_left
    shards-kept = sym (by_number (λ j. shards) (places_checks spec ids shards minishards) _ k f h)

    pub minishards-kept : minishards ≡ minishards_left spec ids shards minishards
    unfolding minishards_left
    minishards-kept = sym (by_number (λ j. minishards) (places_checks spec ids shards minishards) _ k f h)

  module _ (f : first_number (places_checks spec ids shards minishards) ≡ 0) {now : List ℕ} where
    pub shards-over : now ≡ paste 0 (map (shard_of spec) ids) shards → now ≡ shards_left spec ids shards minishards
    unfolding shards_left shards_of
    shards-over p = p ∙ paste-front (map (shard_of spec) ids) shards _ refl ∙ sym (by_none (λ j. shards) (places_checks spec ids shards minishards) _ f)

    pub minishards-over : now ≡ paste 0 (map (minishard_of spec) ids) minishards → now ≡ minishards_left spec ids shards minishards
    unfolding minishards_left minishards_of
    minishards-over p = p ∙ paste-front (map (minishard_of spec) ids) minishards _ refl ∙ sym (by_none (λ j. minishards) (places_checks spec ids shards minishards) _ f)

  pub places-written : first_number (places_checks spec ids shards minishards) ≡ 0 → Ok (length ids) ≡ places_answer spec ids shards minishards
  unfolding places_answer
  places-written f = sym (by_none refuse (places_checks spec ids shards minishards) _ f)

pub ruleset placing = (places_1, places_13_shards, places_13_minishards, places_0, shards-over, minishards-over, places-written, rules)

-- ---- each place is what is answered for its id alone

-- three checks that were passed
passed : (a b d : Bool) {n m : ℕ} → pick a (refuse 1) (pick b (refuse 13) (pick d (refuse 13) (Ok m))) ≡ Ok n → (a ≡ false) × (n ≡ m)
passed true b d e = (cc, cc)
passed false true d e = (cc, cc)
passed false false true e = (cc, cc)
passed false false false e = (refl, cc)

each-place : (spec : Sharding) (ids : List ℕ) → allowed spec ≡ true → map (place_answer spec) ids ≡ map (λ id. Ok (place_of spec id)) ids
each-place spec [] a = refl
each-place spec (id ∷ ids) a = rw (← answer_at spec id (sym a) refl refl, each-place spec ids a)

pub places_of_each : (spec : Sharding) (ids shards minishards : List ℕ) {n : ℕ} → places_answer spec ids shards minishards ≡ Ok n
    → (n ≡ length ids) × (map (place_answer spec) ids ≡ map (λ id. Ok (place_of spec id)) ids)
unfolding places_answer places_checks
places_of_each spec ids shards minishards e =
    let p =
    passed (not (allowed spec)) (ltb (length shards) (length (shards_of spec ids))) (ltb (length minishards) (length (minishards_of spec ids)))
    (sym (by_picks refuse (places_checks spec ids shards minishards) _ refl) ∙ e) in
    (p.1, each-place spec ids (not-false (allowed spec) p.0))
