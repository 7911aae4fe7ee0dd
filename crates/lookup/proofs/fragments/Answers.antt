-- What each way out of the call shows: the answer is the lookup's, but for a chunk that was found.
use Rattle.std.proofs.Common.{◌≡◌, ℕ, zero, suc, Bool, true, false, not, ◌||◌, List, [], ◌∷◌, take, drop, sym, refl, ap, ◌∙◌}
use mathlib.Core.Option.{Option, none, some}
use Rattle.refusal.specs.Choice.{pick}
use Rattle.refusal.specs.Checks.{check, first_number, first_position, unless, refusal}
use Rattle.refusal.proofs.Tests.{told-no, told-yes}
use Rattle.refusal.proofs.Picks.{by_picks}
use Rattle.refusal.proofs.Positions.{at_both, at_plain}
use Rattle.sharding.specs.declared.Sharding.{Sharding}
use Rattle.sharding.specs.Specification.{is_mesh}
use Rattle.mesh_manifest.specs.nodes.Nodes.{has_node}
use Rattle.shard.specs.File.{index_part, data_part}
use Rattle.lookup.specs.declared.id_search.LookupAnswer.{LookupAnswer}
use Rattle.lookup.specs.declared.id_search.LookupAnswer.TheVariants.{Found, Refused, Faulty}
use Rattle.lookup.specs.id_search.Search.{chunk_of}
use Rattle.lookup.specs.chosen_minishard.Chosen.{chosen_chunk}
use Rattle.lookup.specs.Find.{lookup_checks, lookup_answer}
use Rattle.lookup.proofs.Refused.{all_in_lookup}
use Rattle.lookup.specs.fragments.Fragment.{fragment_before, fragment_in, manifest_of, manifest_start, no_node, fragment_checks, fragment_answer}

-- what becomes of a lookup's answer
abbrev pub after : Sharding → List ℕ → ℕ → ℕ → LookupAnswer → LookupAnswer
after spec file level node (Found start n) = pick (not (is_mesh spec)) (Refused 18) (fragment_in (take n (drop start file)) start level node)
after spec file level node (Refused number) = Refused number
after spec file level node (Faulty number position) = Faulty number position

-- a refusal stays
after-unless : (spec : Sharding) (file : List ℕ) (level node k : ℕ) (p : Option ℕ) (x : LookupAnswer)
    → unless (λ j. refusal Refused Faulty j p) k (after spec file level node x) ≡ after spec file level node (unless (λ j. refusal Refused Faulty j p) k x)
unfolding unless
after-unless spec file level node zero p x = refl
after-unless spec file level node (suc k) none x = refl
after-unless spec file level node (suc k) (some p) x = refl

-- 18 of a volume, then 18 of the manifest
pick-either : (a b : Bool) (x y : LookupAnswer) → pick (a || b) x y ≡ pick a x (pick b x y)
pick-either true b x y = refl
pick-either false b x y = refl

module _ (spec : Sharding) (shard : ℕ) (file : List ℕ) (id level node : ℕ) where
  last-after : pick (no_node spec (manifest_of spec file id) level node) (Refused 18) (fragment_before (manifest_of spec file id) (manifest_start spec file id) level node)
      ≡ after spec file level node (chosen_chunk spec (index_part spec file) (data_part spec file) id)
  unfolding no_node chosen_chunk chunk_of fragment_in
  last-after =
      let s = manifest_of spec file id in
      let found = fragment_before s (manifest_start spec file id) level node in
      pick-either (not (is_mesh spec)) (not (has_node s level node)) (Refused 18) found
      ∙ ap (pick (not (is_mesh spec)) (Refused 18)) (sym (by_picks Refused (check 18 (not (has_node s level node)) ∷ []) found refl))

  pub after-lookup : fragment_answer spec shard file id level node ≡ after spec file level node (lookup_answer spec shard file id)
  unfolding fragment_answer fragment_checks lookup_answer
  after-lookup =
      let last = check 18 (no_node spec (manifest_of spec file id) level node) ∷ [] in
      let found = fragment_before (manifest_of spec file id) (manifest_start spec file id) level node in
      at_both Refused Faulty (lookup_checks spec shard file id) last found (all_in_lookup spec shard file id)
      ∙ rw (at_plain Refused Faulty last found (refl, tt), by_picks Refused last found refl, last-after)
      (after-unless spec file level node (first_number (lookup_checks spec shard file id)) (first_position (lookup_checks spec shard file id))
      (chosen_chunk spec (index_part spec file) (data_part spec file) id))

  -- r is what the lookup gave
  module _ {r : LookupAnswer} (p : r ≡ lookup_answer spec shard file id) where
    pub answer-refused : {n : ℕ} → r ≡ Refused n → Refused n ≡ fragment_answer spec shard file id level node
    answer-refused q = rw (after-lookup, ← p, q)

    pub answer-faulty : {n position : ℕ} → r ≡ Faulty n position → Faulty n position ≡ fragment_answer spec shard file id level node
    answer-faulty q = rw (after-lookup, ← p, q)

    module _ {a k : ℕ} (q : r ≡ Found a k) {b : Bool} (u : b ≡ is_mesh spec) where
      pub answer-volume : not b ≡ true → Refused 18 ≡ fragment_answer spec shard file id level node
      answer-volume n = rw (after-lookup, ← p, q, told-no u n)

      pub answer-mesh : not b ≡ false → {s : List ℕ} → s ≡ take k (drop a file) → {x : LookupAnswer} → x ≡ fragment_in s a level node → x ≡ fragment_answer spec shard file id level node
      answer-mesh n f e = rw (after-lookup, ← p, q, told-yes u n) (rw f at e)
