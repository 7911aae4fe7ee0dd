-- 18 exactly: of a chunk that a lookup finds, where it is no manifest or has no such node. Any other refusal is the lookup's.
use Rattle.std.proofs.Common.{◌≡◌, ℕ, zero, suc, Bool, true, false, not, ◌||◌, eqb, ◌⊎◌, ◌↔◌, List, length, take, drop, sym, refl, ◌∙◌, inl, inr, arith, eqb-true}
use mathlib.Core.Option.{Option, none, some}
use Rattle.refusal.specs.Choice.{pick}
use Rattle.refusal.specs.Checks.{unless, refusal}
use Rattle.endian.specs.Range.{any_below}
use Rattle.endian.proofs.Ranges.{first_holds}
use Rattle.sharding.specs.declared.Sharding.{Sharding}
use Rattle.sharding.specs.Specification.{is_mesh, allowed, no_such_shard}
use Rattle.sharding.specs.placement.Place.{shard_of, minishard_of}
use Rattle.mesh_manifest.specs.nodes.Nodes.{has_node}
use Rattle.shard.specs.index.Index.{entry_start_of, entry_end_of, entry_count, id_steps}
use Rattle.shard.specs.Faults.{fault_of}
use Rattle.shard.specs.Lists.{ListsIn}
use Rattle.shard.specs.File.{index_part, data_part, bad_file_length}
use Rattle.shard.proofs.Numbers.{file_picks}
use Rattle.lookup.specs.declared.id_search.LookupAnswer.{LookupAnswer}
use Rattle.lookup.specs.declared.id_search.LookupAnswer.TheVariants.{Found, Refused, Faulty}
use Rattle.lookup.specs.id_search.Search.{is_id, chunk_of, found_in}
use Rattle.lookup.specs.chosen_minishard.Chosen.{lookup_in}
use Rattle.lookup.specs.Find.{lookup_answer}
use Rattle.lookup.specs.Lookups.{Asked}
use Rattle.lookup.proofs.id_search.Seek.{found_picks}
use Rattle.lookup.proofs.chosen_minishard.InParts.{in_parts}
use Rattle.lookup.proofs.Answers.{answer-files}
use Rattle.lookup.proofs.Handed.{found-file, found-bytes, chosen_entry}
use Rattle.lookup.proofs.Retrieval.{listed-chunk-is_handed_out}
use Rattle.lookup.specs.fragments.Fragment.{fragment_before, fragment_in, fragment_answer}
use Rattle.lookup.specs.fragments.Fragments.{LacksFragment}
use Rattle.lookup.proofs.fragments.Answers.{after, after-lookup}
use Rattle.lookup.proofs.fragments.Handed.{in_picks}

-- ---- a lookup does not answer 18

past-file : (a b c : Bool) (x : LookupAnswer) → pick a (Refused 1) (pick b (Refused 5) (pick c (Refused 6) x)) ≡ Refused 18 → x ≡ Refused 18
past-file true b c x e = let z : ◌≡◌ {A = ℕ} 1 18 = cc in absurd (omega arith)
past-file false true c x e = let z : ◌≡◌ {A = ℕ} 5 18 = cc in absurd (omega arith)
past-file false false true x e = let z : ◌≡◌ {A = ℕ} 6 18 = cc in absurd (omega arith)
past-file false false false x e = e

past-fault : (k p : ℕ) (x : LookupAnswer) → unless (λ j. Faulty j p) k x ≡ Refused 18 → x ≡ Refused 18
unfolding unless
past-fault zero p x e = e
past-fault (suc k) p x e = let z : ◌≡◌ {A = ℕ} 0 1 = cc in absurd (omega arith)

past-unlisted : (b : Bool) (x : LookupAnswer) → pick b (Refused 12) x ≡ Refused 18 → x ≡ Refused 18
past-unlisted true x e = let z : ◌≡◌ {A = ℕ} 12 18 = cc in absurd (omega arith)
past-unlisted false x e = e

no-lookup_18 : (spec : Sharding) (shard : ℕ) (file : List ℕ) (id : ℕ) → lookup_answer spec shard file id ≡ Refused 18 → ⊥
unfolding chunk_of
no-lookup_18 spec shard file id e =
    let x = index_part spec file in
    let d = data_part spec file in
    let m = minishard_of spec id in
    let five = no_such_shard spec shard || not (eqb (shard_of spec id) shard) in
    let s = entry_start_of x m in
    let n = entry_count s (entry_end_of x m) in
    let p = past-file (not (allowed spec)) five (bad_file_length spec (length file)) (lookup_in spec shard x d id)
    (sym (answer-files spec shard file id ∙ file_picks spec five file Refused (lookup_in spec shard x d id)) ∙ e) in
    let q = past-fault (fault_of spec shard x d m).number (fault_of spec shard x d m).position (found_in (length x) d s n id) (sym (in_parts spec shard x d id) ∙ p) in
    let f = past-unlisted (not (any_below n (is_id (id_steps d s) id))) (chunk_of (length x) d s n id) (sym (found_picks (length x) d s n id) ∙ q) in
    let z : ◌≡◌ {A = ℕ} 0 1 = cc in
    omega arith

-- ---- 18 exactly

-- a chunk that is found is listed with the id
found-lists : (spec : Sharding) (shard : ℕ) (file : List ℕ) (id a k : ℕ) → lookup_answer spec shard file id ≡ Found a k
    → ListsIn (index_part spec file) (data_part spec file) (minishard_of spec id) id (take k (drop a file))
unfolding is_id
found-lists spec shard file id a k e =
    let f = found-file spec shard file id a k e in
    let s = entry_start_of (index_part spec file) (minishard_of spec id) in
    let n = entry_count s (entry_end_of (index_part spec file) (minishard_of spec id)) in
    record {
      entry = chosen_entry spec file id;
      lists = record {
        among = f.found.at.among;
        named = eqb-true _ _ (first_holds (is_id (id_steps (data_part spec file) s) id) n f.found.at.among);
        holding = sym (found-bytes f);
      };
    }

module _ (spec : Sharding) (shard : ℕ) (file : List ℕ) (id level node : ℕ) where
  lacking : fragment_answer spec shard file id level node ≡ Refused 18 → LacksFragment spec shard file id level node
  unfolding fragment_before
  lacking e = go (lookup_answer spec shard file id) refl (is_mesh spec) refl (sym (after-lookup spec shard file id level node) ∙ e)
    where
      lacks : (a k : ℕ) → lookup_answer spec shard file id ≡ Found a k → (is_mesh spec ≡ false) ⊎ (has_node (take k (drop a file)) level node ≡ false)
          → LacksFragment spec shard file id level node
      lacks a k f w =
          record { bytes = take k (drop a file); sound = (found-file spec shard file id a k f).found.sound; lists = found-lists spec shard file id a k f; lacks = w }

      held : (a k : ℕ) → lookup_answer spec shard file id ≡ Found a k → (t : Bool) → has_node (take k (drop a file)) level node ≡ t
          → fragment_in (take k (drop a file)) a level node ≡ Refused 18 → LacksFragment spec shard file id level node
      held a k f true h g =
          let z = rw (in_picks (take k (drop a file)) a level node, h) at g in
          let y : ◌≡◌ {A = ℕ} 0 1 = cc in
          absurd (omega arith)
      held a k f false h g = lacks a k f (inr h)

      go : (r : LookupAnswer) → lookup_answer spec shard file id ≡ r → (t : Bool) → is_mesh spec ≡ t → after spec file level node r ≡ Refused 18 → LacksFragment spec shard file id level node
      go (Found a k) f true m g = held a k f (has_node (take k (drop a file)) level node) refl (rw m at g)
      go (Found a k) f false m g = lacks a k f (inl m)
      go (Refused n) f t m g = absurd (no-lookup_18 spec shard file id (f ∙ g))
      go (Faulty n p) f t m g = let y : ◌≡◌ {A = ℕ} 0 1 = cc in absurd (omega arith)

  -- of a volume, or of a manifest that has no such node
  no_node : (s : List ℕ) (start : ℕ) (t : Bool) → is_mesh spec ≡ t → (is_mesh spec ≡ false) ⊎ (has_node s level node ≡ false)
      → pick (not (is_mesh spec)) (Refused 18) (fragment_in s start level node) ≡ Refused 18
  no_node s start false m w = rw m
  no_node s start true m (inl v) = rw v
  no_node s start true m (inr h) = rw (m, in_picks s start level node, h)

  pub eighteen_means_no-fragment : Asked spec shard file id → (fragment_answer spec shard file id level node ≡ Refused 18) ↔ LacksFragment spec shard file id level node
  eighteen_means_no-fragment asked = (
    lacking,
    (λ t.
        let m = listed-chunk-is_handed_out spec shard file id asked t.sound t.lists.lists in
        after-lookup spec shard file id level node ∙ rw (m.found, m.taken) (no_node t.bytes m.start (is_mesh spec) refl t.lacks)),
  )

  -- ---- any other refusal is the lookup's

  found_18 : (a k number : ℕ) (p : Option ℕ) (t : Bool) → is_mesh spec ≡ t → (u : Bool) → has_node (take k (drop a file)) level node ≡ u
      → after spec file level node (Found a k) ≡ refusal Refused Faulty number p → number ≡ 18
  unfolding fragment_before
  found_18 a k number none false m u h g = let z = rw m at g in cc
  found_18 a k number (some p) false m u h g = let z = rw m at g in let y : ◌≡◌ {A = ℕ} 0 1 = cc in absurd (omega arith)
  found_18 a k number none true m false h g = let z = rw (m, in_picks (take k (drop a file)) a level node, h) at g in cc
  found_18 a k number none true m true h g = let z = rw (m, in_picks (take k (drop a file)) a level node, h) at g in let y : ◌≡◌ {A = ℕ} 0 1 = cc in absurd (omega arith)
  found_18 a k number (some p) true m false h g = let z = rw (m, in_picks (take k (drop a file)) a level node, h) at g in let y : ◌≡◌ {A = ℕ} 0 1 = cc in absurd (omega arith)
  found_18 a k number (some p) true m true h g = let z = rw (m, in_picks (take k (drop a file)) a level node, h) at g in let y : ◌≡◌ {A = ℕ} 0 1 = cc in absurd (omega arith)

  stays : (number : ℕ) (p : Option ℕ) → after spec file level node (refusal Refused Faulty number p) ≡ refusal Refused Faulty number p
  stays number none = refl
  stays number (some p) = refl

  pub others_are_the_lookups : (number : ℕ) (p : Option ℕ) → (number ≡ 18 → ⊥)
      → (fragment_answer spec shard file id level node ≡ refusal Refused Faulty number p) ↔ (lookup_answer spec shard file id ≡ refusal Refused Faulty number p)
  others_are_the_lookups number p other = (
    (λ e. go (lookup_answer spec shard file id) refl (sym (after-lookup spec shard file id level node) ∙ e)),
    (λ e. after-lookup spec shard file id level node ∙ rw e (stays number p)),
  )
    where
      go : (r : LookupAnswer) → lookup_answer spec shard file id ≡ r → after spec file level node r ≡ refusal Refused Faulty number p
          → lookup_answer spec shard file id ≡ refusal Refused Faulty number p
      go (Found a k) f g = absurd (other (found_18 a k number p (is_mesh spec) refl (has_node (take k (drop a file)) level node) refl g))
      go (Refused n) f g = f ∙ g
      go (Faulty n q) f g = f ∙ g
