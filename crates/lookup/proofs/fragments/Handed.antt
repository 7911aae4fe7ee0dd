-- In a mesh, what a lookup finds is a sound manifest behind its fragments; a fragment handed out lies between the index end and that manifest.
use Rattle.std.proofs.Common.{◌≡◌, ℕ, ◌+◌, ◌-◌, ◌≤◌, Bool, true, false, not, List, [], ◌∷◌, length, take, drop, sym, refl, ◌∙◌, arith, length-take-le}
use Rattle.refusal.specs.Choice.{pick}
use Rattle.refusal.specs.Checks.{check}
use Rattle.refusal.proofs.Tests.{told-yes}
use Rattle.refusal.proofs.Picks.{by_picks}
use Rattle.sharding.specs.declared.Sharding.{Sharding}
use Rattle.sharding.specs.Specification.{is_mesh}
use Rattle.mesh_manifest.specs.sound.Verdict.{manifest_verdict}
use Rattle.mesh_manifest.proofs.sound.Sounds.{sound-only}
use Rattle.mesh_manifest.specs.fragment_sums.Sums.{fragment_size}
use Rattle.mesh_manifest.specs.nodes.Nodes.{has_node, fragment_start, fragments_length_of}
use Rattle.mesh_manifest.proofs.nodes.Fragments.{fragment-within}
use Rattle.shard.specs.index.Index.{most_shard_bytes}
use Rattle.shard.specs.File.{index_length_of}
use Rattle.lookup.specs.declared.id_search.LookupAnswer.{LookupAnswer}
use Rattle.lookup.specs.declared.id_search.LookupAnswer.TheVariants.{Found, Refused, Faulty}
use Rattle.lookup.specs.Find.{lookup_answer, part_end}
use Rattle.lookup.proofs.Handed.{FoundFile, found-file, chosen_entry, found-bytes, found_inside, end-within}
use Rattle.lookup.specs.fragments.Fragment.{fragment_before, fragment_in, fragment_answer}
use Rattle.lookup.proofs.fragments.Answers.{after, after-lookup}

-- ---- the manifest found

module _ {spec : Sharding} {shard : ℕ} {file : List ℕ} {id a k : ℕ} (f : FoundFile spec shard file id a k) (h : is_mesh spec ≡ true) where
  found-sound : manifest_verdict (take k (drop a file)) ≡ 0
  found-sound = rw (found-bytes f) (sound-only _ (f.found.sound.manifests h (chosen_entry spec file id) f.found.at.among))

  found-behind : index_length_of spec + fragments_length_of (take k (drop a file)) ≤ a
  found-behind =
      rw (found-bytes f)
      (omega (
        arith,
        f.found.sound.fragments h (chosen_entry spec file id) f.found.at.among,
        f.found.at.placed,
        length-take-le (index_length_of spec) file f.held,
      ))

-- as the code takes it: r is what the lookup gave, s its part, b what the test of the kind gave
module _ (spec : Sharding) (shard : ℕ) (file : List ℕ) (id : ℕ) {r : LookupAnswer} (p : r ≡ lookup_answer spec shard file id) {a k : ℕ} (q : r ≡ Found a k)
    {b : Bool} (u : b ≡ is_mesh spec) (n : not b ≡ false) {s : List ℕ} (e : s ≡ take k (drop a file)) where
  pub manifest-sound : manifest_verdict s ≡ 0
  manifest-sound = rw e (found-sound (found-file spec shard file id a k (sym p ∙ q)) (told-yes u n))

  pub manifest-behind : fragments_length_of s ≤ a
  manifest-behind = rw e (omega (arith, found-behind (found-file spec shard file id a k (sym p ∙ q)) (told-yes u n)))

-- ---- the fragment handed out

-- the manifest stands at `start`, and the fragment is the k bytes from a on
pub record FragmentFound (spec : Sharding) (shard : ℕ) (file : List ℕ) (id level node a k : ℕ) : Type 0 where
  pub start : ℕ
  pub count : ℕ
  pub found : lookup_answer spec shard file id ≡ Found start count
  pub mesh : is_mesh spec ≡ true
  pub has : has_node (take count (drop start file)) level node ≡ true
  pub placed : a ≡ start - fragments_length_of (take count (drop start file)) + fragment_start (take count (drop start file)) level node
  pub counted : k ≡ fragment_size (take count (drop start file)) level node

pub in_picks : (s : List ℕ) (start level node : ℕ) → fragment_in s start level node ≡ pick (not (has_node s level node)) (Refused 18) (fragment_before s start level node)
unfolding fragment_in
in_picks s start level node = by_picks Refused (check 18 (not (has_node s level node)) ∷ []) (fragment_before s start level node) refl

module _ (spec : Sharding) (shard : ℕ) (file : List ℕ) (id level node a k : ℕ) where
  pub fragment-found : fragment_answer spec shard file id level node ≡ Found a k → FragmentFound spec shard file id level node a k
  unfolding fragment_before
  fragment-found e = go (lookup_answer spec shard file id) refl (is_mesh spec) refl (sym (after-lookup spec shard file id level node) ∙ e)
    where
      held : (start count : ℕ) → lookup_answer spec shard file id ≡ Found start count → is_mesh spec ≡ true → (t : Bool) → has_node (take count (drop start file)) level node ≡ t
          → fragment_in (take count (drop start file)) start level node ≡ Found a k → FragmentFound spec shard file id level node a k
      held start count f m true h g =
          let z = rw (in_picks (take count (drop start file)) start level node, h) at g in
          record { start = start; count = count; found = f; mesh = m; has = h; placed = cc; counted = cc }
      held start count f m false h g =
          let z = rw (in_picks (take count (drop start file)) start level node, h) at g in
          let y : ◌≡◌ {A = ℕ} 0 1 = cc in
          absurd (omega arith)

      go : (r : LookupAnswer) → lookup_answer spec shard file id ≡ r → (t : Bool) → is_mesh spec ≡ t → after spec file level node r ≡ Found a k → FragmentFound spec shard file id level node a k
      go (Found start count) f true m g = held start count f m (has_node (take count (drop start file)) level node) refl (rw m at g)
      go (Found start count) f false m g = let z = rw m at g in let y : ◌≡◌ {A = ℕ} 0 1 = cc in absurd (omega arith)
      go (Refused n) f t m g = let y : ◌≡◌ {A = ℕ} 0 1 = cc in absurd (omega arith)
      go (Faulty n p) f t m g = let y : ◌≡◌ {A = ℕ} 0 1 = cc in absurd (omega arith)

  module _ (e : fragment_answer spec shard file id level node ≡ Found a k) where
    -- it lies behind the index end and before its manifest
    pub fragment-behind : index_length_of spec ≤ a
    fragment-behind =
        let g = fragment-found e in
        omega (arith, g.placed, found-behind (found-file spec shard file id g.start g.count g.found) g.mesh)

    pub fragment-before : a + k ≤ (fragment-found e).start
    fragment-before =
        let g = fragment-found e in
        omega (
          arith,
          g.placed,
          g.counted,
          found-behind (found-file spec shard file id g.start g.count g.found) g.mesh,
          fragment-within (take g.count (drop g.start file)) level node g.has,
        )

    pub fragment-inside : a + k ≤ length file
    fragment-inside = let g = fragment-found e in omega (arith, fragment-before, found_inside spec shard file id g.start g.count g.found)

    fragment-short : a + k ≤ most_shard_bytes
    fragment-short =
        let g = fragment-found e in
        omega (arith, fragment-inside, (found-file spec shard file id g.start g.count g.found).short)

-- as the code takes it: r is what the call gave
module _ (spec : Sharding) (shard : ℕ) (file : List ℕ) (id level node : ℕ) {r : LookupAnswer} (p : r ≡ fragment_answer spec shard file id level node) where
  pub part-inside : part_end r ≤ length file
  part-inside = end-within (length file) r (λ a k q. fragment-inside spec shard file id level node a k (sym p ∙ q))

  pub part-short : part_end r ≤ most_shard_bytes
  part-short = end-within most_shard_bytes r (λ a k q. fragment-short spec shard file id level node a k (sym p ∙ q))

-- ---- a fault is the lookup's

pub fragment-faulty : (spec : Sharding) (shard : ℕ) (file : List ℕ) (id level node k p : ℕ) → fragment_answer spec shard file id level node ≡ Faulty k p → lookup_answer spec shard file id ≡ Faulty k p
unfolding fragment_before
fragment-faulty spec shard file id level node k p e = go (lookup_answer spec shard file id) refl (is_mesh spec) refl (sym (after-lookup spec shard file id level node) ∙ e)
  where
    no-fault : (s : List ℕ) (start : ℕ) (t : Bool) → has_node s level node ≡ t → fragment_in s start level node ≡ Faulty k p → ⊥
    no-fault s start true h g = let z = rw (in_picks s start level node, h) at g in let y : ◌≡◌ {A = ℕ} 0 1 = cc in absurd (omega arith)
    no-fault s start false h g = let z = rw (in_picks s start level node, h) at g in let y : ◌≡◌ {A = ℕ} 0 1 = cc in absurd (omega arith)

    go : (r : LookupAnswer) → lookup_answer spec shard file id ≡ r → (t : Bool) → is_mesh spec ≡ t → after spec file level node r ≡ Faulty k p → lookup_answer spec shard file id ≡ Faulty k p
    go (Found start count) f true m g = absurd (no-fault (take count (drop start file)) start (has_node (take count (drop start file)) level node) refl (rw m at g))
    go (Found start count) f false m g = let z = rw m at g in let y : ◌≡◌ {A = ℕ} 0 1 = cc in absurd (omega arith)
    go (Refused n) f t m g = let y : ◌≡◌ {A = ℕ} 0 1 = cc in absurd (omega arith)
    go (Faulty n q) f t m g = f ∙ g
