-- A node's fragment in a pair, by what the lookup gave.
use Prim.Native.Nat.{ℕ, zero, suc, ◌+◌, ◌-◌, ◌≤◌}
use mathlib.Core.Path.{◌≡◌, refl, sym, ◌∙◌}
use mathlib.Core.Bool.{Bool, true, false, not}
use mathlib.Core.List.{List, ◌++◌}
use native.Mathlib.Omega.{arith}
use lib.ListN.{length, take, drop, length-append}
use borrow.Author.Rules.{rules}
use Rattle.refusal.specs.Checks.{first_number, unless}
use Rattle.refusal.proofs.Tests.{told-no, told-yes}
use Rattle.sharding.specs.declared.Sharding.{Sharding}
use Rattle.sharding.specs.Specification.{is_mesh}
use Rattle.shard.specs.index.Index.{most_shard_bytes}
use Rattle.mesh_manifest.specs.sound.Verdict.{manifest_verdict}
use Rattle.mesh_manifest.specs.nodes.Nodes.{fragments_length_of}
use Rattle.split_shard.specs.seam.Pair.{pair_checks}
use Rattle.split_shard.proofs.seam.Pairs.{joined_rest}
use Rattle.lookup.specs.declared.id_search.LookupAnswer.{LookupAnswer}
use Rattle.lookup.specs.declared.id_search.LookupAnswer.TheVariants.{Found, Refused, Faulty}
use Rattle.lookup.specs.Find.{lookup_answer, part_end, part_bytes}
use Rattle.lookup.specs.fragments.Fragment.{fragment_in, fragment_answer}
use Rattle.lookup.proofs.fragments.Answers.{after, after-lookup}
use Rattle.lookup.proofs.fragments.Handed.{manifest-sound, manifest-behind, fragment-behind, fragment-inside, part-short}
use Rattle.split_shard.specs.Answers.{other_shard, pair_lookup, pair_fragment, in_data, Behind}
use Rattle.split_shard.proofs.Parts.{Lies, lies-behind, lies-inside, lies-short, Joined, found_joined, lookup_joined, given-lies, lookup-behind, lookup-end, lookup-most, lookup-bytes, part_bytes_lem, part-place}

module _ (spec : Sharding) (shard : ℕ) (index d : List ℕ) (id level node : ℕ) where
  unless-after : (n : ℕ) (x : LookupAnswer) → unless Refused n (after spec (index ++ d) level node x) ≡ after spec (index ++ d) level node (unless Refused n x)
  unfolding unless
  unless-after zero x = refl
  unless-after (suc n) x = refl

  pair-after : pair_fragment spec shard index d id level node ≡ after spec (index ++ d) level node (pair_lookup spec shard index d id)
  unfolding pair_fragment pair_lookup
  pair-after =
      rw (after-lookup spec shard (index ++ d) id level node)
      (unless-after (first_number (pair_checks spec (other_shard spec shard id) index)) (lookup_answer spec shard (index ++ d) id))

  -- r is what the lookup gave
  module _ {r : LookupAnswer} (p : r ≡ pair_lookup spec shard index d id) where
    pub fragment-refused : {n : ℕ} → r ≡ Refused n → Refused n ≡ pair_fragment spec shard index d id level node
    fragment-refused q = rw (pair-after, ← p, q)

    pub fragment-faulty : {n position : ℕ} → r ≡ Faulty n position → Faulty n position ≡ pair_fragment spec shard index d id level node
    fragment-faulty q = rw (pair-after, ← p, q)

    -- the chunk found lies in the data file
    module _ {a k : ℕ} (q : r ≡ Found a k) where
      pub chunk-past : length index ≤ a
      chunk-past = (given-lies spec shard index d id p).behind a k q

      pub chunk_end_lem : a - length index + k ≤ length d
      chunk_end_lem = omega (arith, chunk-past, (given-lies spec shard index d id p).inside a k q)

      pub chunk-most : a - length index + k ≤ most_shard_bytes
      chunk-most = omega (arith, chunk-past, (given-lies spec shard index d id p).short a k q)

    module _ {a k : ℕ} (q : r ≡ Found a k) {b : Bool} (u : b ≡ is_mesh spec) where
      pub fragment-volume : not b ≡ true → Refused 18 ≡ pair_fragment spec shard index d id level node
      fragment-volume n = rw (pair-after, ← p, q, told-no u n)

      module _ (n : not b ≡ false) {s : List ℕ} (f : s ≡ take k (drop (a - length index) d)) where
        chunk : s ≡ take k (drop a (index ++ d))
        chunk = f ∙ sym (joined_rest index d a k (chunk-past q))

        joined : lookup_answer spec shard (index ++ d) id ≡ Found a k
        joined = (lookup_joined spec shard index d id (sym p ∙ q)).found

        pub chunk-sound : manifest_verdict s ≡ 0
        chunk-sound = manifest-sound spec shard (index ++ d) id refl joined u n chunk

        pub chunk-behind : fragments_length_of s ≤ a
        chunk-behind = manifest-behind spec shard (index ++ d) id refl joined u n chunk

        pub fragment-mesh : {x : LookupAnswer} → x ≡ fragment_in s a level node → x ≡ pair_fragment spec shard index d id level node
        fragment-mesh e = rw (pair-after, ← p, q, told-yes u n) (rw chunk at e)

  -- ---- what is found lies in the data file

  fragment_joined : {a k : ℕ} → pair_fragment spec shard index d id level node ≡ Found a k → Joined spec index (fragment_answer spec shard (index ++ d) id level node) a k
  unfolding pair_fragment
  fragment_joined e = found_joined spec (other_shard spec shard id) index _ e

  fragment-lies : Lies index d (pair_fragment spec shard index d id level node)
  fragment-lies = record {
    behind = λ a k e. let j = fragment_joined e in omega (arith, j.measured, fragment-behind spec shard (index ++ d) id level node a k j.found);
    inside = λ a k e. omega (arith, fragment-inside spec shard (index ++ d) id level node a k (fragment_joined e).found, length-append index d);
    short = λ a k e. rw (fragment_joined e).found at (part-short spec shard (index ++ d) id level node refl);
  }

  module _ {r : LookupAnswer} (p : r ≡ pair_fragment spec shard index d id level node) where
    given : Lies index d r
    given = rw p fragment-lies

    pub node-behind : Behind (length index) r
    node-behind = lies-behind given

    pub node_end : part_end (in_data (length index) r) ≤ length d
    node_end = lies-inside given

    pub node-most : part_end (in_data (length index) r) ≤ most_shard_bytes
    node-most = lies-short given

    pub node-bytes : {b : List ℕ} → b ≡ part_bytes (in_data (length index) r) d → b ≡ part_bytes (pair_fragment spec shard index d id level node) (index ++ d)
    node-bytes = part_bytes_lem index d p fragment-lies

pub ruleset handing = (fragment-refused, fragment-faulty, fragment-volume, chunk-past, chunk_end_lem, chunk-most, chunk-sound, chunk-behind, fragment-mesh, rules)

pub ruleset parting = (lookup-behind, lookup-end, lookup-most, lookup-bytes, node-behind, node_end, node-most, node-bytes, part-place, rules)
