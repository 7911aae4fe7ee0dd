-- What the answer depends on (RULES M12): what that of a lookup depends on, which in a mesh is every manifest of the chosen minishard too, and the
-- fragment handed out.
use Rattle.std.proofs.Common.{◌≡◌, ℕ, Bool, true, false, List, sym, refl, ◌∙◌}
use Rattle.sharding.specs.declared.Sharding.{Sharding}
use Rattle.sharding.specs.Specification.{is_mesh}
use Rattle.lookup.specs.declared.id_search.LookupAnswer.{LookupAnswer}
use Rattle.lookup.specs.declared.id_search.LookupAnswer.TheVariants.{Found, Refused, Faulty}
use Rattle.lookup.specs.Find.{lookup_answer, part_bytes}
use Rattle.lookup.specs.Lookups.{AgreeFor}
use Rattle.lookup.proofs.Depends.{manifest-agrees, lookup-depends-only-on_these}
use Rattle.lookup.specs.fragments.Fragment.{fragment_answer}
use Rattle.lookup.specs.fragments.Fragments.{AgreeInFragment, SameFragment}
use Rattle.lookup.proofs.fragments.Answers.{after, after-lookup}

module _ (spec : Sharding) (shard id level node : ℕ) (a b : List ℕ) (agree : AgreeFor spec id a b) where
  -- of a volume it does not depend on the chunk; in a mesh that is a manifest in which they agree
  same_after : (r : LookupAnswer) → lookup_answer spec shard b id ≡ r → (t : Bool) → is_mesh spec ≡ t → after spec a level node r ≡ after spec b level node r
  same_after (Found start n) e true m = rw (manifest-agrees spec shard id a b agree m start n e)
  same_after (Found start n) e false m = rw m
  same_after (Refused number) e t m = refl
  same_after (Faulty number position) e t m = refl

  answer-depends : fragment_answer spec shard a id level node ≡ fragment_answer spec shard b id level node
  answer-depends =
      after-lookup spec shard a id level node
      ∙ rw (lookup-depends-only-on_these spec shard id a b agree).answer (same_after (lookup_answer spec shard b id) refl (is_mesh spec) refl)
      ∙ sym (after-lookup spec shard b id level node)

  part-depends : AgreeInFragment spec shard id level node a b
      → part_bytes (fragment_answer spec shard a id level node) a ≡ part_bytes (fragment_answer spec shard b id level node) b
  part-depends fragment = rw answer-depends (go (fragment_answer spec shard b id level node) refl)
    where
      go : (r : LookupAnswer) → fragment_answer spec shard b id level node ≡ r → part_bytes r a ≡ part_bytes r b
      go (Found start n) e = fragment start n e
      go (Refused n) e = refl
      go (Faulty n p) e = refl

  -- it depends only on these
  pub fragment-depends-only-on_these : SameFragment spec shard id level node a b
  fragment-depends-only-on_these = record { answer = answer-depends; bytes = part-depends }
