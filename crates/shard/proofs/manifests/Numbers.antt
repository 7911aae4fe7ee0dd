-- The first test that a manifest fails, from what the judge gave; and the lesser of two failures, as the code finds it.
use Rattle.std.proofs.Common.{◌≡◌, ℕ, ◌<◌, ◌≤◌, Bool, true, false, not, eqb, ltb, List, sym, refl, ◌∙◌, inl, inr, arith, rules, le-ltb, lt-ltb, ne_eqb}
use Rattle.std.specs.Prelude.{Ok, Err}
use Rattle.refusal.specs.declared.Refusal.{Refusal}
use Rattle.refusal.specs.Table.{last, number_of}
use Rattle.refusal.specs.Answers.{judged}
use Rattle.refusal.proofs.Passed.{passed-none, passed-some, passed-number}
use Rattle.refusal.specs.Choice.{pick}
use Rattle.refusal.specs.Checks.{first_number}
use Rattle.mesh_manifest.specs.sound.Verdict.{right_length, reals_fit, nodes_rise, manifest_checks, manifest_verdict}
use Rattle.mesh_manifest.specs.nodes.Nodes.{fragments_length_of}
use Rattle.shard.specs.declared.manifests.Failed.{Failed}
use Rattle.shard.specs.manifests.Each.{failed, lesser}
use Rattle.shard.specs.manifests.Mesh.{manifest_number}
use Rattle.shard.proofs.manifests.Least.{lesser-none, lesser-kept, lesser-new}

of_three : (a b c : Bool) → ℕ → ℕ
of_three a b c x = pick a 15 (pick b 16 (pick c 17 x))

three : (a b c : Bool) (x : ℕ) → of_three a b c x ≡ pick (eqb (of_three a b c 0) 0) x (of_three a b c 0)
unfolding of_three
three true b c x = refl
three false true c x = refl
three false false true x = refl
three false false false x = refl

by_verdict : (start : ℕ) (body : List ℕ) → manifest_number start body ≡ pick (eqb (manifest_verdict body) 0) (pick (ltb start (fragments_length_of body)) 21 0) (manifest_verdict body)
unfolding manifest_number manifest_verdict manifest_checks first_number of_three
by_verdict start body = three (not (right_length body)) (not (reals_fit body)) (not (nodes_rise body)) (pick (ltb start (fragments_length_of body)) 21 0)

three-most : (a b c : Bool) → of_three a b c 0 ≤ last
unfolding of_three
three-most true b c = omega arith
three-most false true c = omega arith
three-most false false true = omega arith
three-most false false false = omega arith

verdict-most : (body : List ℕ) → manifest_verdict body ≤ last
unfolding manifest_verdict manifest_checks first_number of_three
verdict-most body = three-most (not (right_length body)) (not (reals_fit body)) (not (nodes_rise body))

module _ (start : ℕ) (body : List ℕ) where
  pub judged_bad : {k : Refusal} → Err k ≡ judged (manifest_verdict body) → number_of k ≡ manifest_number start body
  judged_bad e =
      let some : 0 < manifest_verdict body = passed-some (manifest_verdict body) e in
      passed-number (manifest_verdict body) e (verdict-most body) ∙ sym (by_verdict start body ∙ rw (ne_eqb (manifest_verdict body) 0 (λ z. omega arith)) refl)

  module _ (e : Ok tt ≡ judged (manifest_verdict body)) {f : ℕ} (g : f ≡ fragments_length_of body) where
    none : manifest_verdict body ≡ 0
    none = passed-none (manifest_verdict body) e

    pub judged_outside : start < f → 21 ≡ manifest_number start body
    judged_outside l = sym (by_verdict start body ∙ rw (none, lt-ltb start (fragments_length_of body) (omega arith)) refl)

    pub judged-whole : f ≤ start → 0 ≡ manifest_number start body
    judged-whole l = sym (by_verdict start body ∙ rw (none, le-ltb start (fragments_length_of body) (omega arith)) refl)

pub told-sound : (body : List ℕ) → Ok tt ≡ judged (manifest_verdict body) → manifest_verdict body ≡ 0
told-sound body e = passed-none (manifest_verdict body) e

-- ---- the lesser of two failures

module _ (f : Failed) (v i : ℕ) where
  pub kept-none : v ≡ 0 → f ≡ lesser f v i
  kept-none e = sym (lesser-none f v i e)

  pub kept_less : (f.number ≡ 0 → ⊥) → f.number ≤ v → f ≡ lesser f v i
  kept_less n l = sym (lesser-kept f v i (positive f.number n) l)
    where
      positive : (k : ℕ) → (k ≡ 0 → ⊥) → 0 < k
      positive k h = omega (arith, h)

  pub new-first : (v ≡ 0 → ⊥) → f.number ≡ 0 → failed v i ≡ lesser f v i
  new-first n e = sym (lesser-new f v i (omega (arith, n)) (inl e))

  pub new_less : (v ≡ 0 → ⊥) → v < f.number → failed v i ≡ lesser f v i
  new_less n l = sym (lesser-new f v i (omega (arith, n)) (inr l))

pub ruleset lessers = (kept-none, kept_less, new-first, new_less, rules)
