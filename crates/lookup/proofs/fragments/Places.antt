-- The fragment of a node of a manifest, as the code finds it: p is what the test for the node gave.
use Rattle.std.proofs.Common.{◌≡◌, ℕ, ◌+◌, ◌-◌, ◌≤◌, Bool, true, false, not, List, [], ap, ◌∙◌, arith, w64, Fits, rules}
use Rattle.refusal.proofs.Tests.{told-no, told-yes}
use Rattle.mesh_manifest.proofs.sound.Judged.{fails, passes, passed}
use Rattle.mesh_manifest.specs.nodes.Nodes.{has_node, fragments_length_of, fragment_start, node_in, node_at}
use Rattle.mesh_manifest.specs.declared.nodes.Node.{Node}
use Rattle.mesh_manifest.proofs.nodes.Fragments.{fragment-within}
use Rattle.lookup.specs.declared.id_search.LookupAnswer.TheVariants.{Found, Refused}
use Rattle.lookup.specs.fragments.Fragment.{fragment_before, fragment_in}

module _ (s : List ℕ) (start l i : ℕ) {p : Bool} (e : p ≡ has_node s l i) where
  pub in_none : not p ≡ true → Refused 18 ≡ fragment_in s start l i
  unfolding fragment_in
  in_none n = fails Refused (fragment_before s start l i) 17 (not (has_node s l i)) [] (ap not (told-no e n))

  module _ (n : not p ≡ false) {x : Node} (f : x ≡ node_at s l i) {k : ℕ} (g : k ≡ fragments_length_of s) where
    pub in_found : Found (start - k + x.start) x.size ≡ fragment_in s start l i
    unfolding fragment_in fragment_before node_at node_in
    in_found =
        rw (f, g) (passed Refused (fragment_before s start l i))
        ∙ passes Refused (fragment_before s start l i) 18 (not (has_node s l i)) [] (ap not (told-yes e n))

    pub in_fits : fragments_length_of s ≤ start → Fits w64 start → Fits w64 (start - k + x.start)
    unfolding node_at node_in
    in_fits h w =
        let z : x.start ≡ fragment_start s l i = ap (λ (y : Node). y.start) f in
        record { fits = omega (arith, fragment-within s l i (told-yes e n), w.fits) }

pub ruleset placed = (in_none, in_found, in_fits, told-yes, rules)
