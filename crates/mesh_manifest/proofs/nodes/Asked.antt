-- The answer to the question of a node, by the tests that lead to it; e is what the judge answered.
use Prim.Native.Nat.{ℕ, ◌+◌, ◌*◌, ◌≤◌, ◌<◌}
use mathlib.Core.Path.{◌≡◌, refl, ap, ◌∙◌}
use mathlib.Core.Bool.{Bool, true, false, not}
use mathlib.Core.List.{List, [], ◌∷◌}
use native.Mathlib.Omega.{arith}
use lib.Dec.{ltb}
use borrow.Author.Rules.{rules}
use borrow.Author.Tests.{lt-ltb, le-ltb}
use Rattle.refusal.specs.Checks.{check, answered}
use Rattle.refusal.proofs.Tests.{told-no, told-yes}
use Rattle.endian.specs.Range.{sum_to}
use Rattle.mesh_manifest.specs.layout.Layout.{manifest_item, levels_of, count_of, nodes_before, size_at}
use Rattle.mesh_manifest.specs.sound.Verdict.{manifest_verdict}
use Rattle.mesh_manifest.proofs.sound.Judged.{fails, passes, passed, refused-first, given-first, told-sound}
use Rattle.mesh_manifest.proofs.sound.Sounds.{sound-if}
use Rattle.mesh_manifest.specs.fragment_sums.Sums.{level_bytes}
use Rattle.mesh_manifest.specs.nodes.Nodes.{has_node, fragment_start, fragments_length_of, node_in, node_at, node_checks, node_answer}
use Rattle.mesh_manifest.specs.declared.nodes.Node.{Node}
use Rattle.std.specs.Prelude.{Ok, Err}
use Rattle.refusal.specs.Answers.{refuse}
use Rattle.refusal.specs.declared.Refusal.{Refusal}
use Rattle.refusal.specs.Answers.{judged}
use Rattle.mesh_manifest.proofs.nodes.Levels.{has-level}

pub node-refused : (s : List ℕ) (l i : ℕ) {k : Refusal} → Err k ≡ judged (manifest_verdict s) → Err k ≡ node_answer s l i
unfolding node_answer node_checks
node-refused s l i e = refused-first s e Err _ (Ok (node_at s l i))

module _ (s : List ℕ) (z : manifest_verdict s ≡ 0) (l i : ℕ) {p : Bool} (f : p ≡ has_node s l i) where
  own-node : answered refuse (check 18 (not (has_node s l i)) ∷ []) (Ok (node_at s l i)) ≡ node_answer s l i
  unfolding node_answer node_checks
  own-node = given-first s z refuse _ (Ok (node_at s l i))

  pub node-none : not p ≡ true → refuse 18 ≡ node_answer s l i
  node-none n = fails refuse (Ok (node_at s l i)) 17 (not (has_node s l i)) [] (ap not (told-no f n)) ∙ own-node

  pub node-given : not p ≡ false → {x : Node} → x ≡ node_at s l i → Ok x ≡ node_answer s l i
  node-given n g =
      ap Ok g ∙ passed refuse (Ok (node_at s l i))
      ∙ passes refuse (Ok (node_at s l i)) 18 (not (has_node s l i)) [] (ap not (told-yes f n))
      ∙ own-node

  pub told-node : not p ≡ false → has_node s l i ≡ true
  told-node n = told-yes f n

  pub told-level : not p ≡ false → l < 32
  told-level n = omega (arith, has-level s l i (told-yes f n) refl, (sound-if s z).levels)

module _ (s : List ℕ) (l i : ℕ) {v : ℕ} (e : v ≡ levels_of s) where
  pub no-level : v ≤ l → false ≡ has_node s l i
  unfolding has_node
  no-level h = let g : levels_of s ≤ l = omega arith in rw (le-ltb l (levels_of s) g)

  pub in_level : l < v → {n : ℕ} → n ≡ count_of s l → ltb i n ≡ has_node s l i
  unfolding has_node
  in_level h f = let g : l < levels_of s = omega arith in rw (lt-ltb l (levels_of s) g) (ap (ltb i) f)

-- a node as it is read, item by item
pub node-read : (s : List ℕ) (first n i start : ℕ) {x y z size : ℕ} → x ≡ manifest_item s (first + i) → y ≡ manifest_item s (first + n + i) → z ≡ manifest_item s (first + 2 * n + i)
    → size ≡ manifest_item s (first + 3 * n + i) → ◌≡◌ {A = Node} (record { x = x; y = y; z = z; start = start; size = size }) (node_in s first n i start)
unfolding node_in size_at
node-read s first n i start e f g h = rw (e, f, g, h)

module _ (s : List ℕ) (l i : ℕ) {v k n b t : ℕ} {x : Node} where
  pub node_made : x ≡ node_in s (7 + 5 * v + 4 * k) n i (b + t) → v ≡ levels_of s → k ≡ nodes_before s l → n ≡ count_of s l → b ≡ sum_to (level_bytes s) l
      → t ≡ sum_to (size_at s (7 + 5 * v + 4 * k) n) i → x ≡ node_at s l i
  unfolding node_at fragment_start
  node_made e f g h j m = cc

pub all-fragments : (s : List ℕ) {v t : ℕ} → v ≡ levels_of s → t ≡ sum_to (level_bytes s) v → t ≡ fragments_length_of s
unfolding fragments_length_of
all-fragments s e f = f ∙ ap (sum_to (level_bytes s)) e

pub ruleset asked = (node-none, node-given, told-sound, told-node, told-level, node_made, no-level, in_level, rules)
