-- All nodes of a level, and each alone: where the call for a level is not refused, it has written for each node what the call for that node answers.
use Prim.Native.Nat.{ℕ, zero, suc, ◌+◌, ◌*◌, ◌-◌, ◌<◌}
use mathlib.Core.Path.{◌≡◌, refl, sym, ap, ◌∙◌}
use mathlib.Core.Bool.{true, not}
use mathlib.Core.List.{List, ◌++◌, append_assoc}
use native.Mathlib.Omega.{arith}
use lib.ListN.{length, drop}
use borrow.Author.Tests.{lt-ltb, not-false}
use Rattle.refusal.specs.Checks.{first_number, unless}
use Rattle.std.specs.Prelude.{Ok}
use Rattle.refusal.specs.Answers.{Answer, refuse}
use Rattle.endian.specs.Place.{Holds}
use Rattle.endian.proofs.Holds.{holds-all, holds_move}
use Rattle.mesh_manifest.specs.layout.Layout.{count_of}
use Rattle.mesh_manifest.specs.sound.Verdict.{manifest_verdict}
use Rattle.mesh_manifest.proofs.sound.Judged.{unrefused, none-sound, none-head}
use Rattle.mesh_manifest.specs.nodes.Nodes.{has_level, has_node, node_at, node_answer}
use Rattle.mesh_manifest.specs.declared.nodes.Node.{Node}
use Rattle.mesh_manifest.proofs.nodes.Asked.{node-given}
use Rattle.mesh_manifest.proofs.nodes.Fragments.{node-is}
use Rattle.mesh_manifest.specs.node_numbers.Numbers.{numbers_of, numbers_from, nodes_of}
use Rattle.mesh_manifest.specs.level.Level.{nodes_checks, nodes_answer, nodes_left}
use Rattle.mesh_manifest.proofs.node_numbers.Listed.{length-numbers, length-nodes}

-- ---- the numbers of each node

module _ (f : ℕ → Node) where
  splits : (j i k : ℕ) → numbers_from f j (i + k) ≡ numbers_from f j i ++ numbers_from f (j + i) k
  unfolding numbers_from
  splits j zero k = let a : 0 + k ≡ k = omega arith in let b : j + 0 ≡ j = omega arith in rw (a, b)
  splits j (suc i) k =
      let a : suc i + k ≡ suc (i + k) = omega arith in
      let b : j + suc i ≡ suc j + i = omega arith in
      rw (a, b, splits (suc j) i k)

  -- before node i the numbers of i nodes, then its own
  around : (i n : ℕ) → i < n → numbers_from f 0 n ≡ numbers_from f 0 i ++ (numbers_of (f i) ++ numbers_from f (suc i) (n - suc i))
  unfolding numbers_from
  around i n h =
      let a : n ≡ i + suc (n - suc i) = omega arith in
      let b : 0 + i ≡ i = omega arith in
      ap (numbers_from f 0) a ∙ splits 0 i (suc (n - suc i)) ∙ ap (λ (k : ℕ). numbers_from f 0 i ++ numbers_from f k (suc (n - suc i))) b

-- the five numbers of node i stand at 5 × i, whatever follows the level's
pub node-numbers : (s : List ℕ) (l i : ℕ) (past : List ℕ) → i < count_of s l → Holds (nodes_of s l ++ past) (5 * i) (numbers_of (node_at s l i))
unfolding nodes_of
node-numbers s l i past h =
    let a = numbers_from (node_at s l) 0 i in
    let b = numbers_from (node_at s l) (suc i) (count_of s l - suc i) in
    rw (around (node_at s l) i (count_of s l) h, append_assoc a (numbers_of (node_at s l i) ++ b) past)
    (holds_move (holds-all a (numbers_of (node_at s l i)) (b ++ past)) (length-numbers (node_at s l) 0 i))

-- ---- of the answers

module _ (s : List ℕ) (l : ℕ) (out : List ℕ) (n : ℕ) (e : nodes_answer s l out ≡ Ok n) where
  whole : (first_number (nodes_checks s l out) ≡ 0) × (◌≡◌ {A = Answer ℕ} (Ok n) (Ok (length (nodes_of s l))))
  unfolding nodes_answer
  whole = unrefused refuse (nodes_checks s l out) (Ok (length (nodes_of s l))) (λ k p. cc) e

  -- five numbers a node
  pub nodes-count : n ≡ 5 * count_of s l
  nodes-count = let z : n ≡ length (nodes_of s l) = cc whole.1 in z ∙ length-nodes s l

  pub nodes-written : nodes_left s l out ≡ nodes_of s l ++ drop (length (nodes_of s l)) out
  unfolding nodes_left unless
  nodes-written = rw whole.0

  sound-level : (manifest_verdict s ≡ 0) × (has_level s l ≡ true)
  unfolding nodes_checks
  sound-level =
      let z = none-sound s _ whole.0 in
      (z.0, not-false _ (none-head 17 (not (has_level s l)) _ z.1).0)

  module _ (i : ℕ) (h : i < count_of s l) where
    -- the call for node i answers that node,
    pub node-alone : node_answer s l i ≡ Ok (node_at s l i)
    unfolding has_node
    node-alone = sym (node-given s sound-level.0 l i refl (rw (sound-level.1, lt-ltb i (count_of s l) h)) refl)

    -- and its five numbers stand at 5 × i
    pub nodes_hold : Holds (nodes_left s l out) (5 * i) (numbers_of (node_at s l i))
    nodes_hold = rw nodes-written (node-numbers s l i (drop (length (nodes_of s l)) out) h)

    pub nodes_hold_each : (a : Node) → node_answer s l i ≡ Ok a → Holds (nodes_left s l out) (5 * i) (numbers_of a)
    nodes_hold_each a f = rw (node-is s l i a f) nodes_hold
