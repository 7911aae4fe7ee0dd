-- The answer to the question of a level's nodes, by the tests that lead to it; e is what the judge answered.
use Prim.Native.Nat.{ℕ, ◌*◌, ◌≤◌, ◌<◌}
use mathlib.Core.Path.{◌≡◌, refl, ap, ◌∙◌}
use mathlib.Core.Bool.{false, not}
use mathlib.Core.List.{List}
use native.Mathlib.Omega.{arith}
use lib.ListN.{length}
use borrow.Author.Rules.{rules}
use borrow.Author.Tests.{lt-ltb, le-ltb}
use Rattle.std.specs.Prelude.{Ok, Err}
use Rattle.refusal.specs.Answers.{refuse}
use Rattle.refusal.specs.declared.Refusal.{Refusal}
use Rattle.refusal.specs.Answers.{judged}
use Rattle.endian.specs.Place.{paste}
use Rattle.endian.proofs.Paste.{paste-front}
use Rattle.mesh_manifest.specs.layout.Layout.{levels_of, count_of}
use Rattle.mesh_manifest.specs.sound.Verdict.{manifest_verdict}
use Rattle.mesh_manifest.proofs.sound.Judged.{fails, passes, passed, refused-first, given-first, told-sound}
use Rattle.mesh_manifest.specs.nodes.Nodes.{has_level}
use Rattle.mesh_manifest.specs.node_numbers.Numbers.{nodes_of}
use Rattle.mesh_manifest.specs.level.Level.{nodes_checks, nodes_answer, nodes_left}
use Rattle.mesh_manifest.proofs.node_numbers.Listed.{length-nodes}

module _ (s : List ℕ) (l : ℕ) (out : List ℕ) {k : Refusal} (e : Err k ≡ judged (manifest_verdict s)) where
  pub nodes-refused : Err k ≡ nodes_answer s l out
  unfolding nodes_answer nodes_checks
  nodes-refused = refused-first s e Err _ _

  pub nodes-refused-kept : out ≡ nodes_left s l out
  unfolding nodes_left nodes_checks
  nodes-refused-kept = refused-first s e (λ k. out) _ _

module _ (s : List ℕ) (l : ℕ) (out : List ℕ) (z : manifest_verdict s ≡ 0) {k : ℕ} (f : k ≡ levels_of s) where
  pub nodes-none : k ≤ l → refuse 18 ≡ nodes_answer s l out
  unfolding nodes_answer nodes_checks
  nodes-none h = fails refuse _ 17 _ _ (ap not (le-ltb l (levels_of s) (omega arith))) ∙ given-first s z refuse _ _

  pub nodes-none-kept : k ≤ l → out ≡ nodes_left s l out
  unfolding nodes_left nodes_checks
  nodes-none-kept h = fails (λ k. out) _ 17 _ _ (ap not (le-ltb l (levels_of s) (omega arith))) ∙ given-first s z (λ k. out) _ _

  module _ (h : l < k) {n : ℕ} (g : n ≡ count_of s l) where
    there : not (has_level s l) ≡ false
    there = ap not (lt-ltb l (levels_of s) (omega arith))

    long : 5 * n ≡ length (nodes_of s l)
    long = omega (arith, length-nodes s l)

    pub nodes-short : length out < 5 * n → refuse 13 ≡ nodes_answer s l out
    unfolding nodes_answer nodes_checks
    nodes-short q = fails refuse _ 12 _ _ (lt-ltb (length out) (length (nodes_of s l)) (omega (arith, long))) ∙ passes refuse _ 18 _ _ there ∙ given-first s z refuse _ _

    pub nodes-short-kept : length out < 5 * n → out ≡ nodes_left s l out
    unfolding nodes_left nodes_checks
    nodes-short-kept q = fails (λ k. out) _ 12 _ _ (lt-ltb (length out) (length (nodes_of s l)) (omega (arith, long))) ∙ passes (λ k. out) _ 18 _ _ there ∙ given-first s z (λ k. out) _ _

    pub nodes-whole : 5 * n ≤ length out → Ok (5 * n) ≡ nodes_answer s l out
    unfolding nodes_answer nodes_checks
    nodes-whole q =
        ap Ok long ∙ passed refuse _ ∙ passes refuse _ 13 _ _ (le-ltb (length out) (length (nodes_of s l)) (omega (arith, long)))
        ∙ passes refuse _ 18 _ _ there ∙ given-first s z refuse _ _

    pub nodes-left : 5 * n ≤ length out → {out' : List ℕ} → out' ≡ paste 0 (nodes_of s l) out → out' ≡ nodes_left s l out
    unfolding nodes_left nodes_checks
    nodes-left q w =
        w ∙ paste-front (nodes_of s l) out (length (nodes_of s l)) refl ∙ passed (λ k. out) _
        ∙ passes (λ k. out) _ 13 _ _ (le-ltb (length out) (length (nodes_of s l)) (omega (arith, long)))
        ∙ passes (λ k. out) _ 18 _ _ there ∙ given-first s z (λ k. out) _ _

pub ruleset listing = (
  told-sound,
  nodes-none,
  nodes-none-kept,
  nodes-short,
  nodes-short-kept,
  nodes-whole,
  nodes-left,
  rules,
)
