-- A success that is told is the success that is answered.
use Prim.Native.Nat.{ℕ}
use mathlib.Core.Path.{◌≡◌, refl, sym, ap, ◌∙◌}
use mathlib.Core.Option.{Option, none, some}
use native.Mathlib.Omega.{arith}
use Rattle.refusal.specs.Result.{Result, success, written_result, count_result}
use Rattle.std.specs.Prelude.{Ok, Err}
use Rattle.refusal.specs.Answers.{Answer}
use Rattle.refusal.specs.declared.CountAnswer.{CountAnswer}
use Rattle.refusal.specs.declared.CountAnswer.TheVariants as N
use Rattle.morton.specs.declared.grid.Cell.{Cell}
use Rattle.morton.specs.Answers.{key_result, cell_result}
use Rattle.mesh_manifest.specs.declared.corners.Corners.{Corners}
use Rattle.mesh_manifest.specs.corners.Boxes.{corners_result}

module _ {A : Type 0} where
  same : {v w : A} → success v ≡ success w → v ≡ w
  same {v} {w} e = let y : some v ≡ some w = ap (λ (r : Result A). r.values) e in cc

  no-success : {r : Result A} {w : A} → r.values ≡ none → r ≡ success w → ◌≡◌ {A = ℕ} 0 1
  no-success {w = w} n e = let y : ◌≡◌ {A = Option A} none (some w) = sym n ∙ ap (λ (r : Result A). r.values) e in cc

pub written-told : (a : Answer ℕ) {n : ℕ} → written_result a ≡ success n → a ≡ Ok n
written-told (Ok n) e = ap Ok (same e)
written-told (Err k) e = let z = no-success refl e in absurd (omega arith)

pub count-told : (a : CountAnswer) {n : ℕ} → count_result a ≡ success n → a ≡ N.Count n
count-told (N.Count n) e = ap N.Count (same e)
count-told (N.Refused k) e = let z = no-success refl e in absurd (omega arith)
count-told (N.Faulty k p) e = let z = no-success refl e in absurd (omega arith)

pub key-told : (a : Answer ℕ) {k : ℕ} → key_result a ≡ success k → a ≡ Ok k
key-told (Ok n) e = ap Ok (same e)
key-told (Err k) e = let z = no-success refl e in absurd (omega arith)

pub cell-told : (a : Answer Cell) {c : Cell} → cell_result a ≡ success c → a ≡ Ok c
cell-told (Ok c) e = ap Ok (same e)
cell-told (Err k) e = let z = no-success refl e in absurd (omega arith)

pub corners-told : (a : Answer Corners) {c : Corners} → corners_result a ≡ success c → a ≡ Ok c
corners-told (Ok c) e = ap Ok (same e)
corners-told (Err k) e = let z = no-success refl e in absurd (omega arith)
