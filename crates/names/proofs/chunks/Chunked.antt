-- What the writers of chunk names need: a span, the name of bounds, and a law for each way out of `chunk_name`.
use Prim.Native.Nat.{ℕ}
use mathlib.Core.Path.{◌≡◌, refl, sym, ap, ◌∙◌}
use mathlib.Core.Bool.{Bool, true, false}
use mathlib.Core.List.{List, [], ◌∷◌}
use native.Mathlib.Omega.{arith}
use borrow.Author.Rules.{rules}
use lib.IntN.{ℤ}
use mir.Syntax.{w64}
use mir.Val.{SFits}
use mir.Facts.{to_z-of_z}
use Rattle.refusal.specs.Choice.{pick}
use Rattle.refusal.specs.Buffer.{room, written, left_by}
use Rattle.std.specs.Prelude.{Ok, Err}
use Rattle.refusal.specs.declared.Refusal.{Refusal}
use Rattle.refusal.specs.Answers.{Answer, refuse}
use Rattle.refusal.proofs.Picks.{by_picks}
use Rattle.morton.specs.grid.Answers.{no_cell}
use Rattle.morton.specs.bounds.Answers.{bounds_answer}
use Rattle.morton.specs.bounds.Bounds.{bounds_of}
use Rattle.morton.specs.declared.bounds.Bounds.{Bounds}
use Rattle.morton.specs.declared.grid.Cell.{Cell}
use Rattle.morton.specs.declared.grid.Volume.{Volume}
use Rattle.morton.proofs.bounds.Answered.{bounds_by_picks}
use Rattle.names.specs.chunks.Spans.{span_of, spans_text}
use Rattle.names.specs.chunks.Chunks.{bounds_name, chunk_name, chunk_name_checks, chunk_name_answer, chunk_name_left}
use Rattle.names.specs.declared.chunks.inner.Span.{Span}
use Rattle.names.specs.digits.Signs.{sign_parts}
use Rattle.names.specs.declared.digits.Signed.{Signed}
use Rattle.names.proofs.digits.Signing.{back}

-- ---- a span from two i64s, each read back from its bits

pub span-is : (b e : ℤ) (r s : Signed) → SFits w64 b → SFits w64 e → r ≡ sign_parts (back b) → s ≡ sign_parts (back e) → record { begin = r; end = s } ≡ span_of b e
unfolding span_of
span-is b e r s f g p q =
    let p' : r ≡ sign_parts b = rw (to_z-of_z f) at p in
    let q' : s ≡ sign_parts e = rw (to_z-of_z g) at q in
    λ i. record { begin = p' i; end = q' i }

-- ---- the bounds' spans, each of two i64s read back from their bits

module _ (b : Bounds) (x y z : Span)
    (px : x ≡ span_of (back b.begin.x) (back b.end.x))
    (py : y ≡ span_of (back b.begin.y) (back b.end.y))
    (pz : z ≡ span_of (back b.begin.z) (back b.end.z))
    (fx : SFits w64 b.begin.x) (gx : SFits w64 b.end.x)
    (fy : SFits w64 b.begin.y) (gy : SFits w64 b.end.y)
    (fz : SFits w64 b.begin.z) (gz : SFits w64 b.end.z) where
  same-spans : spans_text x y z ≡ bounds_name b
  unfolding bounds_name
  same-spans = rw (px, py, pz, to_z-of_z fx, to_z-of_z gx, to_z-of_z fy, to_z-of_z gy, to_z-of_z fz, to_z-of_z gz)

  pub bounds-answer : (r : Answer ℕ) (d : List ℕ) → r ≡ written (spans_text x y z) d → r ≡ written (bounds_name b) d
  bounds-answer r d w = w ∙ ap (λ (t : List ℕ). written t d) same-spans

  pub bounds-left : (s d : List ℕ) → s ≡ left_by (spans_text x y z) d → s ≡ left_by (bounds_name b) d
  bounds-left s d w = w ∙ ap (λ (t : List ℕ). left_by t d) same-spans

pub ruleset bounding = (bounds-answer, bounds-left, rules)

-- ---- the ways out

module _ (v : Volume) (c : Cell) (d : List ℕ) where
  answer_picks : chunk_name_answer v c d ≡ pick (no_cell v c) (refuse 2) (written (chunk_name v c) d)
  unfolding chunk_name_answer chunk_name_checks written
  answer_picks =
      by_picks refuse (chunk_name_checks v c d) _ refl
      ∙ ap (λ (w : Answer ℕ). pick (no_cell v c) (refuse 2) w) (sym (by_picks refuse (room (chunk_name v c) d ∷ []) _ refl))

  left_picks : chunk_name_left v c d ≡ pick (no_cell v c) d (left_by (chunk_name v c) d)
  unfolding chunk_name_left chunk_name_checks left_by
  left_picks =
      by_picks (λ k. d) (chunk_name_checks v c d) _ refl
      ∙ ap (λ (w : List ℕ). pick (no_cell v c) d w) (sym (by_picks (λ k. d) (room (chunk_name v c) d ∷ []) _ refl))

refused_by : (t : Bool) (b : Bounds) (k : Refusal) → pick t (refuse 2) (Ok b) ≡ Err k → (t ≡ true) × (◌≡◌ {A = Answer ℕ} (refuse 2) (Err k))
refused_by true b k e = (refl, cc)
refused_by false b k e = let z : ◌≡◌ {A = ℕ} 0 1 = cc in absurd (omega arith)

within_by : (t : Bool) (a b : Bounds) → pick t (refuse 2) (Ok b) ≡ Ok a → (t ≡ false) × (a ≡ b)
within_by true a b e = let z : ◌≡◌ {A = ℕ} 0 1 = cc in absurd (omega arith)
within_by false a b e = (refl, cc)

module _ (v : Volume) (c : Cell) (d : List ℕ) where
  module _ (k : Refusal) (p : Err k ≡ bounds_answer v c) where
    refused : (no_cell v c ≡ true) × (◌≡◌ {A = Answer ℕ} (refuse 2) (Err k))
    refused = refused_by (no_cell v c) (bounds_of v c) k (sym (p ∙ bounds_by_picks v c))

    pub no_name : Err k ≡ chunk_name_answer v c d
    no_name = sym (answer_picks v c d ∙ rw refused.0 refused.1)

    pub no-name-left : d ≡ chunk_name_left v c d
    no-name-left = sym (left_picks v c d ∙ rw refused.0)

  module _ (b : Bounds) (p : Ok b ≡ bounds_answer v c) where
    within : (no_cell v c ≡ false) × (b ≡ bounds_of v c)
    within = within_by (no_cell v c) b (bounds_of v c) (sym (p ∙ bounds_by_picks v c))

    name : bounds_name b ≡ chunk_name v c
    unfolding chunk_name
    name = ap bounds_name within.1

    pub cell-name : (a : Answer ℕ) → a ≡ written (bounds_name b) d → a ≡ chunk_name_answer v c d
    cell-name a w = w ∙ ap (λ (t : List ℕ). written t d) name ∙ sym (answer_picks v c d ∙ rw within.0)

    pub cell-name-left : (s : List ℕ) → s ≡ left_by (bounds_name b) d → s ≡ chunk_name_left v c d
    cell-name-left s w = w ∙ ap (λ (t : List ℕ). left_by t d) name ∙ sym (left_picks v c d ∙ rw within.0)

pub ruleset celling = (no_name, no-name-left, cell-name, cell-name-left, rules)
