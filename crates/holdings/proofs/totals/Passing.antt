-- The totals of two sheets, made row by row, as the code has them. Each law has the shape of a need.
use Prim.Native.Nat.{ℕ, zero, suc, ◌+◌, ◌-◌, ◌≤◌, ◌<◌}
use mathlib.Core.Path.{◌≡◌, refl, sym, ap, ◌∙◌}
use mathlib.Core.Bool.{true, false, or-true, false≢true}
use mathlib.Core.List.{List, [], ◌∷◌}
use native.Mathlib.Omega.{arith}
use borrow.Author.Rules.{rules}
use borrow.Author.Tests.{lt-ltb, le-ltb}
use lib.ListN.{length, get_or, set, take, length-set}
use mir.Val.{Fits}
use mir.Syntax.{w64}
use Rattle.refusal.proofs.Tests.{neither}
use Rattle.holdings.specs.chunk_sums.Totals.{most_total, passes}
use Rattle.holdings.specs.totals.Totals.{added, any_passes, Totals}

-- the totals, where those of the first i rows are made already
unfoldable pub made : ℕ → List ℕ → List ℕ → List ℕ
made zero xs ys = added xs ys
made (suc i) (x ∷ xs) (y ∷ ys) = x ∷ made i xs ys
made (suc i) (x ∷ xs) [] = []
made (suc i) [] ys = []

made-next : (i : ℕ) (xs ys : List ℕ) → i < length xs → i < length ys → made (suc i) (set xs i (get_or xs i 0 + get_or ys i 0)) ys ≡ made i xs ys
unfolding made added
made-next i [] ys l k = absurd (omega arith)
made-next i (x ∷ xs) [] l k = absurd (omega arith)
made-next zero (x ∷ xs) (y ∷ ys) l k = refl
made-next (suc i) (x ∷ xs) (y ∷ ys) l k = ap (λ (ns : List ℕ). x ∷ ns) (made-next i xs ys (omega arith) (omega arith))

made_all : (i : ℕ) (xs ys : List ℕ) → length xs ≤ i → length xs ≡ length ys → made i xs ys ≡ xs
unfolding made added
made_all zero [] [] l e = refl
made_all (suc i) [] [] l e = refl
made_all i [] (y ∷ ys) l e = absurd (omega arith)
made_all i (x ∷ xs) [] l e = absurd (omega arith)
made_all zero (x ∷ xs) (y ∷ ys) l e = absurd (omega arith)
made_all (suc i) (x ∷ xs) (y ∷ ys) l e = ap (λ (ns : List ℕ). x ∷ ns) (made_all i xs ys (omega arith) (omega arith))

made-passes : (i : ℕ) (xs ys : List ℕ) → i < length xs → i < length ys → passes (get_or xs i 0 + get_or ys i 0) ≡ true → any_passes (made i xs ys) ≡ true
unfolding made added any_passes
made-passes i [] ys l k h = absurd (omega arith)
made-passes i (x ∷ xs) [] l k h = absurd (omega arith)
made-passes zero (x ∷ xs) (y ∷ ys) l k h = rw h
made-passes (suc i) (x ∷ xs) (y ∷ ys) l k h = rw (made-passes i xs ys (omega arith) (omega arith) h) (or-true (passes x))

-- none of the first i passes
none-next : (i : ℕ) (xs : List ℕ) (v : ℕ) → any_passes (take i xs) ≡ false → passes v ≡ false → any_passes (take (suc i) (set xs i v)) ≡ false
unfolding any_passes
none-next i [] v h p = refl
none-next zero (x ∷ xs) v h p = rw p
none-next (suc i) (x ∷ xs) v h p = let e = neither (passes x) (any_passes (take i xs)) h in rw (e.0, none-next i xs v e.1 p)

none-all : (i : ℕ) (xs : List ℕ) → length xs ≤ i → any_passes (take i xs) ≡ false → any_passes xs ≡ false
unfolding any_passes
none-all i [] l h = refl
none-all zero (x ∷ xs) l h = absurd (omega arith)
none-all (suc i) (x ∷ xs) l h = let e = neither (passes x) (any_passes (take i xs)) h in rw (e.0, none-all i xs (omega arith) e.1)

-- ---- a loop that makes them

pub record Adding (before rows totals : List ℕ) (i : ℕ) : Type 0 where
  pub all : made i totals rows ≡ added before rows
  pub none : any_passes (take i totals) ≡ false
  pub size : length totals ≡ length rows
  pub long : length totals ≡ length before

pub adding_first : {before rows : List ℕ} → length before ≡ length rows → Adding before rows before 0
unfolding made any_passes
adding_first e = record { all = refl; none = refl; size = e; long = refl }

pub adding_most : (totals : List ℕ) (i : ℕ) → ((k : ℕ) → Fits w64 (get_or totals k 0)) → get_or totals i 0 ≤ most_total
adding_most totals i f = omega (arith, f i)

module _ {before rows totals : List ℕ} {i : ℕ} (h : Adding before rows totals i) where
  pub adding_long : length totals ≡ length before
  adding_long = h.long

  module _ (l : i < length before) where
    pub adding_within : i < length rows
    adding_within = omega (arith, h.size, h.long)

    at_total : i < length totals
    at_total = omega (arith, h.long)

    pub adding_passed : most_total - get_or totals i 0 < get_or rows i 0 → Totals before rows totals true
    unfolding passes
    adding_passed k =
        let t = made-passes i totals rows at_total adding_within (lt-ltb most_total (get_or totals i 0 + get_or rows i 0) (omega arith)) in
        record { test = sym (rw h.all at t); exact = λ e. absurd (false≢true (sym e)) }

    module _ (f : Fits w64 (get_or totals i 0)) (k : get_or rows i 0 ≤ most_total - get_or totals i 0) where
      pub adding_next : Adding before rows (set totals i (get_or totals i 0 + get_or rows i 0)) (i + 1)
      unfolding passes
      adding_next =
          let v = get_or totals i 0 + get_or rows i 0 in
          let n : i + 1 ≡ suc i = omega arith in
          let s = length-set totals i v in
          record {
            all = ap (λ (j : ℕ). made j (set totals i v) rows) n ∙ made-next i totals rows at_total adding_within ∙ h.all;
            none = ap (λ (j : ℕ). any_passes (take j (set totals i v))) n ∙ none-next i totals v h.none (le-ltb most_total v (omega (arith, f)));
            size = s ∙ h.size;
            long = s ∙ h.long;
          }

  pub adding_done : length before ≤ i → Totals before rows totals false
  adding_done l =
      let past : length totals ≤ i = omega (arith, h.long) in
      let t : totals ≡ added before rows = sym (made_all i totals rows past h.size) ∙ h.all in
      record { test = sym (ap any_passes (sym t) ∙ none-all i totals past h.none); exact = λ e. t }

pub ruleset adding = (adding_first, adding_most, adding_long, adding_within, adding_passed, adding_next, adding_done, rules)
