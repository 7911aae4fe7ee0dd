-- An answer by checks as a choice for each: what a proof that follows the code, test by test, shows.
use Prim.Native.Nat.{ℕ, zero, suc}
use mathlib.Core.Path.{◌≡◌, refl, ◌∙◌}
use mathlib.Core.Bool.{Bool, true, false, ◌&&◌}
use mathlib.Core.List.{List, [], ◌∷◌, ◌++◌}
use native.Mathlib.Omega.{arith}
use lib.Dec.{leb}
use borrow.Author.Tests.{leb-true}
use Rattle.refusal.specs.Choice.{pick}
use Rattle.refusal.specs.Table.{last, InTable}
use Rattle.refusal.specs.Checks.{Check, first_number, unless, answered}
use Rattle.refusal.proofs.Tests.{both}

-- the refusal of the first check that holds, or else a
abbrev pub picks : {A : Type 0} → (ℕ → A) → List Check → A → A
picks r [] a = a
picks r (c ∷ cs) a = pick c.holds (r c.number) (picks r cs a)

-- each number is in the table: a test that computes where the numbers are given, and the fact
abbrev pub all_in : List Check → Bool
all_in [] = true
all_in (c ∷ cs) = (leb 1 c.number && leb c.number last) && all_in cs

abbrev pub AllIn : List Check → Type 0
AllIn [] = Unit {0}
AllIn (c ∷ cs) = InTable c.number × AllIn cs

pub all_in_lem : (checks : List Check) → all_in checks ≡ true → AllIn checks
all_in_lem [] t = tt
all_in_lem (c ∷ cs) t =
    let q = both (leb 1 c.number && leb c.number last) (all_in cs) t in
    let i = both (leb 1 c.number) (leb c.number last) q.0 in
    ((leb-true _ _ i.0, leb-true _ _ i.1), all_in_lem cs q.1)

pub all_in_both : (xs ys : List Check) → AllIn xs → AllIn ys → AllIn (xs ++ ys)
all_in_both [] ys h k = k
all_in_both (c ∷ cs) ys h k = (h.0, all_in_both cs ys h.1 k)

-- one check
unless-pick : {A : Type 0} (r : ℕ → A) (b : Bool) (n m : ℕ) (a : A) → InTable n → unless r (pick b n m) a ≡ pick b (r n) (unless r m a)
unfolding unless
unless-pick r false n m a t = refl
unless-pick r true zero m a t = absurd (omega (arith, t.0))
unless-pick r true (suc n) m a t = refl

pub picked : {A : Type 0} (r : ℕ → A) (checks : List Check) (a : A) → AllIn checks → answered r checks a ≡ picks r checks a
unfolding first_number
picked r [] a t = unfold unless in refl
picked r (c ∷ cs) a t = unless-pick r c.holds c.number (first_number cs) a t.0 ∙ rw (picked r cs a t.1)

-- where the numbers are given
pub by_picks : {A : Type 0} (r : ℕ → A) (checks : List Check) (a : A) → all_in checks ≡ true → answered r checks a ≡ picks r checks a
by_picks r checks a t = picked r checks a (all_in_lem checks t)
