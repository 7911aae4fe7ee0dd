-- What comes with a refusal has room in the answer word: the minishard that a check names is one of the shard's, and a position lies within
-- the file.
use Prim.Native.Nat.{ℕ, ◌+◌, ◌<◌}
use mathlib.Core.Path.{◌≡◌, sym, ◌∙◌}
use mathlib.Core.Bool.{Bool}
use mathlib.Core.List.{List}
use native.Mathlib.Omega.{arith}
use borrow.Author.Rules.{rules}
use Rattle.sharding.specs.declared.Sharding.{Sharding}
use Rattle.sharding.proofs.Allowed.{minishards-most}
use Rattle.shard.specs.declared.CheckAnswer.{CheckAnswer}
use Rattle.shard.specs.declared.CheckAnswer.TheVariants.{Faulty}
use Rattle.shard.specs.File.{check_answer}
use Rattle.shard.proofs.Numbers.{file-called}
use Rattle.shard.proofs.Whole.{check-names}
use Rattle.lookup.specs.declared.id_search.LookupAnswer.{LookupAnswer}
use Rattle.lookup.specs.declared.id_search.LookupAnswer.TheVariants as L
use Rattle.lookup.specs.Find.{lookup_answer}
use Rattle.lookup.specs.fragments.Fragment.{fragment_answer}
use Rattle.refusal.specs.declared.CountAnswer.{CountAnswer}
use Rattle.refusal.specs.declared.CountAnswer.TheVariants as N
use Rattle.lookup.specs.listings.Listing.{count_answer, listing_answer}
use Rattle.unlisted.specs.Answers.{unlisted_answer}
use Rattle.settle.specs.answers.Answers.{length_answer, settle_answer}
use Rattle.positions.specs.Points.{PointsAt}
use Rattle.positions.proofs.Points.{check-points, lookup-points, fragment-points, count-points, listing-points, unlisted-named, length-named, settle-named}

pub minishard-fits : (spec : Sharding) (shard : ℕ) (file : List ℕ) {a : CheckAnswer} {k m p : ℕ} → a ≡ check_answer spec shard file → a ≡ Faulty k m p → m + 1 < 16777216
minishard-fits spec shard file {a} {k} {m} {p} e h =
    let first = (check-names spec shard file k m p).0 (sym e ∙ h) in
    let below = first.below in
    let most = minishards-most spec (file-called spec _ file first.called).permitted in
    omega (arith, below, most)

module _ (spec : Sharding) (shard : ℕ) (file : List ℕ) where
  fits : (m k p : ℕ) → PointsAt spec shard file m k p → p + 1 < 4294967296
  fits m k p t = omega (arith, t.within, t.short)

  pub check-fits : {a : CheckAnswer} {k m p : ℕ} → a ≡ check_answer spec shard file → a ≡ Faulty k m p → p + 1 < 4294967296
  check-fits {a} {k} {m} {p} e h = fits m k p (check-points spec shard file k m p (sym e ∙ h))

  pub lookup-fits : (id : ℕ) {a : LookupAnswer} {k p : ℕ} → a ≡ lookup_answer spec shard file id → a ≡ L.Faulty k p → p + 1 < 4294967296
  lookup-fits id {a} {k} {p} e h = fits _ k p (lookup-points spec shard file id k p (sym e ∙ h))

  pub fragment-fits : (id level node : ℕ) {a : LookupAnswer} {k p : ℕ} → a ≡ fragment_answer spec shard file id level node → a ≡ L.Faulty k p → p + 1 < 4294967296
  fragment-fits id level node {a} {k} {p} e h = fits _ k p (fragment-points spec shard file id level node k p (sym e ∙ h))

  pub count_fits : (m : ℕ) {a : CountAnswer} {k p : ℕ} → a ≡ count_answer spec shard file m → a ≡ N.Faulty k p → p + 1 < 4294967296
  count_fits m {a} {k} {p} e h = fits m k p (count-points spec shard file m k p (sym e ∙ h))

  pub listing-fits : (m : ℕ) (out : List ℕ) {a : CountAnswer} {k p : ℕ} → a ≡ listing_answer spec shard file m out → a ≡ N.Faulty k p → p + 1 < 4294967296
  listing-fits m out {a} {k} {p} e h = fits m k p (listing-points spec shard file m out k p (sym e ∙ h))

  pub unlisted-fits : {a : CountAnswer} {k p : ℕ} → a ≡ unlisted_answer spec shard file → a ≡ N.Faulty k p → p + 1 < 4294967296
  unlisted-fits {a} {k} {p} e h = let t = unlisted-named spec shard file k p (sym e ∙ h) in fits t.minishard k p t.points

  pub length-fits : (dropping : Bool) {a : CountAnswer} {k p : ℕ} → a ≡ length_answer spec shard file dropping → a ≡ N.Faulty k p → p + 1 < 4294967296
  length-fits dropping {a} {k} {p} e h = let t = length-named spec shard file k p dropping (sym e ∙ h) in fits t.minishard k p t.points

  pub settle-fits : (dropping : Bool) (out : List ℕ) {a : CountAnswer} {k p : ℕ} → a ≡ settle_answer spec shard file dropping out → a ≡ N.Faulty k p → p + 1 < 4294967296
  settle-fits dropping out {a} {k} {p} e h = let t = settle-named spec shard file dropping out k p (sym e ∙ h) in fits t.minishard k p t.points

pub ruleset fitting = (minishard-fits, check-fits, lookup-fits, fragment-fits, count_fits, listing-fits, unlisted-fits, length-fits, settle-fits, rules)
