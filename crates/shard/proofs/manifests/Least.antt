-- Tests with rising numbers, worked entry by entry, give what they give one after the other.
use Rattle.std.proofs.Common.{◌≡◌, ℕ, suc, ◌<◌, ◌≤◌, Bool, true, false, eqb, ◌⊎◌, List, [], ◌∷◌, sym, refl, inl, inr, ⊎_elim, arith, le-ltb, lt-ltb, eq-eqb, ne_eqb}
use mathlib.Core.Bool.{or-true}
use Rattle.refusal.specs.Choice.{pick}
use Rattle.endian.specs.Range.{any_below, first}
use Rattle.endian.proofs.Ranges.{first-lt}
use Rattle.shard.specs.index.Tests.{EntryTest, first_of}
use Rattle.shard.specs.declared.manifests.Failed.{Failed}
use Rattle.shard.specs.manifests.Each.{failed, least_of, failed_number_at, lesser, placed}

-- the numbers are above k and rise
abbrev pub Above : ℕ → List EntryTest → Type 0
Above k [] = Unit {0}
Above k (t ∷ ts) = (k < t.number) × Above t.number ts

-- a number is 0 or above k
abbrev pub Far : ℕ → ℕ → Type 0
Far k v = (v ≡ 0) ⊎ (k < v)

far-pick : (b : Bool) (k v w : ℕ) → k < v → Far k w → Far k (pick b v w)
far-pick true k v w l h = inr l
far-pick false k v w l h = h

far_less : {k l v : ℕ} → k < l → Far l v → Far k v
far_less h f = ⊎_elim (λ e. inl e) (λ g. inr (omega arith)) f

pub number-far : (k : ℕ) (ts : List EntryTest) (i : ℕ) → Above k ts → Far k (failed_number_at ts i)
unfolding failed_number_at
number-far k [] i a = inl refl
number-far k (t ∷ ts) i a = far-pick (t.fails i) k t.number (failed_number_at ts i) a.0 (far_less a.0 (number-far t.number ts i a.1))

pub first-far : (k n : ℕ) (ts : List EntryTest) → Above k ts → Far k (least_of n ts).number
unfolding least_of
first-far k n [] a = inl refl
first-far k n (t ∷ ts) a = far-failed (any_below n t.fails) k (failed t.number (first t.fails n)) (least_of n ts) a.0 (far_less a.0 (first-far t.number n ts a.1))
  where
    far-failed : (b : Bool) (k : ℕ) (f g : Failed) → k < f.number → Far k g.number → Far k (pick b f g).number
    far-failed true k f g l h = inr l
    far-failed false k f g l h = h

-- ---- the lesser of two

pub lesser-none : (f : Failed) (v i : ℕ) → v ≡ 0 → lesser f v i ≡ f
unfolding lesser
lesser-none f v i e = rw e refl

pub lesser-kept : (f : Failed) (v i : ℕ) → 0 < f.number → f.number ≤ v → lesser f v i ≡ f
unfolding lesser
lesser-kept f v i p h =
    rw (ne_eqb v 0 (λ z. omega (arith, z)), ne_eqb f.number 0 (λ z. omega (arith, z)), le-ltb v f.number h) refl

pub lesser-new : (f : Failed) (v i : ℕ) → 0 < v → Far v f.number → lesser f v i ≡ failed v i
unfolding lesser
lesser-new f v i p h =
    ⊎_elim
    (λ (e : f.number ≡ 0). rw (ne_eqb v 0 (λ z. omega (arith, z)), eq-eqb f.number 0 e) refl)
    (λ (l : v < f.number). rw (ne_eqb v 0 (λ z. omega (arith, z)), lt-ltb v f.number l, or-true (eqb f.number 0)) refl)
    h

lesser-far : (f : Failed) (v i : ℕ) → 0 < f.number → ((v ≡ 0) ⊎ (f.number ≤ v)) → lesser f v i ≡ f
lesser-far f v i p h = ⊎_elim (λ e. lesser-none f v i e) (λ l. lesser-kept f v i p l) h

-- ---- one entry more

far_at : (b : Bool) (k w : ℕ) → Far k w → (pick b k w ≡ 0) ⊎ (k ≤ pick b k w)
far_at true k w h = inr (omega arith)
far_at false k w h = ⊎_elim (λ e. inl e) (λ l. inr (omega arith)) h

pub entry_more : (k n : ℕ) (ts : List EntryTest) → Above k ts → least_of (suc n) ts ≡ lesser (least_of n ts) (failed_number_at ts n) n
unfolding least_of failed_number_at any_below first
entry_more k n [] a = sym (lesser-none (failed 0 0) 0 n refl)
entry_more k n (t ∷ ts) a =
    go (any_below n t.fails) (t.fails n) refl refl (number-far t.number ts n a.1) (first-far t.number n ts a.1) (entry_more t.number n ts a.1)
  where
    go : (p q : Bool) → any_below n t.fails ≡ p → t.fails n ≡ q → Far t.number (failed_number_at ts n) → Far t.number (least_of n ts).number
        → least_of (suc n) ts ≡ lesser (least_of n ts) (failed_number_at ts n) n
        → least_of (suc n) (t ∷ ts) ≡ lesser (least_of n (t ∷ ts)) (failed_number_at (t ∷ ts) n) n
    go true q e f u v ih = rw (e, f) (sym (lesser-far (failed t.number (first t.fails n)) (pick q t.number (failed_number_at ts n)) n (omega (arith, a.0)) (far_at q t.number (failed_number_at ts n) u)))
    go false true e f u v ih = rw (e, f) (sym (lesser-new (least_of n ts) t.number n (omega (arith, a.0)) v))
    go false false e f u v ih = rw (e, f) ih

-- ---- with a position, where all tests point at one row

abbrev pub AllIn : ℕ → List EntryTest → Type 0
AllIn row [] = Unit {0}
AllIn row (t ∷ ts) = (t.row ≡ row) × AllIn row ts

pub placed-least : (p n row k : ℕ) (ts : List EntryTest) → AllIn row ts → Above k ts → first_of p n ts ≡ placed p n row (least_of n ts)
unfolding first_of least_of placed
placed-least p n row k [] r a = refl
placed-least p n row k (t ∷ ts) r a = go (any_below n t.fails) refl (placed-least p n row t.number ts r.1 a.1)
  where
    go : (b : Bool) → any_below n t.fails ≡ b → first_of p n ts ≡ placed p n row (least_of n ts) → first_of p n (t ∷ ts) ≡ placed p n row (least_of n (t ∷ ts))
    go true e ih = rw (e, ne_eqb t.number 0 (λ z. omega (arith, z, a.0)), r.0)
    go false e ih = rw e ih

-- the entry is none past the last
pub entry-most : (n : ℕ) (ts : List EntryTest) → (least_of n ts).entry ≤ n
unfolding least_of
entry-most n [] = omega arith
entry-most n (t ∷ ts) = most (any_below n t.fails) refl (entry-most n ts)
  where
    most : (b : Bool) → any_below n t.fails ≡ b → (least_of n ts).entry ≤ n → (least_of n (t ∷ ts)).entry ≤ n
    most true e h = rw e (omega (arith, first-lt t.fails n e))
    most false e h = rw e h
