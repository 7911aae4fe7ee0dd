-- What the order of announcements makes of a delivery: the chunks are in order, so each minishard's ids rise, and all belong to the shard.
use Prim.Native.Nat.{ℕ, ◌+◌, ◌^◌, ◌≤◌, ◌<◌}
use mathlib.Core.Path.{◌≡◌, refl, sym, ap, ◌∙◌}
use mathlib.Core.Bool.{Bool, true, false, ◌&&◌}
use mathlib.Core.Logic.{◌⊎◌, inl, inr, ⊎_elim}
use mathlib.Core.List.Memᴰ
use mathlib.Core.List.{List, [], ◌∷◌}
use native.Mathlib.Omega.{arith}
use lib.Dec.{ltb, leb, eqb}
use lib.ListN.{length}
use borrow.Author.Tests.{leb-false, lt-ltb, eqb-true, eqb-false, eq-eqb, ne_eqb}
use Rattle.refusal.proofs.Tests.{neither}
use Rattle.sharding.specs.declared.Sharding.{Sharding}
use Rattle.sharding.specs.placement.Place.{shard_of, minishard_of}
use Rattle.shard.specs.Items.{Item}
use Rattle.settled_form.specs.Sorted.{Member, Rising}
use Rattle.settled_form.specs.Content.{id_of}
use Rattle.intake.specs.declared.state.Intake.{Intake}
use Rattle.intake.specs.call_tests.Tests.{out_of_order}
use Rattle.intake.proofs.admission.Passing.{announces}
use Rattle.intake.proofs.call_tests.Passing.{not-below, foreign-ours}
use Rattle.intake.specs.steps.Steps.{turned, announced, taken}
use Rattle.intake.proofs.Refused.{announce_told}
use Rattle.delivered.specs.Delivered.{Delivery, concat_parts, as_item, as_items, in_minishard, Precedes, InOrder}
use Rattle.delivered.specs.Runs.{Desk, Takes, Delivers, no_chunk, chunk}
use Rattle.delivered.proofs.Handing.{handed}
use Rattle.delivered.proofs.Keeping.{turned-there}
use Rattle.delivered.proofs.Fitting.{Fit, chunk-fit, first-fit}

-- ---- the items of a minishard

module _ (spec : Sharding) (m : ℕ) where
  in_nil : in_minishard spec m [] ≡ []
  unfolding in_minishard
  in_nil = refl

  in_same : (x : Item) (xs : List Item) → minishard_of spec x.id ≡ m → in_minishard spec m (x ∷ xs) ≡ x ∷ in_minishard spec m xs
  unfolding in_minishard
  in_same x xs e = rw (eq-eqb _ _ e)

  in_other : (x : Item) (xs : List Item) → (minishard_of spec x.id ≡ m → ⊥) → in_minishard spec m (x ∷ xs) ≡ in_minishard spec m xs
  unfolding in_minishard
  in_other x xs e = rw (ne_eqb _ _ e)

  -- x is one of them, or not
  by_minishard : (x : Item) → (minishard_of spec x.id ≡ m) ⊎ (minishard_of spec x.id ≡ m → ⊥)
  by_minishard x = go (eqb (minishard_of spec x.id) m) refl
    where
      go : (b : Bool) → eqb (minishard_of spec x.id) m ≡ b → (minishard_of spec x.id ≡ m) ⊎ (minishard_of spec x.id ≡ m → ⊥)
      go true e = inl (eqb-true _ _ e)
      go false e = inr (eqb-false _ _ e)

  -- each is an item of the minishard, and of all
  pub in_member : {y : Item} (xs : List Item) → Member y (in_minishard spec m xs) → (minishard_of spec y.id ≡ m) × Member y xs
  in_member [] h = absurd (Memᴰ.not-nil (rw in_nil at h))
  in_member {y} (x ∷ xs) h =
      let more : Member y (in_minishard spec m xs) → (minishard_of spec y.id ≡ m) × Member y (x ∷ xs) = λ q. let r = in_member xs q in (r.0, Memᴰ.tail r.1) in
      ⊎_elim
      (λ e.
      ⊎_elim (λ p. (ap (λ (z : Item). minishard_of spec z.id) p ∙ e, Memᴰ.head p)) more (Memᴰ.cases_cons (rw (in_same x xs e) at h)))
      (λ e. more (rw (in_other x xs e) at h)) (by_minishard x)

  -- in order, their ids rise
  pub in_rising : (xs : List Item) → InOrder spec xs → Rising id_of (in_minishard spec m xs)
  unfolding InOrder Rising
  in_rising [] o = rw in_nil tt
  in_rising (x ∷ xs) o =
      ⊎_elim
      (λ e. rw (in_same x xs e) (λ y h. let r = in_member xs h in (o.0 y r.1).ids (e ∙ sym r.0), in_rising xs o.1))
      (λ e. rw (in_other x xs e) (in_rising xs o.1)) (by_minishard x)

-- ---- a run

-- an id that may come after the state s
record After (spec : Sharding) (s : Intake) (id : ℕ) : Type 0 where
  minishards : s.minishard ≤ minishard_of spec id
  ids : 0 < s.count → s.minishard ≡ minishard_of spec id → s.last < id

in_order : (s : Intake) (id : ℕ) → out_of_order s id ≡ false → After s.spec s id
unfolding out_of_order
in_order s id e = record {
  minishards = not-below s id e;
  ids = λ n q.
      let f : ltb 0 s.count && leb id s.last ≡ false =
      rw (eq-eqb (minishard_of s.spec id) s.minishard (sym q)) at (neither (ltb (minishard_of s.spec id) s.minishard) _ e).1 in
      leb-false id s.last (rw (lt-ltb 0 s.count n) at f);
}

-- the items that come after the state s
pub record Risen (spec : Sharding) (shard : ℕ) (s : Intake) (xs : List Item) : Type 0 where
  after : (y : Item) → Member y xs → After spec s y.id
  pub ordered : InOrder spec xs
  pub ours : (y : Item) → Member y xs → shard_of spec y.id ≡ shard
  pub bounded : (y : Item) → Member y xs → y.id < 2 ^ 64

none_risen : (spec : Sharding) (shard : ℕ) (s : Intake) → Risen spec shard s []
unfolding InOrder
none_risen spec shard s = record {
  after = λ y h. absurd (Memᴰ.not-nil h);
  ordered = tt;
  ours = λ y h. absurd (Memᴰ.not-nil h);
  bounded = λ y h. absurd (Memᴰ.not-nil h);
}

-- one more before them: e is the state after it
module _ (spec : Sharding) (shard : ℕ) (s e : Intake) (x : Item) (xs : List Item) (t : Risen spec shard e xs) (a : After spec s x.id) (f : x.id < 2 ^ 64)
    (o : shard_of spec x.id ≡ shard) (em : e.minishard ≡ minishard_of spec x.id) (ec : 0 < e.count) (el : e.last ≡ x.id) where
  before : (y : Item) → Member y xs → Precedes spec x.id y.id
  before y h =
      let b = t.after y h in
      record { minishards = omega (arith, b.minishards); ids = λ q. omega (arith, b.ids ec (em ∙ q)) }

  later : (y : Item) → Member y xs → After spec s y.id
  later y h =
      let b = before y h in
      record {
        minishards = omega (arith, b.minishards, a.minishards);
        ids = λ n q.
            let k : s.minishard ≡ minishard_of spec x.id = omega (arith, b.minishards, a.minishards) in
            omega (arith, a.ids n k, b.ids (sym k ∙ q));
      }

  one_risen : Risen spec shard s (x ∷ xs)
  unfolding InOrder
  one_risen = record {
    after = λ y h. ⊎_elim (λ p. rw p a) (λ m. later y m) (Memᴰ.cases_cons h);
    ordered = (before, t.ordered);
    ours = λ y h. ⊎_elim (λ p. rw p o) (λ m. t.ours y m) (Memᴰ.cases_cons h);
    bounded = λ y h. ⊎_elim (λ p. rw p f) (λ m. t.bounded y m) (Memᴰ.cases_cons h);
  }

delivers_risen : {spec : Sharding} {shard output waiting : ℕ} {d f : Desk} {xs : List Delivery} → Delivers d xs f → Fit spec shard output waiting d
    → Risen spec shard d.state (as_items xs)
unfolding as_items
delivers_risen {spec} {shard} {d = d} no_chunk h = none_risen spec shard d.state
delivers_risen {spec} {shard} {d = d} (chunk {e = e} {x = x} {xs = xs} {s = s} l q r rest) h =
    let t = d.state in
    let m = minishard_of t.spec x.id in
    let u = announce_told t x.id x.size d.output d.waiting q in
    let p = announces t x.id x.size (length d.output) d.waiting u.0 in
    let es : e.state ≡ taken (announced t x.id x.size) (length (concat_parts x.parts)) = rw (← u.1) at (handed r).state in
    let so : shard_of spec x.id ≡ shard =
    ap (λ (y : Sharding). shard_of y x.id) (sym h.of_spec) ∙ foreign-ours t x.id p.usual.permitted p.ours ∙ h.of_shard in
    let a : After spec t x.id = rw (← h.of_spec) (in_order t x.id p.order) in
    let ec : e.state.count ≡ (turned t m).count + 1 = ap (λ (y : Intake). y.count) es in
    let em : e.state.minishard ≡ minishard_of spec x.id =
    ap (λ (y : Intake). y.minishard) es ∙ turned-there t m ∙ ap (λ (y : Sharding). minishard_of y x.id) h.of_spec in
    one_risen spec shard t e.state (as_item x) (as_items xs) (delivers_risen rest (chunk-fit x l q r h)) a l so em (omega arith) (ap (λ (y : Intake). y.last) es)

-- of all that a shard took
pub takes_risen : {spec : Sharding} {shard : ℕ} {out waiting : List ℕ} {xs : List Delivery} {d : Desk} → (t : Takes spec shard out waiting xs d)
    → Risen spec shard t.first.state (as_items xs)
takes_risen t = delivers_risen t.delivers (first-fit t)
