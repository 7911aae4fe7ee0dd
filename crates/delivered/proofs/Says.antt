-- The refusal of each call, said of what was delivered alone.
use Prim.Native.Nat.{ℕ, zero, suc, ◌+◌, ◌-◌, ◌<◌}
use mathlib.Core.Path.{◌≡◌, refl, sym, ap, ◌∙◌}
use mathlib.Core.Bool.{Bool, true, false, not, ◌&&◌, or-true, or-false}
use mathlib.Core.List.{List, [], ◌∷◌}
use native.Mathlib.Omega.{arith}
use lib.Dec.{ltb, eqb}
use lib.ListN.{length}
use borrow.Author.Tests.{ltb-false, lt-ltb, le-ltb, eq-eqb}
use Rattle.refusal.specs.Choice.{pick}
use Rattle.refusal.specs.Checks.{first_number, unless}
use Rattle.sharding.specs.declared.Sharding.{Sharding}
use Rattle.sharding.specs.placement.Place.{shard_of, minishard_of}
use Rattle.shard.specs.Items.{Item}
use Rattle.intake.specs.declared.state.Intake.{Intake}
use Rattle.intake.specs.state.State.{sane}
use Rattle.intake.specs.call_tests.Tests.{other_lengths, foreign, unusable, out_of_order}
use Rattle.intake.specs.admission.Refusals.{announce_checks, part_checks, close_checks}
use Rattle.intake.proofs.state.Passing.{volume-allowed, sane-parts}
use Rattle.intake.proofs.admission.Passing.{Closes, closes}
use Rattle.std.specs.Prelude.{Ok}
use Rattle.refusal.specs.Answers.{refuse}
use Rattle.intake.specs.steps.Steps.{turned, announced, taken, closed}
use Rattle.intake.specs.Calls.{announce_answer, part_answer, close_answer, close_left, closes_with}
use Rattle.intake.proofs.Answered.{close-left}
use Rattle.intake.proofs.Refused.{announce_told, close-told}
use Rattle.delivered.specs.Delivered.{Delivery, concat_parts}
use Rattle.delivered.specs.Runs.{Desk, after_announce, after_close, HandsOver, Delivers, no_chunk, chunk, Takes, Over}
use Rattle.delivered.specs.Says.{not_after, owing, announce_says, part_says, close_says}
use Rattle.delivered.proofs.Handing.{handed}
use Rattle.delivered.proofs.Keeping.{turned-there, takes_idle}
use Rattle.delivered.proofs.Fitting.{length-ended, Fit, fit_lengths, fit_usable, fit-forged, fit-turn, chunk-fit, first-fit, takes_fit}
use Rattle.delivered.proofs.Room.{room-is}

and_none : (b : Bool) → b && false ≡ false
and_none true = refl
and_none false = refl

-- what stands behind two checks counts where neither holds
under-both : (a b : Bool) {u v : ℕ} → (a ≡ false → b ≡ false → u ≡ v) → pick a 25 (pick b 26 u) ≡ pick a 25 (pick b 26 v)
under-both true b h = refl
under-both false true h = refl
under-both false false h = h refl refl

-- ---- the state after a chunk

record After (spec : Sharding) (x : Delivery) (s : Intake) : Type 0 where
  here : s.minishard ≡ minishard_of spec x.id
  some : 0 < s.count
  last : s.last ≡ x.id
  left : s.owed ≡ x.size - length (concat_parts x.parts)

module _ {spec : Sharding} {shard output waiting : ℕ} where
  after-chunk : {d e : Desk} (x : Delivery) {s : Intake} → announce_answer d.state x.id x.size d.output d.waiting ≡ Ok s
      → HandsOver (after_announce d x.id x.size s) x.parts e → Fit spec shard output waiting d → After spec x e.state
  after-chunk {d} {e} x {s} q r h =
      let t = d.state in
      let m = minishard_of t.spec x.id in
      let u = announce_told t x.id x.size d.output d.waiting q in
      let es : e.state ≡ taken (announced t x.id x.size) (length (concat_parts x.parts)) = rw (← u.1) at (handed r).state in
      let c : e.state.count ≡ (turned t m).count + 1 = ap (λ (y : Intake). y.count) es in
      record {
        here = ap (λ (y : Intake). y.minishard) es ∙ turned-there t m ∙ ap (λ (y : Sharding). minishard_of y x.id) h.of_spec;
        some = omega arith;
        last = ap (λ (y : Intake). y.last) es;
        left = ap (λ (y : Intake). y.owed) es;
      }

  -- ---- of what was delivered

  order-after : {d f : Desk} {x : Delivery} {xs : List Delivery} → Delivers d (x ∷ xs) f → Fit spec shard output waiting d → (id : ℕ)
      → out_of_order f.state id ≡ not_after spec (x ∷ xs) id
  unfolding out_of_order not_after
  order-after {d} {f} (chunk {x = x} l q r no_chunk) h id =
      let a = after-chunk x q r h in
      rw (a.here, a.last, lt-ltb 0 f.state.count a.some, (chunk-fit x l q r h).of_spec)
  order-after (chunk {x = x} l q r (chunk l₂ q₂ r₂ rest)) h id = order-after (chunk l₂ q₂ r₂ rest) (chunk-fit x l q r h) id

  owed_after : {d f : Desk} {x : Delivery} {xs : List Delivery} → Delivers d (x ∷ xs) f → Fit spec shard output waiting d → f.state.owed ≡ owing (x ∷ xs)
  unfolding owing
  owed_after (chunk {x = x} l q r no_chunk) h = (after-chunk x q r h).left
  owed_after (chunk {x = x} l q r (chunk l₂ q₂ r₂ rest)) h = owed_after (chunk l₂ q₂ r₂ rest) (chunk-fit x l q r h)

  -- the same from an opened shard on
  order-all : {d f : Desk} {xs : List Delivery} → Delivers d xs f → Fit spec shard output waiting d → d.state.minishard ≡ 0 → d.state.count ≡ 0 → (id : ℕ)
      → out_of_order f.state id ≡ not_after spec xs id
  unfolding out_of_order not_after
  order-all {d} no_chunk h a b id = rw (a, b, le-ltb (minishard_of d.state.spec id) 0 (omega arith)) (and_none (eqb (minishard_of d.state.spec id) 0))
  order-all (chunk l q r rest) h a b id = order-after (chunk l q r rest) h id

  owed_all : {d f : Desk} {xs : List Delivery} → Delivers d xs f → Fit spec shard output waiting d → d.state.owed ≡ 0 → f.state.owed ≡ owing xs
  unfolding owing
  owed_all no_chunk h a = a
  owed_all (chunk l q r rest) h a = owed_after (chunk l q r rest) h

module _ {spec : Sharding} {shard : ℕ} {out waiting : List ℕ} {xs : List Delivery} {d : Desk} (t : Takes spec shard out waiting xs d) where
  takes_order : (id : ℕ) → out_of_order d.state id ≡ not_after spec xs id
  takes_order id =
      let i = (takes_idle t).state in
      order-all t.delivers (first-fit t) (ap (λ (s : Intake). s.minishard) i) (ap (λ (s : Intake). s.count) i) id

  pub takes_owed : d.state.owed ≡ owing xs
  takes_owed = owed_all t.delivers (first-fit t) (ap (λ (s : Intake). s.owed) (takes_idle t).state)

  takes_foreign : (id : ℕ) → foreign d.state id ≡ not (eqb (shard_of spec id) shard)
  unfolding foreign
  takes_foreign id = let f = takes_fit t in rw (volume-allowed d.state.spec (sane-parts d.state d.waiting f.sound).volume, f.of_spec, f.of_shard)

  -- ---- the calls

  -- an announcement of a chunk x: of its bytes only the length is known
  pub announce-says : (x : Item) → x.lead ≡ []
      → first_number (announce_checks d.state x.id (length x.body) (length d.output) d.waiting)
      ≡ first_number (announce_says spec shard (length out) (length waiting) xs x)
  unfolding first_number announce_checks announce_says
  announce-says x e =
      let f = takes_fit t in
      let w : ltb 0 d.state.owed ≡ ltb 0 (owing xs) = ap (ltb 0) takes_owed in
      rw (fit_lengths f, takes_foreign x.id, fit_usable f, takes_order x.id, fit-turn f x.id, or-false (not_after spec xs x.id), w)
      (ap (pick (not (eqb (shard_of spec x.id) shard)) 10)
      (under-both (not_after spec xs x.id) (ltb 0 (owing xs))
      (λ o q.
      let z : d.state.owed ≡ 0 = takes_owed ∙ omega (arith, ltb-false 0 (owing xs) q) in
      ap (λ (b : Bool). pick {A = ℕ} b 13 0) (room-is t z x e (takes_order x.id ∙ o)))))

  -- a part of n bytes
  pub part_says_lem : (n : ℕ) → first_number (part_checks d.state n (length d.output) d.waiting) ≡ first_number (part_says xs n)
  unfolding first_number part_checks part_says
  part_says_lem n = let f = takes_fit t in rw (fit_lengths f, fit_usable f, takes_owed)

  pub close-says : first_number (close_checks d.state (length d.output) d.waiting) ≡ first_number (close_says xs)
  unfolding first_number close_checks close_says
  close-says = let f = takes_fit t in rw (fit_lengths f, fit_usable f, fit-forged f, takes_owed)

-- ---- after the close

closed-unusable : (s : Intake) (w : List ℕ) → unusable (closed s) w ≡ true
unfolding unusable
closed-unusable s w = or-true (not (sane (closed s) w))

refused_with : {A : Type 0} (r : ℕ → A) (k : ℕ) (a : A) → 0 < k → unless r k a ≡ r k
unfolding unless
refused_with r zero a l = absurd (omega arith)
refused_with r (suc k) a l = refl

refused_by : {A : Type 0} (r : ℕ → A) (b : Bool) (a : A) → unless r (pick (not b) 10 25) a ≡ r (pick b 25 10)
refused_by r true a = refused_with r 25 a (omega arith)
refused_by r false a = refused_with r 10 a (omega arith)

module _ (d : Desk) {s : Intake} {n : ℕ} (q : close_answer d.state d.output d.waiting ≡ closes_with s n) where
  not-refused : Closes d.state (length d.output) d.waiting
  not-refused = closes d.state (length d.output) d.waiting (close-told d.state d.output d.waiting q).0

  closed_lengths : other_lengths (closed d.state) (length (close_left d.state d.output d.waiting)) (length d.waiting) ≡ false
  unfolding other_lengths
  closed_lengths =
      let t = d.state in
      let p = not-refused.usual in
      let l : length (close_left t d.output d.waiting) ≡ length d.output =
      ap length (sym (close-left t d.output d.waiting (close-told t d.output d.waiting q).0 refl)) ∙ length-ended t d.output d.waiting p in
      rw (eq-eqb t.output (length (close_left t d.output d.waiting)) (p.outputs ∙ sym l), eq-eqb t.waiting (length d.waiting) p.waits)

  closed-ours : (id : ℕ) → foreign (closed d.state) id ≡ not (eqb (shard_of d.state.spec id) d.state.shard)
  unfolding foreign
  closed-ours id = rw not-refused.usual.permitted

  -- every call is refused with 25, but for an announcement that 10 refuses before
  pub over_closed : Over (after_close d)
  unfolding announce_answer announce_checks part_answer part_checks close_answer close_checks first_number
  over_closed =
      let u = closed-unusable d.state d.waiting in
      record {
        announces = λ id size. rw (closed_lengths, closed-ours id, u) (refused_by refuse (eqb (shard_of d.state.spec id) d.state.shard) _);
        parts = λ bytes. rw (closed_lengths, u) (refused_with refuse 25 _ (omega arith));
        closes = rw (closed_lengths, u) (refused_with refuse 25 _ (omega arith));
      }
