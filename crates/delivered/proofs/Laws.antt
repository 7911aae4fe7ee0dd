-- What order 11 promises of a run of calls: the close reports the length of the settled form of what was delivered, and the output is that and behind
-- it what was lent to the opening.
use Prim.Native.Nat.{ℕ, ◌<◌}
use mathlib.Core.Path.{◌≡◌, refl, sym, ap, ◌∙◌}
use mathlib.Core.Bool.{Bool, true, false}
use mathlib.Core.Logic.{⊎_elim}
use mathlib.Core.List.Memᴰ
use mathlib.Core.List.{List, [], ◌∷◌}
use native.Mathlib.Omega.{arith}
use lib.ListN.{length, get_or, take, drop}
use lib.Seq.{take_at}
use borrow.Author.Tests.{leb-false, le-ltb}
use Rattle.refusal.specs.Buffer.{over}
use Rattle.refusal.specs.Checks.{first_number}
use Rattle.sharding.specs.declared.Sharding.{Sharding}
use Rattle.sharding.specs.Specification.{minishard_count_of, shard_count_of}
use Rattle.shard.specs.Items.{Item, lead_length_of}
use Rattle.shard.proofs.Leads.{volume-leads}
use Rattle.settled_form.specs.Sorted.{Member}
use Rattle.settled_form.specs.Form.{settled}
use Rattle.settled_form.specs.Content.{id_of, form_of}
use Rattle.settled_form.proofs.Sorting.{rising-distinct}
use Rattle.settled_form.proofs.Measures.{length-settled}
use Rattle.settled_form.proofs.Rows.{InForm}
use Rattle.settled_form.proofs.ReadBack.{Readable, content_back}
use Rattle.settled_form.proofs.SoundContent.{Listed}
use Rattle.settled_form.proofs.FormSound.{settled-sound}
use Rattle.intake.specs.state.State.{announced_length}
use Rattle.intake.proofs.state.Passing.{volume-allowed, volume-kind}
use Rattle.intake.proofs.admission.Passing.{Opens, opens, closes}
use Rattle.intake.specs.declared.state.Intake.{Intake}
use Rattle.intake.specs.steps.Steps.{closed}
use Rattle.intake.specs.Calls.{close_answer, close_left, closes_with}
use Rattle.intake.proofs.Answered.{close-closed}
use Rattle.intake.proofs.Refused.{open_told, close-told}
use Rattle.delivered.specs.Delivered.{Delivery, as_items, in_minishard, gathered, delivered_form, InOrder}
use Rattle.delivered.specs.Runs.{Desk, Takes, ClosedShard}
use Rattle.delivered.specs.Says.{owing, close_says}
use Rattle.delivered.proofs.Contents.{arrived, arrived_length, gathered_arrived}
use Rattle.delivered.proofs.Keeping.{closes_arrived}
use Rattle.delivered.proofs.Risen.{takes_risen, in_member, in_rising}
use Rattle.delivered.proofs.Room.{arrived_at}
use Rattle.delivered.proofs.Says.{close-says}

-- ---- what was delivered

-- the chunks are in order
pub takes_in_order : {spec : Sharding} {shard : ℕ} {out waiting : List ℕ} {xs : List Delivery} {d : Desk} → Takes spec shard out waiting xs d → InOrder spec (as_items xs)
takes_in_order t = (takes_risen t).ordered

-- so they are gathered as they come
takes_gathered : {spec : Sharding} {shard : ℕ} {out waiting : List ℕ} {xs : List Delivery} {d : Desk} → Takes spec shard out waiting xs d
    → gathered spec (as_items xs) ≡ arrived spec (as_items xs)
takes_gathered {spec} {xs = xs} t = gathered_arrived spec (as_items xs) (λ m. in_rising spec m (as_items xs) (takes_in_order t))

-- ---- the close

-- "the close reports the length of the settled form of what was delivered, and the output begins with it, however the parts were cut"; past it nothing
-- was touched since the opening
pub closes-settled : {spec : Sharding} {shard : ℕ} {out waiting : List ℕ} {xs : List Delivery} {d : Desk} {s : Intake} {n : ℕ}
    → Takes spec shard out waiting xs d → close_answer d.state d.output d.waiting ≡ closes_with s n
    → (n ≡ length (delivered_form spec xs)) × (close_left d.state d.output d.waiting ≡ over (delivered_form spec xs) out)
closes-settled t q = let c = closes_arrived t q in rw (takes_gathered t) (c.0, c.1.is)

closes-front : {spec : Sharding} {shard : ℕ} {out waiting : List ℕ} {xs : List Delivery} {d : Desk} {s : Intake} {n : ℕ}
    → Takes spec shard out waiting xs d → close_answer d.state d.output d.waiting ≡ closes_with s n
    → take n (close_left d.state d.output d.waiting) ≡ delivered_form spec xs
closes-front {spec} {out = out} {xs = xs} {n = n} t q =
    let c = closes-settled t q in
    let f = delivered_form spec xs in
    ap (take n) c.1 ∙ take_at f (drop (length f) out) n (sym c.0)

nothing_owed : (xs : List Delivery) → owing xs ≡ 0 → first_number (close_says xs) ≡ 0
unfolding first_number close_says
nothing_owed xs z = rw (le-ltb 0 (owing xs) (omega arith))

-- and it is not refused where nothing is owed
pub closes-paid : {spec : Sharding} {shard : ℕ} {out waiting : List ℕ} {xs : List Delivery} {d : Desk}
    → Takes spec shard out waiting xs d → owing xs ≡ 0 → close_answer d.state d.output d.waiting ≡ closes_with (closed d.state) (length (delivered_form spec xs))
closes-paid {spec} {xs = xs} {d = d} t z =
    let a : closes_with (closed d.state) (announced_length d.state) ≡ close_answer d.state d.output d.waiting =
    close-closed d.state d.output d.waiting (close-says t ∙ nothing_owed xs z) refl refl in
    sym a ∙ ap (λ (k : ℕ). closes_with (closed d.state) k) (closes-settled t (sym a)).0

-- so the cut into parts, the buffers' lengths and what they held make no difference
pub cut_differently : {spec : Sharding} {shard shard' : ℕ} {out waiting out' waiting' : List ℕ} {xs ys : List Delivery} {d e : Desk} {s t : Intake} {m n : ℕ}
    → Takes spec shard out waiting xs d → close_answer d.state d.output d.waiting ≡ closes_with s m
    → Takes spec shard' out' waiting' ys e → close_answer e.state e.output e.waiting ≡ closes_with t n
    → as_items xs ≡ as_items ys
    → (m ≡ n) × (take m (close_left d.state d.output d.waiting) ≡ take n (close_left e.state e.output e.waiting))
cut_differently {spec} a p b q r =
    let u = closes-settled a p in
    let v = closes-settled b q in
    let f = ap (λ (l : List Item). settled (gathered spec l)) r in
    (u.0 ∙ ap length f ∙ sym v.0, closes-front a p ∙ f ∙ sym (closes-front b q))

-- ---- what is closed is a sound shard that lists what was delivered, and its own settled form

no_lead : (xs : List Delivery) {y : Item} → Member y (as_items xs) → y.lead ≡ []
unfolding as_items
no_lead [] h = absurd (Memᴰ.not-nil h)
no_lead (x ∷ xs) h = ⊎_elim (λ p. ap (λ (z : Item). z.lead) p) (λ m. no_lead xs m) (Memᴰ.cases_cons h)

module _ {spec : Sharding} {shard : ℕ} {out waiting : List ℕ} {xs : List Delivery} {d : Desk} (t : Takes spec shard out waiting xs d) where
  opened-volume : Opens spec shard (length out)
  opened-volume = opens spec shard (length out) (open_told spec shard out waiting t.opens).0

  led : (x : Item) → Member x (as_items xs) → length x.lead ≡ lead_length_of spec x.body
  led x h = ap length (no_lead xs h) ∙ sym (volume-leads spec (volume-kind spec opened-volume.volume) x.body)

  minishard-is : (m : ℕ) → m < minishard_count_of spec → get_or (gathered spec (as_items xs)) m [] ≡ in_minishard spec m (as_items xs)
  minishard-is m l = rw (takes_gathered t) (arrived_at spec (as_items xs) m l)

  in_form : (m : ℕ) → InForm spec (in_minishard spec m (as_items xs))
  in_form m =
      let r = takes_risen t in
      record {
        rising = in_rising spec m (as_items xs) r.ordered;
        bounded = λ x h. r.bounded x (in_member spec m (as_items xs) h).1;
        led = λ x h. led x (in_member spec m (as_items xs) h).1;
      }

  listed : (m : ℕ) → Listed spec shard m (in_minishard spec m (as_items xs))
  listed m =
      let r = takes_risen t in
      let f = in_form m in
      record {
        distinct = rising-distinct id_of (in_minishard spec m (as_items xs)) f.rising;
        bounded = f.bounded;
        ours = λ x h. r.ours x (in_member spec m (as_items xs) h).1;
        here = λ x h. (in_member spec m (as_items xs) h).0;
        led = f.led;
        manifests = λ k x h. let z : ◌≡◌ {A = Bool} true false = sym k ∙ volume-kind spec opened-volume.volume in absurd (never z);
      }
    where
      never : ◌≡◌ {A = Bool} true false → ⊥
      never z = let o : ◌≡◌ {A = ℕ} 0 1 = cc in omega arith

  pub closes-sound : {s : Intake} {n : ℕ} → close_answer d.state d.output d.waiting ≡ closes_with s n
      → ClosedShard spec shard xs (take n (close_left d.state d.output d.waiting))
  unfolding form_of
  closes-sound {s} {n} q =
      let c = gathered spec (as_items xs) in
      let z = closes-settled t q in
      let u = close-told d.state d.output d.waiting q in
      let p = closes d.state (length d.output) d.waiting u.0 in
      let ct : length c ≡ minishard_count_of spec = ap length (takes_gathered t) ∙ arrived_length spec (as_items xs) in
      let good : Readable spec c =
      record {
        count = ct;
        each = λ m l. rw (minishard-is m (omega arith)) (in_form m);
        short = omega (arith, z.0, u.1.1, p.usual.room, length-settled c);
      } in
      let back = content_back good in
      rw (closes-front t q)
      (record {
        sound =
            settled-sound (volume-allowed spec opened-volume.volume) (leb-false (shard_count_of spec) shard opened-volume.numbered) good
            (λ m l. rw (minishard-is m l) (listed m));
        content = back;
        form = ap settled back;
      })
