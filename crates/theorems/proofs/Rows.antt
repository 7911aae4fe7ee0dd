-- Order 11 across the C border: a run of calls on a row of numbers is the run of calls on the states that the rows stand for.
use Prim.Native.Nat.{ℕ, zero, suc}
use mathlib.Core.Path.{◌≡◌, refl, sym, ap, ◌∙◌}
use mathlib.Core.Logic.{⊎_elim}
use mathlib.Core.List.{List, []}
use native.Mathlib.Omega.{arith}
use lib.ListN.{length}
use Rattle.refusal.specs.Buffer.{over}
use Rattle.refusal.specs.Checks.{first_number, unless}
use Rattle.sharding.specs.declared.Sharding.{Sharding}
use Rattle.sharding.proofs.Allowed.{allowed-within}
use Rattle.intake.specs.declared.state.Intake.{Intake}
use Rattle.std.specs.Prelude.{Ok}
use Rattle.refusal.specs.Table.{refusal_of}
use Rattle.refusal.specs.Answers.{Answer, refuse}
use Rattle.refusal.proofs.Table.{number-in}
use Rattle.intake.specs.declared.Closed.{Closed}
use Rattle.intake.specs.numbers.Numbers.{numbers_of, state_of}
use Rattle.intake.specs.state.State.{announced_length}
use Rattle.intake.specs.steps.Steps.{opened, announced, taken, closed}
use Rattle.intake.specs.admission.Refusals.{open_checks, announce_checks, part_checks, close_checks}
use Rattle.intake.specs.Calls.{open_answer, announce_answer, announce_left, announce_waiting, part_answer, part_left, close_answer, close_left, closes_with, intake_result, close_result}
use Rattle.intake.proofs.state.Passing.{volume-allowed, sane-parts}
use Rattle.intake.proofs.Refused.{announce_told}
use Rattle.intake.proofs.numbers.Numbered.{state_back, part-numbers}
use Rattle.coronagamba.specs.word.Word.{word_of}
use Rattle.coronagamba.specs.Intakes.{state_after_of, part_after, shard_length_after}
use Rattle.delivered.specs.Delivered.{Delivery, delivered_form}
use Rattle.delivered.specs.Runs.{Desk, after_open, after_announce, after_part, HandsOver, no_part, part, Delivers, no_chunk, chunk, Takes}
use Rattle.delivered.proofs.Fitting.{Fit, hands_fit, announce_fit, takes_fit}
use Rattle.delivered.proofs.Laws.{closes-settled}
use Rattle.theorems.specs.Intake.{Row, announce_on, part_on, close_on, RowHands, row-no-part, row-part, RowDelivers, row-no-chunk, row-chunk, RowTakes}

-- ---- the word 0 is no refusal

word_next : (n : ℕ) (s : Intake) → word_of (intake_result (unless refuse n (Ok s))) ≡ 0 → unless refuse n (Ok s) ≡ Ok s
unfolding unless word_of
word_next zero s e = refl
word_next (suc n) s e = let i = number-in (refusal_of (suc n)) in absurd (omega (arith, i.0, e))

word-closed : (n : ℕ) (s : Intake) (l : ℕ) → word_of (close_result (unless refuse n (closes_with s l))) ≡ 0 → unless refuse n (closes_with s l) ≡ closes_with s l
unfolding unless word_of
word-closed zero s l e = refl
word-closed (suc n) s l e = let i = number-in (refusal_of (suc n)) in absurd (omega (arith, i.0, e))

open_next : (spec : Sharding) (shard : ℕ) (o w : List ℕ) → word_of (intake_result (open_answer spec shard o w)) ≡ 0 → open_answer spec shard o w ≡ Ok (opened spec shard (length o) (length w))
unfolding open_answer
open_next spec shard o w e = word_next (first_number (open_checks spec shard (length o))) (opened spec shard (length o) (length w)) e

announce_next : (s : Intake) (id size : ℕ) (o w : List ℕ) → word_of (intake_result (announce_answer s id size o w)) ≡ 0 → announce_answer s id size o w ≡ Ok (announced s id size)
unfolding announce_answer
announce_next s id size o w e = word_next (first_number (announce_checks s id size (length o) w)) (announced s id size) e

part-next : (s : Intake) (b o w : List ℕ) → word_of (intake_result (part_answer s b o w)) ≡ 0 → part_answer s b o w ≡ Ok (taken s (length b))
unfolding part_answer
part-next s b o w e = word_next (first_number (part_checks s (length b) (length o) w)) (taken s (length b)) e

close-closed : (s : Intake) (o w : List ℕ) → word_of (close_result (close_answer s o w)) ≡ 0 → close_answer s o w ≡ closes_with (closed s) (announced_length s)
unfolding close_answer
close-closed s o w e = word-closed (first_number (close_checks s (length o) w)) (closed s) (announced_length s) e

-- ---- a row and the state that it stands for

record Mirrors (r : Row) (d : Desk) : Type 0 where
  numbers : r.numbers ≡ numbers_of d.state
  back : state_of r.numbers ≡ d.state
  output : r.output ≡ d.output
  waiting : r.waiting ≡ d.waiting

fifteen : (s : Intake) → length (numbers_of s) ≡ 15
unfolding numbers_of
fifteen s = refl

-- where a run of calls on rows leads
record Hands (spec : Sharding) (shard output waiting : ℕ) (d : Desk) (parts : List (List ℕ)) (r : Row) : Type 0 where
  desk : Desk
  hands : HandsOver d parts desk
  fit : Fit spec shard output waiting desk
  mirrors : Mirrors r desk

record Ends (d : Desk) (xs : List Delivery) (r : Row) : Type 0 where
  desk : Desk
  delivers : Delivers d xs desk
  mirrors : Mirrors r desk

module _ {spec : Sharding} {shard output waiting : ℕ} where
  -- the row of a state that calls left
  mirrored : {d : Desk} {r : Row} → Fit spec shard output waiting d → r.numbers ≡ numbers_of d.state → r.output ≡ d.output → r.waiting ≡ d.waiting → Mirrors r d
  mirrored {d} f n o w =
      let g = allowed-within (volume-allowed d.state.spec (sane-parts d.state d.waiting f.sound).volume) in
      record {
        numbers = n;
        back =
            ap state_of n
            ∙ state_back d.state (omega (arith, g.preshift)) (⊎_elim (λ z. omega (arith, z)) (λ z. omega (arith, z)) g.hash) (omega (arith, g.minishard)) (omega (arith, g.shard))
            (⊎_elim (λ z. omega (arith, z)) (λ z. omega (arith, z)) g.kind) (omega (arith, f.unclosed));
        output = o;
        waiting = w;
      }

  row_hands : {d : Desk} {r e : Row} {parts : List (List ℕ)} → RowHands r parts e → Fit spec shard output waiting d → Mirrors r d → Hands spec shard output waiting d parts e
  unfolding part_after
  row_hands {d} row-no-part f m = record { desk = d; hands = no_part; fit = f; mirrors = m }
  row_hands {d} {r} (row-part {bytes = bytes} q rest) f m =
      let s = taken d.state (length bytes) in
      let a : part_on r bytes ≡ part_answer d.state bytes d.output d.waiting = rw (m.back, m.output, m.waiting) in
      let n : part_answer d.state bytes d.output d.waiting ≡ Ok s = part-next d.state bytes d.output d.waiting (rw a at q) in
      let l : length r.numbers ≡ 15 = ap length m.numbers ∙ fifteen d.state in
      let x : part_after (part_on r bytes) r.numbers ≡ numbers_of s =
      rw (a, n) (part-numbers r.numbers l bytes r.output r.waiting (a ∙ n)) in
      let f₁ : Fit spec shard output waiting (after_part d bytes s) = hands_fit (part n no_part) f in
      let o : part_left (state_of r.numbers) bytes r.output r.waiting ≡ part_left d.state bytes d.output d.waiting = rw (m.back, m.output, m.waiting) in
      let k = row_hands {d = after_part d bytes s} rest f₁ (mirrored f₁ x o m.waiting) in
      record { desk = k.desk; hands = part n k.hands; fit = k.fit; mirrors = k.mirrors }

  row-delivers : {d : Desk} {r e : Row} {xs : List Delivery} → RowDelivers r xs e → Fit spec shard output waiting d → Mirrors r d → Ends d xs e
  unfolding state_after_of
  row-delivers {d} row-no-chunk f m = record { desk = d; delivers = no_chunk; mirrors = m }
  row-delivers {d} {r} (row-chunk {x = x} l q hands rest) f m =
      let t = d.state in
      let s = announced t x.id x.size in
      let a : announce_on r x.id x.size ≡ announce_answer t x.id x.size d.output d.waiting = rw (m.back, m.output, m.waiting) in
      let n : announce_answer t x.id x.size d.output d.waiting ≡ Ok s = announce_next t x.id x.size d.output d.waiting (rw a at q) in
      let y : state_after_of (announce_on r x.id x.size) r.numbers ≡ numbers_of s = rw (a, n) in
      let f₁ : Fit spec shard output waiting (after_announce d x.id x.size s) = announce_fit x l (announce_told t x.id x.size d.output d.waiting n).0 f in
      let o : announce_left (state_of r.numbers) x.id x.size r.output r.waiting ≡ announce_left t x.id x.size d.output d.waiting = rw (m.back, m.output, m.waiting) in
      let w : announce_waiting (state_of r.numbers) x.id x.size r.output r.waiting ≡ announce_waiting t x.id x.size d.output d.waiting = rw (m.back, m.output, m.waiting) in
      let h = row_hands hands f₁ (mirrored f₁ y o w) in
      let k = row-delivers {d = h.desk} rest h.fit h.mirrors in
      record { desk = k.desk; delivers = chunk l n h.hands k.delivers; mirrors = k.mirrors }

-- ---- the run and its close

record Stood (spec : Sharding) (shard : ℕ) (out waiting : List ℕ) (xs : List Delivery) (r : Row) : Type 0 where
  desk : Desk
  takes : Takes spec shard out waiting xs desk
  mirrors : Mirrors r desk

row_takes : {spec : Sharding} {shard : ℕ} {out waiting : List ℕ} {xs : List Delivery} {r : Row} → RowTakes spec shard out waiting xs r → Stood spec shard out waiting xs r
unfolding state_after_of
row_takes {spec} {shard} {out} {waiting} t =
    let s = opened spec shard (length out) (length waiting) in
    let n : open_answer spec shard out waiting ≡ Ok s = open_next spec shard out waiting t.opens in
    let d : Desk = after_open spec shard out waiting s in
    let z : Takes spec shard out waiting [] d = record { state = s; opens = n; idle = []; first = d; idles = no_part; delivers = no_chunk } in
    let f = takes_fit z in
    let x : state_after_of (open_answer spec shard out waiting) t.before ≡ numbers_of s = rw n in
    let h = row_hands t.idles f (mirrored f x refl refl) in
    let k = row-delivers t.delivers h.fit h.mirrors in
    record {
      desk = k.desk;
      takes = record { state = s; opens = n; idle = t.idle; first = h.desk; idles = h.hands; delivers = k.delivers };
      mirrors = k.mirrors;
    }

same-close : {r : Row} {d : Desk} → Mirrors r d
    → (close_on r ≡ close_answer d.state d.output d.waiting)
    × (close_left (state_of r.numbers) r.output r.waiting ≡ close_left d.state d.output d.waiting)
same-close m = (rw (m.back, m.output, m.waiting), rw (m.back, m.output, m.waiting))

pub row_settled : {spec : Sharding} {shard : ℕ} {out waiting : List ℕ} {xs : List Delivery} {r : Row} (before : ℕ) → RowTakes spec shard out waiting xs r → word_of (close_result (close_on r)) ≡ 0
    → (shard_length_after (close_on r) before ≡ length (delivered_form spec xs)) × (close_left (state_of r.numbers) r.output r.waiting ≡ over (delivered_form spec xs) out)
unfolding shard_length_after
row_settled before t q =
    let k = row_takes t in
    let d = k.desk in
    let a = same-close k.mirrors in
    let n = close-closed d.state d.output d.waiting (sym (ap (λ (y : Answer Closed). word_of (close_result y)) a.0) ∙ q) in
    let c = closes-settled k.takes n in
    (ap (λ (y : Answer Closed). shard_length_after y before) (a.0 ∙ n) ∙ c.0, a.1 ∙ c.1)
