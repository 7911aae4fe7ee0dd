-- No call refuses a state that calls left: 30 and 25 are for other buffers, forged states, wrong order, and after the close.
use Prim.Native.Nat.{ℕ, ◌+◌, ◌*◌, ◌^◌, ◌<◌}
use mathlib.Core.Path.{◌≡◌, refl, sym, ap, ◌∙◌}
use mathlib.Core.Bool.{Bool, true, false, not, and-false}
use mathlib.Core.List.{List}
use native.Mathlib.Omega.{arith}
use lib.Dec.{eqb}
use lib.ListN.{length, replicate, length-replicate}
use borrow.Author.Tests.{eqb-false, eq-eqb}
use Rattle.refusal.specs.Choice.{pick}
use Rattle.refusal.specs.Checks.{first_number}
use Rattle.endian.specs.Place.{paste}
use Rattle.endian.proofs.Paste.{length-paste}
use Rattle.sharding.specs.declared.Sharding.{Sharding}
use Rattle.sharding.specs.placement.Place.{minishard_of}
use Rattle.shard.specs.File.{index_length_of}
use Rattle.intake.specs.waiting.Held.{pair, index_held}
use Rattle.intake.proofs.waiting.Writing.{length-index}
use Rattle.intake.proofs.waiting.Pairs.{pair-kept}
use Rattle.intake.specs.declared.state.Intake.{Intake}
use Rattle.intake.specs.state.State.{sane, announceable, Usable}
use Rattle.intake.specs.call_tests.Tests.{other_lengths, unusable, forged, forged_turn, count_in}
use Rattle.intake.specs.admission.Refusals.{announce_checks}
use Rattle.intake.proofs.admission.Passing.{opens, announces, hands}
use Rattle.std.specs.Prelude.{Ok}
use Rattle.intake.specs.steps.Steps.{ended_left, turned_left, announced}
use Rattle.intake.specs.Calls.{announce_answer, announce_left, announce_waiting, part_left}
use Rattle.intake.proofs.Answered.{announce-left, announce-waiting, part_left_lem}
use Rattle.intake.proofs.Refused.{open_told, announce_told, part-told}
use Rattle.delivered.specs.Delivered.{Delivery}
use Rattle.delivered.specs.Runs.{Desk, after_announce, HandsOver, no_part, part, Delivers, no_chunk, chunk, Takes}
use Rattle.delivered.proofs.Keeping.{takes_idle}
use Rattle.delivered.proofs.Reached.{opened-sane, taken-sane, turns, announced-sane, opened-announceable, taken-announceable, announced-announceable}

-- ---- each step leaves buffers of the same lengths

pub length-ended : (s : Intake) (o w : List ℕ) → Usable s (length o) (length w) → length (ended_left s o w) ≡ length o
unfolding ended_left
length-ended s o w u = go (eqb s.count 0) refl
  where
    go : (b : Bool) → eqb s.count 0 ≡ b
        → length
        (pick b o
        (paste (16 * s.minishard) (pair s.next (s.next + 24 * s.count))
        (paste (index_length_of s.spec + s.next) (index_held s.begin w s.count) o)))
        ≡ length o
    go true e = refl
    go false e =
        let z = eqb-false s.count 0 e in
        let n : 0 < s.count = omega arith in
        let li = length-index s.begin w s.count n in
        let x : length (paste (index_length_of s.spec + s.next) (index_held s.begin w s.count) o) ≡ length o =
        length-paste (index_length_of s.spec + s.next) (index_held s.begin w s.count) o (omega (arith, u.room, u.outputs)) in
        pair-kept (16 * s.minishard) s.next (s.next + 24 * s.count) _ (omega (arith, u.room, u.outputs, u.below)) ∙ x

length-turned : (s : Intake) (m : ℕ) (o w : List ℕ) → Usable s (length o) (length w) → length (turned_left s m o w) ≡ length o
unfolding turned_left
length-turned s m o w u = go (eqb m s.minishard)
  where
    go : (b : Bool) → length (pick b o (ended_left s o w)) ≡ length o
    go true = refl
    go false = length-ended s o w u

-- ---- an intake of this shard, with output and second buffer of these lengths, between opening and close

pub record Fit (spec : Sharding) (shard output waiting : ℕ) (d : Desk) : Type 0 where
  pub of_spec : d.state.spec ≡ spec
  pub of_shard : d.state.shard ≡ shard
  pub outputs : d.state.output ≡ output
  pub waits : d.state.waiting ≡ waiting
  pub output-length : length d.output ≡ output
  pub waiting-length : length d.waiting ≡ waiting
  pub sound : sane d.state d.waiting ≡ true
  pub pairs : announceable d.state d.waiting ≡ true
  pub unclosed : d.state.phase ≡ 0

module _ {spec : Sharding} {shard output waiting : ℕ} where
  -- which no call refuses with 30, nor as forged
  pub fit_lengths : {d : Desk} → Fit spec shard output waiting d → other_lengths d.state (length d.output) (length d.waiting) ≡ false
  unfolding other_lengths
  fit_lengths {d} f =
      rw (eq-eqb d.state.output (length d.output) (f.outputs ∙ sym f.output-length), eq-eqb d.state.waiting (length d.waiting) (f.waits ∙ sym f.waiting-length))

  pub fit_usable : {d : Desk} → Fit spec shard output waiting d → unusable d.state d.waiting ≡ false
  unfolding unusable
  fit_usable f = rw (f.sound, f.unclosed)

  pub fit-forged : {d : Desk} → Fit spec shard output waiting d → forged d.state d.waiting ≡ false
  unfolding forged
  fit-forged f = rw f.pairs

  pub fit-turn : {d : Desk} → Fit spec shard output waiting d → (id : ℕ) → forged_turn d.state id d.waiting ≡ false
  unfolding forged_turn
  fit-turn {d} f id = rw (fit-forged f) (and-false (not (eqb (minishard_of d.state.spec id) d.state.minishard)))

  pub hands_fit : {d e : Desk} {parts : List (List ℕ)} → HandsOver d parts e → Fit spec shard output waiting d → Fit spec shard output waiting e
  hands_fit no_part f = f
  hands_fit {d} (part {bytes = bytes} {parts = parts} {s = s} q r) f =
      let t = d.state in
      let u = part-told t bytes d.output d.waiting q in
      let p = hands t (length bytes) (length d.output) d.waiting u.0 in
      let v : paste (index_length_of t.spec + t.next) bytes d.output ≡ part_left t bytes d.output d.waiting = part_left_lem t bytes d.output d.waiting u.0 refl in
      let l : length (paste (index_length_of t.spec + t.next) bytes d.output) ≡ length d.output =
      length-paste (index_length_of t.spec + t.next) bytes d.output (omega (arith, p.usual.room, p.usual.outputs, p.due)) in
      hands_fit r
      (rw (← u.1)
      (record {
        of_spec = f.of_spec;
        of_shard = f.of_shard;
        outputs = f.outputs;
        waits = f.waits;
        output-length = ap length (sym v) ∙ l ∙ f.output-length;
        waiting-length = f.waiting-length;
        sound = taken-sane t (length bytes) d.waiting f.sound p.due;
        pairs = taken-announceable t (length bytes) d.waiting p.due f.pairs;
        unclosed = f.unclosed;
      }))

  pub announce_fit : {d : Desk} (x : Delivery) → x.id < 2 ^ 64 → first_number (announce_checks d.state x.id x.size (length d.output) d.waiting) ≡ 0
      → Fit spec shard output waiting d → Fit spec shard output waiting (after_announce d x.id x.size (announced d.state x.id x.size))
  announce_fit {d} x b z f =
      let t = d.state in
      let m = minishard_of t.spec x.id in
      let p = announces t x.id x.size (length d.output) d.waiting z in
      let q = turns t d.waiting m in
      let v : turned_left t m d.output d.waiting ≡ announce_left t x.id x.size d.output d.waiting =
      announce-left t x.id x.size d.output d.waiting z refl in
      let w : paste (16 * count_in t m) (pair x.id x.size) d.waiting ≡ announce_waiting t x.id x.size d.output d.waiting =
      announce-waiting t x.id x.size d.output d.waiting z refl in
      record {
        of_spec = q.spec ∙ f.of_spec;
        of_shard = q.shard ∙ f.of_shard;
        outputs = q.output ∙ f.outputs;
        waits = q.waiting ∙ f.waits;
        output-length = ap length (sym v) ∙ length-turned t m d.output d.waiting p.usual ∙ f.output-length;
        waiting-length = ap length (sym w) ∙ pair-kept (16 * count_in t m) x.id x.size d.waiting (omega (arith, p.slot, p.usual.waits)) ∙ f.waiting-length;
        sound = rw (← w) (announced-sane t x.id x.size (length d.output) d.waiting p b);
        pairs = rw (← w) (announced-announceable t x.id x.size (length d.output) d.waiting p b f.pairs);
        unclosed = q.phase ∙ f.unclosed;
      }

  -- a chunk announced and handed over
  pub chunk-fit : {d e : Desk} (x : Delivery) {s : Intake} → x.id < 2 ^ 64 → announce_answer d.state x.id x.size d.output d.waiting ≡ Ok s
      → HandsOver (after_announce d x.id x.size s) x.parts e → Fit spec shard output waiting d → Fit spec shard output waiting e
  chunk-fit {d} x {s} b q r h =
      let u = announce_told d.state x.id x.size d.output d.waiting q in
      hands_fit r (rw (← u.1) (announce_fit x b u.0 h))

  pub delivers-fit : {d f : Desk} {xs : List Delivery} → Delivers d xs f → Fit spec shard output waiting d → Fit spec shard output waiting f
  delivers-fit no_chunk h = h
  delivers-fit (chunk {x = x} l q r rest) h = delivers-fit rest (chunk-fit x l q r h)

-- of the opened shard, and of every state that calls left since then
module _ {spec : Sharding} {shard : ℕ} {out waiting : List ℕ} {xs : List Delivery} {d : Desk} (t : Takes spec shard out waiting xs d) where
  pub first-fit : Fit spec shard (length out) (length waiting) t.first
  first-fit =
      let u = open_told spec shard out waiting t.opens in
      let p = opens spec shard (length out) u.0 in
      let i = takes_idle t in
      let lr = length-replicate {A = ℕ} (index_length_of spec) 0 in
      let l : length (paste 0 (replicate (index_length_of spec) 0) out) ≡ length out = length-paste 0 (replicate (index_length_of spec) 0) out (omega (arith, p.room)) in
      rw i.state
      (record {
        of_spec = refl;
        of_shard = refl;
        outputs = refl;
        waits = refl;
        output-length = ap length i.output ∙ l;
        waiting-length = ap length i.waiting;
        sound = opened-sane spec shard (length out) (length waiting) t.first.waiting p;
        pairs = opened-announceable spec shard (length out) (length waiting) t.first.waiting;
        unclosed = refl;
      })

  pub takes_fit : Fit spec shard (length out) (length waiting) d
  takes_fit = delivers-fit t.delivers first-fit
