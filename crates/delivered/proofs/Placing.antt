-- "Data goes to its final place in the output at once": what a part wrote stays where it is up to the close.
use Prim.Native.Nat.{ℕ, ◌+◌, ◌*◌, ◌^◌, ◌≤◌, ◌<◌}
use mathlib.Core.Path.{◌≡◌, refl, sym, ap, ◌∙◌}
use mathlib.Core.Bool.{Bool, true, false}
use mathlib.Core.List.{List, ◌++◌}
use native.Mathlib.Omega.{arith}
use lib.Dec.{eqb}
use lib.ListN.{length, take, drop, take-append-drop}
use lib.Seq.{drop-drop}
use borrow.Author.Tests.{eqb-false}
use Rattle.refusal.specs.Choice.{pick}
use Rattle.endian.specs.Place.{Holds, paste}
use Rattle.endian.proofs.Paste.{length-paste, paste-holds, paste-apart, paste_reach}
use Rattle.sharding.specs.declared.Sharding.{Sharding}
use Rattle.sharding.specs.placement.Place.{minishard_of}
use Rattle.shard.specs.File.{index_length_of}
use Rattle.intake.specs.waiting.Held.{pair, index_held}
use Rattle.intake.proofs.waiting.Writing.{length-index}
use Rattle.intake.proofs.waiting.Pairs.{length-pair}
use Rattle.intake.specs.declared.state.Intake.{Intake}
use Rattle.intake.specs.state.State.{Usable}
use Rattle.intake.proofs.call_tests.Passing.{usable}
use Rattle.std.specs.Prelude.{Ok}
use Rattle.intake.specs.steps.Steps.{ended_left, turned, turned_left}
use Rattle.intake.specs.Calls.{announce_answer, announce_left, part_answer, part_left, close_answer, close_left, closes_with}
use Rattle.intake.proofs.Answered.{announce-left, part_left_lem, close-left}
use Rattle.intake.proofs.Refused.{announce_told, part-told, close-told}
use Rattle.delivered.specs.Delivered.{Delivery, concat_parts}
use Rattle.delivered.specs.Runs.{Desk, after_announce, after_part, HandsOver, no_part, part, Delivers, no_chunk, chunk, Takes}
use Rattle.delivered.proofs.Handing.{handed}
use Rattle.delivered.proofs.Fitting.{Fit, fit_lengths, fit_usable, hands_fit, announce_fit, chunk-fit, delivers-fit, takes_fit}

-- ---- a write leaves what stands before it or behind it

-- what stands there already is written over by itself
holds-again : (o : List ℕ) (p : ℕ) (b : List ℕ) → Holds o p b → paste p b o ≡ o
unfolding paste
holds-again o p b h =
    ap (λ (x : List ℕ). take p o ++ (x ++ drop (p + length b) o)) (sym h.here)
    ∙ ap (λ (x : List ℕ). take p o ++ (take (length b) (drop p o) ++ x)) (sym (drop-drop (length b) p o))
    ∙ ap (◌++◌ (take p o)) (take-append-drop (length b) (drop p o)) ∙ take-append-drop p o

module _ (o : List ℕ) (p : ℕ) (b : List ℕ) (h : Holds o p b) (at : ℕ) (x : List ℕ) where
  behind-holds : p + length b ≤ at → at ≤ length o → Holds (paste at x o) p b
  behind-holds l k =
      let e : paste p b (paste at x o) ≡ paste at x o = paste-apart p b at x o l k ∙ ap (paste at x) (holds-again o p b h) in
      rw e at (paste-holds p b (paste at x o) (omega (arith, paste_reach at x o k)))

  before-holds : at + length x ≤ p → p ≤ length o → Holds (paste at x o) p b
  before-holds l k =
      let e : paste p b (paste at x o) ≡ paste at x o = sym (paste-apart at x p b o l k) ∙ ap (paste at x) (holds-again o p b h) in
      rw e at (paste-holds p b (paste at x o) (omega (arith, length-paste at x o (omega arith))))

-- ---- the steps of a call

module _ (s : Intake) (o w : List ℕ) (u : Usable s (length o) (length w)) (p : ℕ) (b : List ℕ) (low : index_length_of s.spec ≤ p)
    (high : p + length b ≤ index_length_of s.spec + s.next) (h : Holds o p b) where
  ended-holds : Holds (ended_left s o w) p b
  unfolding ended_left
  ended-holds = go (eqb s.count 0) refl
    where
      go : (c : Bool) → eqb s.count 0 ≡ c
          → Holds
          (pick c o
          (paste (16 * s.minishard) (pair s.next (s.next + 24 * s.count))
          (paste (index_length_of s.spec + s.next) (index_held s.begin w s.count) o)))
          p b
      go true e = h
      go false e =
          let z = eqb-false s.count 0 e in
          let li = length-index s.begin w s.count (omega arith) in
          let lo : length (paste (index_length_of s.spec + s.next) (index_held s.begin w s.count) o) ≡ length o =
          length-paste (index_length_of s.spec + s.next) (index_held s.begin w s.count) o (omega (arith, u.room, u.outputs)) in
          let g = behind-holds o p b h (index_length_of s.spec + s.next) (index_held s.begin w s.count) high (omega (arith, u.room, u.outputs)) in
          before-holds (paste (index_length_of s.spec + s.next) (index_held s.begin w s.count) o) p b g (16 * s.minishard)
          (pair s.next (s.next + 24 * s.count)) (omega (arith, u.below, length-pair s.next (s.next + 24 * s.count))) (omega (arith, u.room, u.outputs))

  turned-holds : (m : ℕ) → Holds (turned_left s m o w) p b
  unfolding turned_left
  turned-holds m = go (eqb m s.minishard)
    where
      go : (c : Bool) → Holds (pick c o (ended_left s o w)) p b
      go true = h
      go false = ended-holds

turned_further : (s : Intake) (m : ℕ) → s.next ≤ (turned s m).next
unfolding turned
turned_further s m = go (eqb m s.minishard) refl
  where
    go : (b : Bool) → eqb m s.minishard ≡ b → s.next ≤ (turned s m).next
    go true e = rw e (omega arith)
    go false e = rw e (omega arith)

-- ---- runs

-- the bytes b stand at p, behind the shard index and before the place of the next byte
record Stays (spec : Sharding) (p : ℕ) (b : List ℕ) (d : Desk) : Type 0 where
  low : index_length_of spec ≤ p
  high : p + length b ≤ index_length_of spec + d.state.next
  here : Holds d.output p b

module _ {spec : Sharding} {shard output waiting : ℕ} where
  ready : {d : Desk} → Fit spec shard output waiting d → Usable d.state (length d.output) (length d.waiting)
  ready {d} f = usable d.state (length d.output) (length d.waiting) d.waiting (fit_lengths f) (fit_usable f)

  module _ (p : ℕ) (b : List ℕ) where
    handed_stays : {d e : Desk} {parts : List (List ℕ)} → HandsOver d parts e → Fit spec shard output waiting d → Stays spec p b d → Stays spec p b e
    handed_stays {d} {e} {parts} r f h =
        let i = handed r in
        let u = ready f in
        let hi = h.high in
        let sp : index_length_of d.state.spec ≡ index_length_of spec = ap index_length_of f.of_spec in
        let nx : e.state.next ≡ d.state.next + length (concat_parts parts) = ap (λ (s : Intake). s.next) i.state in
        record {
          low = h.low;
          high = omega arith;
          here =
              rw i.output
              (behind-holds d.output p b h.here (index_length_of d.state.spec + d.state.next) (concat_parts parts) (omega arith) (omega (arith, u.room, u.outputs)));
        }

    chunk-stays : {d e : Desk} (x : Delivery) {s : Intake} → x.id < 2 ^ 64 → announce_answer d.state x.id x.size d.output d.waiting ≡ Ok s
        → HandsOver (after_announce d x.id x.size s) x.parts e → Fit spec shard output waiting d → Stays spec p b d → Stays spec p b e
    chunk-stays {d} x {s} l q r f h =
        let t = d.state in
        let m = minishard_of t.spec x.id in
        let u = announce_told t x.id x.size d.output d.waiting q in
        let o : turned_left t m d.output d.waiting ≡ announce_left t x.id x.size d.output d.waiting =
        announce-left t x.id x.size d.output d.waiting u.0 refl in
        let lo = h.low in
        let hi = h.high in
        let sp : index_length_of t.spec ≡ index_length_of spec = ap index_length_of f.of_spec in
        let nx : (turned t m).next ≡ s.next = ap (λ (y : Intake). y.next) u.1 in
        handed_stays r (rw (← u.1) (announce_fit x l u.0 f))
        (record {
          low = lo;
          high = omega (arith, turned_further t m);
          here = rw (← o) (turned-holds t d.output d.waiting (ready f) p b (omega arith) (omega arith) h.here m);
        })

    delivers-stays : {d f : Desk} {xs : List Delivery} → Delivers d xs f → Fit spec shard output waiting d → Stays spec p b d → Stays spec p b f
    delivers-stays no_chunk g h = h
    delivers-stays (chunk {x = x} l q r rest) g h = delivers-stays rest (chunk-fit x l q r g) (chunk-stays x l q r g h)

-- the bytes of a part stand, right after the call, at the place where they stand after the close, within the form
pub part_placed : {spec : Sharding} {shard : ℕ} {out waiting : List ℕ} {xs ys : List Delivery} {d e f : Desk} {bytes : List ℕ} {parts : List (List ℕ)} {s c : Intake} {n : ℕ}
    → Takes spec shard out waiting xs d → part_answer d.state bytes d.output d.waiting ≡ Ok s → HandsOver (after_part d bytes s) parts e → Delivers e ys f
    → close_answer f.state f.output f.waiting ≡ closes_with c n
    → Holds (part_left d.state bytes d.output d.waiting) (index_length_of spec + d.state.next) bytes
    × (Holds (close_left f.state f.output f.waiting) (index_length_of spec + d.state.next) bytes × (index_length_of spec + d.state.next + length bytes ≤ n))
part_placed {spec} {shard} {out} {waiting} {d = d} {e = e} {f = f} {bytes = bytes} {s = s} {n = n} t q r g z =
    let fd = takes_fit t in
    let u = part-told d.state bytes d.output d.waiting q in
    let sp : index_length_of d.state.spec ≡ index_length_of spec = ap index_length_of fd.of_spec in
    let p = index_length_of spec + d.state.next in
    let us = ready fd in
    let o : part_left d.state bytes d.output d.waiting ≡ paste p bytes d.output =
    sym (part_left_lem d.state bytes d.output d.waiting u.0 refl) ∙ ap (λ (k : ℕ). paste (k + d.state.next) bytes d.output) sp in
    let there : Holds (part_left d.state bytes d.output d.waiting) p bytes = rw o (paste-holds p bytes d.output (omega (arith, us.room, us.outputs))) in
    let nx : d.state.next + length bytes ≡ s.next = ap (λ (y : Intake). y.next) u.1 in
    let f₁ : Fit spec shard (length out) (length waiting) (after_part d bytes s) = hands_fit (part q no_part) fd in
    let f₂ = hands_fit r f₁ in
    let f₃ = delivers-fit g f₂ in
    let h₁ : Stays spec p bytes (after_part d bytes s) = record { low = omega arith; high = omega arith; here = there } in
    let h₃ = delivers-stays p bytes g f₂ (handed_stays p bytes r f₁ h₁) in
    let v = close-told f.state f.output f.waiting z in
    let w : ended_left f.state f.output f.waiting ≡ close_left f.state f.output f.waiting =
    close-left f.state f.output f.waiting v.0 refl in
    let lo = h₃.low in
    let hi = h₃.high in
    let sf : index_length_of f.state.spec ≡ index_length_of spec = ap index_length_of f₃.of_spec in (
      there,
      (rw (← w) (ended-holds f.state f.output f.waiting (ready f₃) p bytes (omega arith) (omega arith) h₃.here), omega (arith, v.1.1)),
    )
