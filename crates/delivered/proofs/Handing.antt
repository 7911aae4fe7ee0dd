-- Parts handed over in turn are one part.
use Prim.Native.Nat.{ℕ, ◌+◌, ◌-◌, ◌≤◌}
use mathlib.Core.Path.{◌≡◌, refl, sym, ap, ◌∙◌}
use mathlib.Core.List.{List}
use native.Mathlib.Omega.{arith}
use native.Mathlib.Nat.{add-zero, sub-zero}
use lib.ListN.{length, length-append}
use Rattle.endian.specs.Place.{paste}
use Rattle.endian.proofs.Paste.{paste-nil, paste-on}
use Rattle.shard.specs.File.{index_length_of}
use Rattle.intake.specs.declared.state.Intake.{Intake}
use Rattle.intake.proofs.admission.Passing.{hands}
use Rattle.intake.specs.steps.Steps.{taken}
use Rattle.intake.specs.Calls.{part_left}
use Rattle.intake.proofs.Answered.{part_left_lem}
use Rattle.intake.proofs.Refused.{part-told}
use Rattle.delivered.specs.Delivered.{concat_parts}
use Rattle.delivered.specs.Runs.{Desk, HandsOver, no_part, part}

taken_none : (s : Intake) → s ≡ taken s 0
taken_none s = rw (add-zero, sub-zero)

taken_more : (s : Intake) (a b : ℕ) → taken (taken s a) b ≡ taken s (a + b)
taken_more s a b =
    let e : s.next + a + b ≡ s.next + (a + b) = omega arith in
    let f : s.owed - a - b ≡ s.owed - (a + b) = omega arith in
    rw (e, f)

-- d, once the bytes were handed over, is e
pub record Handed (d : Desk) (bytes : List ℕ) (e : Desk) : Type 0 where
  pub state : e.state ≡ taken d.state (length bytes)
  pub output : e.output ≡ paste (index_length_of d.state.spec + d.state.next) bytes d.output
  pub waiting : e.waiting ≡ d.waiting
  pub due : length bytes ≤ d.state.owed

pub handed : {d e : Desk} {parts : List (List ℕ)} → HandsOver d parts e → Handed d (concat_parts parts) e
unfolding concat_parts
handed {d} no_part = record { state = taken_none d.state; output = sym (paste-nil _ d.output); waiting = refl; due = omega arith }
handed {d} {e} (part {bytes = bytes} {parts = parts} {s = s} q r) =
    let t = d.state in
    let u = part-told t bytes d.output d.waiting q in
    let p = hands t (length bytes) (length d.output) d.waiting u.0 in
    let at = index_length_of t.spec + t.next in
    let v : part_left t bytes d.output d.waiting ≡ paste at bytes d.output = sym (part_left_lem t bytes d.output d.waiting u.0 refl) in
    let i = handed r in
    let k = concat_parts parts in
    let room = p.usual.room in
    let du = p.due in
    let ou = p.usual.outputs in
    let w : e.state ≡ taken (taken t (length bytes)) (length k) = rw (← u.1) at i.state in
    let x : e.output ≡ paste (index_length_of t.spec + (t.next + length bytes)) k (paste at bytes d.output) = rw (← u.1, v) at i.output in
    let y : length k ≤ t.owed - length bytes = rw (← u.1) at i.due in
    record {
      state = w ∙ taken_more t (length bytes) (length k) ∙ ap (taken t) (sym (length-append bytes k));
      output = x ∙ paste-on at bytes k d.output (index_length_of t.spec + (t.next + length bytes)) (omega arith) (omega arith);
      waiting = i.waiting;
      due = omega (arith, length-append bytes k);
    }
