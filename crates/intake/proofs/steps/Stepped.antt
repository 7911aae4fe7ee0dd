-- What the calls' steps leave: each law has the shape of a need.
use Prim.Native.Nat.{ℕ, ◌+◌, ◌*◌, ◌^◌, ◌≤◌, ◌<◌}
use mathlib.Core.Path.{◌≡◌, refl, ◌∙◌}
use mathlib.Core.Bool.{Bool, true, false}
use mathlib.Core.List.{List}
use native.Mathlib.Omega.{arith}
use lib.Dec.{eqb}
use lib.ListN.{length, take, drop}
use lib.Seq.{take-length}
use mir.Val.{Fits}
use mir.Syntax.{w64}
use borrow.Author.Rules.{rules}
use borrow.Author.Tests.{eq-eqb, ne_eqb}
use Rattle.refusal.specs.Checks.{first_number}
use Rattle.endian.specs.Place.{paste}
use Rattle.sharding.specs.Specification.{allowed}
use Rattle.sharding.specs.placement.Place.{minishard_of}
use Rattle.shard.specs.File.{index_length_of}
use Rattle.intake.specs.waiting.Held.{pair, index_held}
use Rattle.intake.specs.declared.state.Intake.{Intake}
use Rattle.intake.specs.state.State.{Usable}
use Rattle.intake.specs.call_tests.Tests.{count_in}
use Rattle.intake.specs.admission.Refusals.{announce_checks}
use Rattle.intake.proofs.admission.Passing.{announces}
use Rattle.intake.specs.steps.Steps.{ended_left, turned, turned_left, announced}

-- ---- the end of a minishard

module _ (s : Intake) (o w : List ℕ) where
  pub end_none : s.count ≡ 0 → o ≡ ended_left s o w
  unfolding ended_left
  end_none e = rw (eq-eqb s.count 0 e)

  pub end-some : (s.count ≡ 0 → ⊥) → {at : ℕ} {o₁ o₂ : List ℕ} → at ≡ index_length_of s.spec + s.next
      → o₁ ≡ paste at (index_held s.begin w s.count) o
      → o₂ ≡ paste (16 * s.minishard) (pair s.next (s.next + 24 * s.count)) o₁
      → o₂ ≡ ended_left s o w
  unfolding ended_left
  end-some n e u v = rw (ne_eqb s.count 0 n, ← e, ← u) v

module _ (s : Intake) (m : ℕ) where
  pub turn-none : m ≡ s.minishard → s ≡ turned s m
  unfolding turned
  turn-none e = rw (eq-eqb _ _ e)

  pub turn-some : (m ≡ s.minishard → ⊥) → record {
    spec = s.spec;
    shard = s.shard;
    output = s.output;
    waiting = s.waiting;
    minishard = m;
    count = 0;
    last = s.last;
    begin = s.next + 24 * s.count;
    next = s.next + 24 * s.count;
    owed = s.owed;
    phase = s.phase;
  } ≡ turned s m
  unfolding turned
  turn-some e = rw (ne_eqb m s.minishard e)

  module _ (o w : List ℕ) where
    pub turn-none-left : m ≡ s.minishard → o ≡ turned_left s m o w
    unfolding turned_left
    turn-none-left e = rw (eq-eqb m s.minishard e)

    pub turn-some-left : (m ≡ s.minishard → ⊥) → {o₁ : List ℕ} → o₁ ≡ ended_left s o w → o₁ ≡ turned_left s m o w
    unfolding turned_left
    turn-some-left e h = rw (ne_eqb m s.minishard e) h

  -- the second buffer is used afresh
  pub turned-count : (turned s m).count ≡ count_in s m
  unfolding turned count_in
  turned-count = go (eqb m s.minishard) refl
    where
      go : (b : Bool) → eqb m s.minishard ≡ b → (turned s m).count ≡ count_in s m
      go true e = rw e
      go false e = rw e

pub ruleset ending = (end_none, end-some, turn-none, turn-none-left, turn-some-left, turn-some, rules)

-- ---- a part

pub take_left : (s : Intake) (b o : List ℕ) {at : ℕ} {o₁ : List ℕ} → at ≡ index_length_of s.spec + s.next
    → o₁ ≡ paste at (take (length b) (drop 0 b)) o → o₁ ≡ paste (index_length_of s.spec + s.next) b o
take_left s b o e h = h ∙ rw (e, take-length b)

pub ruleset taking = (take_left, rules)

-- ---- an announcement that is not refused

module _ (s : Intake) (id size o : ℕ) (w : List ℕ) (e : first_number (announce_checks s id size o w) ≡ 0) where
  pub admit_permitted : allowed s.spec ≡ true
  admit_permitted = (announces s id size o w e).usual.permitted

  pub admit_usable : Usable s o (length w)
  admit_usable = (announces s id size o w e).usual

  module _ {m : ℕ} {r : Intake} (f : m ≡ minishard_of s.spec id) (g : r ≡ turned s m) where
    pub admit_slot : 16 * r.count + 16 ≤ length w
    admit_slot =
        let h : r.count ≡ count_in s (minishard_of s.spec id) = rw (g, f) (turned-count s (minishard_of s.spec id)) in
        let a = announces s id size o w e in
        omega (arith, a.slot, a.usual.waits)

    pub admit_times : length w < 2 ^ 64 → Fits w64 (16 * r.count)
    admit_times l = record { fits = omega (arith, admit_slot) }

    pub admit_plus : length w < 2 ^ 64 → Fits w64 (r.count + 1)
    admit_plus l = record { fits = omega (arith, admit_slot) }

module _ (s : Intake) (id size : ℕ) {m : ℕ} (f : m ≡ minishard_of s.spec id) where
  pub admit_left : (o w : List ℕ) {o₁ : List ℕ} → o₁ ≡ turned_left s m o w → o₁ ≡ turned_left s (minishard_of s.spec id) o w
  admit_left o w h = rw f at h

  module _ {r : Intake} (g : r ≡ turned s m) where
    pub admit_waits : (w : List ℕ) {w₁ : List ℕ} → w₁ ≡ paste (16 * r.count) (pair id size) w → w₁ ≡ paste (16 * count_in s (minishard_of s.spec id)) (pair id size) w
    admit_waits w h = h ∙ rw (g, f, turned-count s (minishard_of s.spec id))

    pub admit_state : record {
      spec = r.spec;
      shard = r.shard;
      output = r.output;
      waiting = r.waiting;
      minishard = r.minishard;
      count = r.count + 1;
      last = id;
      begin = r.begin;
      next = r.next;
      owed = size;
      phase = r.phase;
    } ≡ announced s id size
    admit_state = rw (g, f)

pub ruleset admitting = (admit_permitted, admit_usable, admit_slot, admit_times, admit_plus, admit_left, admit_waits, admit_state, rules)
