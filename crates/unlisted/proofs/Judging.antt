-- The walk that goes with the check.
use Rattle.std.proofs.Common.{◌≡◌, ℕ, zero, suc, ◌+◌, ◌-◌, ◌/◌, ◌<◌, ◌≤◌, true, List, length, sym, refl, ap, ◌∙◌, ⊎_elim, eq-or-lt_of_le, arith, rules, eq-eqb, ne_eqb}
use Rattle.endian.specs.Range.{any_below}
use Rattle.sharding.specs.declared.Sharding.{Sharding}
use Rattle.sharding.specs.Specification.{minishard_count_of}
use Rattle.shard.specs.declared.index.Fault.{Fault}
use Rattle.shard.specs.index.Index.{entry_start_of, entry_end_of, most_shard_bytes}
use Rattle.shard.specs.index.Tests.{fault}
use Rattle.shard.specs.declared.ShardFault.{ShardFault}
use Rattle.shard.specs.Faults.{fault_of, or_later, first_fault, shard_fault}
use Rattle.shard.specs.File.{index_length_of}
use Rattle.shard.specs.Sound.{SoundMinishard}
use Rattle.shard.proofs.Faulted.{fault-empty, fault-entry}
use Rattle.shard.proofs.Judged.{passes-minishard}
use Rattle.unlisted.specs.declared.rising_walk.Run.{Run}
use Rattle.unlisted.specs.declared.checked_walk.Judged.{Judged}
use Rattle.unlisted.specs.stretches.Reading.{Ranged}
use Rattle.unlisted.specs.rising_walk.Order.{Extends, in_part, part_at}
use Rattle.unlisted.specs.Judging.{Steps, Skips, JudgedAs}
use Rattle.unlisted.proofs.stretches.Covering.{ranged_in, read_ranged}
use Rattle.unlisted.proofs.rising_walk.Runs.{extends_none}
use Rattle.unlisted.proofs.rising_walk.Parts.{over_none, all-next, tells-each}

-- ---- one minishard

pub step-faulty : (spec : Sharding) (shard : ℕ) (index d : List ℕ) (m : ℕ) {found : Fault} → found ≡ fault_of spec shard index d m → (found.number ≡ 0 → ⊥) → (run : Run) → run.gaps ≤ run.to
    → Steps spec shard index d m run (record { number = found.number; position = found.position; run = run })
step-faulty spec shard index d m f n run h = record { told = f; sums = h; walk = λ z. absurd (n z) }

module _ (spec : Sharding) (shard : ℕ) (index d : List ℕ) (m : ℕ) {s e : ℕ} (es : s ≡ entry_start_of index m) (ee : e ≡ entry_end_of index m) where
  step-empty : s ≡ e → (run : Run) → run.gaps ≤ run.to → Steps spec shard index d m run (record { number = 0; position = 0; run = run })
  step-empty q run h =
      record {
        told = fault-entry spec shard m index d es ee (fault-empty spec shard m (length index) d s e q);
        sums = h;
        walk = λ z. over_none true true spec index d m es ee q run h;
      }

  module _ {found : Fault} (f : found ≡ fault_of spec shard index d m) where
    module _ (z : found.number ≡ 0) where
      sound : SoundMinishard spec shard index d m
      sound = passes-minishard spec shard index d m (ap (λ (x : Fault). x.number) (sym f) ∙ z)

      pub step-ordered : s ≤ e
      step-ordered = rw (es, ee) sound.ordered

      pub step_ranged : length index ≡ index_length_of spec → m < minishard_count_of spec → length d ≤ most_shard_bytes → (entry_start_of index m ≡ entry_end_of index m → ⊥) → Ranged spec d s ((e - s) / 24)
      step_ranged h k l n = read_ranged spec index d m es ee (ranged_in sound (omega arith) l) (λ q. n (sym es ∙ q ∙ ee))

      pub step-walk : {run next : Run} → Extends (in_part true true spec d s e) run next → Steps spec shard index d m run (record { number = 0; position = found.position; run = next })
      step-walk x =
          record {
            told = ap (λ (k : ℕ). fault k found.position) (sym z) ∙ f;
            sums = x.sums;
            walk = λ q. rw (es, ee) at x;
          }

-- ---- empty minishards

pub record Passed (index : List ℕ) (m n j : ℕ) : Type 0 where
  pub from : m ≤ j
  pub below : j ≤ n
  pub empty : (i : ℕ) → m ≤ i → i < j → entry_start_of index i ≡ entry_end_of index i

pub skips_first : (index : List ℕ) (m n : ℕ) → m ≤ n → Passed index m n m
skips_first index m n h = record { from = omega arith; below = h; empty = λ j a b. absurd (omega arith) }

pub skips_next : {index : List ℕ} {m n j s e : ℕ} → Passed index m n j → j < n → s ≡ entry_start_of index j → e ≡ entry_end_of index j → s ≡ e → Passed index m n (j + 1)
skips_next {index} {m} {n} {j} h l es ee q =
    record { from = omega (arith, h.from); below = omega arith; empty = λ i a b. one i a (omega arith) }
  where
    one : (i : ℕ) → m ≤ i → i ≤ j → entry_start_of index i ≡ entry_end_of index i
    one i a b = ⊎_elim (λ k. ap (λ (x : ℕ). entry_start_of index x) k ∙ sym es ∙ q ∙ ee ∙ ap (λ (x : ℕ). entry_end_of index x) (sym k)) (λ k. h.empty i a k) (eq-or-lt_of_le b)

pub skips_found : {index : List ℕ} {m n j s e : ℕ} → Passed index m n j → s ≡ entry_start_of index j → e ≡ entry_end_of index j → (s ≡ e → ⊥) → Skips index m n j
skips_found h es ee ne = record { from = h.from; below = h.below; empty = h.empty; some = λ l q. ne (es ∙ q ∙ sym ee) }

pub skips_all : {index : List ℕ} {m n j : ℕ} → Passed index m n j → n ≤ j → Skips index m n n
skips_all h l = record { from = omega (arith, h.from, h.below); below = omega arith; empty = λ i a b. h.empty i a (omega arith); some = λ b q. omega arith }

pub ruleset skipping = (skips_first, skips_next, skips_found, skips_all, rules)

-- ---- the first fault, of those that are left

module _ (f : ℕ → Fault) (m n : ℕ) (l : m < n) where
  one_left : n - m ≡ suc (n - (m + 1))
  one_left = omega arith

  left-next : (f m).number ≡ 0 → first_fault f m (n - m) ≡ first_fault f (m + 1) (n - (m + 1))
  unfolding first_fault or_later
  left-next z = rw (one_left, eq-eqb (f m).number 0 z) (ap (λ (j : ℕ). first_fault f j (n - (m + 1))) (omega arith))

  left-found : ((f m).number ≡ 0 → ⊥) → first_fault f m (n - m) ≡ record { number = (f m).number; minishard = m; position = (f m).position }
  unfolding first_fault or_later
  left-found z = rw (one_left, ne_eqb (f m).number 0 z)

left-none : (f : ℕ → Fault) (m n : ℕ) → n ≤ m → first_fault f m (n - m) ≡ record { number = 0; minishard = 0; position = 0 }
unfolding first_fault
left-none f m n l = let z : n - m ≡ 0 = omega arith in rw z

-- ---- all minishards

pub record Judging (spec : Sharding) (shard : ℕ) (index d : List ℕ) (n m : ℕ) (at : Run) : Type 0 where
  pub below : m ≤ n
  pub count : n ≡ minishard_count_of spec
  pub left : shard_fault spec shard index d ≡ first_fault (fault_of spec shard index d) m (n - m)
  pub earlier : (j : ℕ) → j < m → (fault_of spec shard index d j).number ≡ 0
  pub walked : Extends (part_at true true spec index d m) (record { to = 0; gaps = 0; last = 0 }) at

-- where the loop stands: at a minishard that is not empty, or behind all
pub record JudgingAt (spec : Sharding) (shard : ℕ) (index d : List ℕ) (n m : ℕ) (at : Run) : Type 0 where
  pub judging : Judging spec shard index d n m at
  pub some : m < n → entry_start_of index m ≡ entry_end_of index m → ⊥

module _ (spec : Sharding) (shard : ℕ) (index d : List ℕ) where
  judging_first : {n : ℕ} → n ≡ minishard_count_of spec → Judging spec shard index d n 0 (record { to = 0; gaps = 0; last = 0 })
  unfolding shard_fault part_at any_below
  judging_first {n} e =
      record {
        below = omega arith;
        count = e;
        left = ap (λ (k : ℕ). first_fault (fault_of spec shard index d) 0 k) (omega arith);
        earlier = λ j l. absurd (omega arith);
        walked = extends_none (record { to = 0; gaps = 0; last = 0 }) (omega arith) (λ p. refl);
      }

  -- one more, which has no fault
  module _ {n m : ℕ} {at next : Run} (g : Judging spec shard index d n m at) (l : m < n) (z : (fault_of spec shard index d m).number ≡ 0)
      (x : Extends (in_part true true spec d (entry_start_of index m) (entry_end_of index m)) at next) where
    judging_one : Judging spec shard index d n (m + 1) next
    judging_one =
        record {
          below = omega arith;
          count = g.count;
          left = g.left ∙ left-next (fault_of spec shard index d) m n l z;
          earlier = λ j b. ⊎_elim (λ k. ap (λ (i : ℕ). (fault_of spec shard index d i).number) k ∙ z) (λ k. g.earlier j k) (eq-or-lt_of_le (omega arith));
          walked = all-next true true spec index d m g.walked x;
        }

  -- an empty one
  pub judging_empty : {n m s e : ℕ} {at : Run} → Judging spec shard index d n m at → m < n → s ≡ entry_start_of index m → e ≡ entry_end_of index m → s ≡ e → Judging spec shard index d n (m + 1) at
  judging_empty {n} {m} {s} {e} {at} g l es ee q =
      let t = step-empty spec shard index d m es ee q at g.walked.sums in
      judging_one g l (ap (λ (x : Fault). x.number) (sym t.told)) (t.walk refl)

  -- k empty ones more
  judging-empties : (k : ℕ) {n m : ℕ} {at : Run} → Judging spec shard index d n m at → m + k ≤ n → ((j : ℕ) → m ≤ j → j < m + k → entry_start_of index j ≡ entry_end_of index j)
      → Judging spec shard index d n (m + k) at
  judging-empties zero {n} {m} {at} g h e = let q : m + 0 ≡ m = omega arith in rw q g
  judging-empties (suc k) {n} {m} {at} g h e =
      let q : m + suc k ≡ m + k + 1 = omega arith in
      let b = judging-empties k g (omega arith) (λ j a c. e j a (omega arith)) in
      rw q (judging_empty b (omega arith) refl refl (e (m + k) (omega arith) (omega arith)))

  judging_skip : {n m r : ℕ} {at : Run} → Judging spec shard index d n m at → Skips index m n r → JudgingAt spec shard index d n r at
  judging_skip {n} {m} {r} {at} g h =
      let q : m + (r - m) ≡ r = omega (arith, h.from) in
      let w : Judging spec shard index d n r at = rw q at (judging-empties (r - m) g (omega (arith, h.below, h.from)) (λ j a b. h.empty j a (omega arith))) in
      record { judging = w; some = h.some }

  pub judging_start : {n : ℕ} {none : Run} → n ≡ minishard_count_of spec → none ≡ record { to = 0; gaps = 0; last = 0 } → Judging spec shard index d n 0 none
  judging_start {n} e z = rw z (judging_first e)

  module _ {n m : ℕ} {at : Run} (g : Judging spec shard index d n m at) (l : m < n) {r : Judged} (s : Steps spec shard index d m at r) where
    numbered : r.number ≡ (fault_of spec shard index d m).number
    numbered = ap (λ (x : Fault). x.number) s.told

    pub judging_turn : r.number ≡ 0 → Judging spec shard index d n (m + 1) r.run
    judging_turn z = judging_one g l (sym numbered ∙ z) (s.walk z)

    pub judged-found : (r.number ≡ 0 → ⊥) → JudgedAs spec shard index d r
    judged-found n =
        let e = g.left ∙ left-found (fault_of spec shard index d) m _ l (λ z. n (numbered ∙ z)) in
        record {
          number = numbered ∙ sym (ap (λ (x : ShardFault). x.number) e);
          position = ap (λ (x : Fault). x.position) s.told ∙ sym (ap (λ (x : ShardFault). x.position) e);
          sums = s.sums;
          each = λ z. absurd (n z);
          tells = λ z. absurd (n z);
        }

  pub judged-none : {n m : ℕ} {at : Run} → Judging spec shard index d n m at → n ≤ m → JudgedAs spec shard index d (record { number = 0; position = 0; run = at })
  judged-none {n} {m} g h =
      let e = g.left ∙ left-none (fault_of spec shard index d) m n h in
      let q : m ≡ minishard_count_of spec = omega (arith, g.below, g.count) in
      record {
        number = sym (ap (λ (x : ShardFault). x.number) e);
        position = sym (ap (λ (x : ShardFault). x.position) e);
        sums = g.walked.sums;
        each = λ z j l. g.earlier j (omega arith);
        tells = λ z. tells-each spec index d refl (rw q at g.walked);
      }

  -- the same where the loop stands
  pub start_at : {n m : ℕ} {none : Run} → n ≡ minishard_count_of spec → none ≡ record { to = 0; gaps = 0; last = 0 } → Skips index 0 n m → JudgingAt spec shard index d n m none
  start_at e z h = judging_skip (judging_start e z) h

  module _ {n m : ℕ} {at : Run} (t : JudgingAt spec shard index d n m at) (l : m < n) {r : Judged} (s : Steps spec shard index d m at r) where
    pub turn_at : r.number ≡ 0 → {k : ℕ} → Skips index (m + 1) n k → JudgingAt spec shard index d n k r.run
    turn_at z h = judging_skip (judging_turn t.judging l s z) h

    pub found_at : (r.number ≡ 0 → ⊥) → JudgedAs spec shard index d r
    found_at n = judged-found t.judging l s n

  pub none_at : {n m : ℕ} {at : Run} → JudgingAt spec shard index d n m at → n ≤ m → JudgedAs spec shard index d (record { number = 0; position = 0; run = at })
  none_at t h = judged-none t.judging h

pub ruleset judging = (start_at, turn_at, found_at, none_at, rules)
