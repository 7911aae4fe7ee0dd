-- Laws of items that stand in one run.
use Rattle.std.proofs.Common.{◌≡◌, ℕ, zero, suc, ◌+◌, ◌-◌, ◌*◌, ◌%◌, ◌^◌, ◌<◌, ◌≤◌, Bool, true, false, ◌||◌, eqb, List, length, sym, refl, ap, ◌∙◌, ⊎_elim, true≢false, eq-or-lt_of_le, arith, eq-eqb, eqb-true}
use lib.Bits.{bit_or, or_add_and, and_le_l, and_le_r}
use Rattle.endian.specs.Little.{le_at}
use Rattle.endian.specs.Range.{sum_to, any_below}
use Rattle.endian.proofs.Ranges.{sum_step}
use Rattle.bitmap.specs.Positions.{within}
use Rattle.bitmap.proofs.Within.{within-empty, within_join}
use Rattle.sharding.specs.declared.Sharding.{Sharding}
use Rattle.shard.specs.index.Index.{start_steps, sizes, start_at, chunk_at}
use Rattle.shard.specs.Items.{leads, NoLeads, MayLead}
use Rattle.unlisted.specs.declared.stretches.Sums.{Sums}
use Rattle.unlisted.specs.declared.stretches.Stretch.{Stretch}
use Rattle.unlisted.specs.ranges.Covered.{item_start, in_item, in_items}
use Rattle.unlisted.specs.stretches.Reading.{Ranged}
use Rattle.unlisted.specs.stretches.Stretches.{Joined, Summed, Stretched, Next, OneRun, TellsRun}

-- ---- the sums

pub record Summing (starts size : ℕ → ℕ) (k i steps sum : ℕ) : Type 0 where
  pub from : 1 ≤ i
  pub below : i ≤ k
  pub total : sum ≡ sum_to size i % 2 ^ 64
  pub zero : steps ≡ 0 → Next starts i
  pub none : Next starts i → steps ≡ 0

pub summing_first : {starts : ℕ → ℕ} (d : List ℕ) (s n : ℕ) {k v : ℕ} → 0 < k → v ≡ le_at 8 d (s + 16 * n) → v < 2 ^ 64
    → Summing starts (sizes d s n) k 1 0 v
unfolding sum_to
summing_first d s n h e l =
    let z : le_at 8 d (s + 16 * n) ≡ le_at 8 d (s + 16 * n + 8 * 0) = ap (le_at 8 d) (omega arith) in
    record { from = omega arith; below = omega arith; total = omega arith; zero = λ q j a b. absurd (omega arith); none = λ h. refl }

pub joined_or : (a b : ℕ) → Joined a b (bit_or a b)
joined_or a b =
    record {
      first = λ e. omega (arith, or_add_and a b, and_le_r a b);
      second = λ e. omega (arith, or_add_and a b, and_le_l a b);
      neither = λ p q. omega (arith, or_add_and a b);
    }

pub summing_next : (d : List ℕ) (s n : ℕ) {k i steps sum u v w t : ℕ} → Summing (start_steps d s n) (sizes d s n) k i steps sum → i < k
    → u ≡ le_at 8 d (s + 8 * n + 8 * i) → v ≡ le_at 8 d (s + 16 * n + 8 * i) → Joined steps u w → t ≡ (sum + v) % 2 ^ 64
    → Summing (start_steps d s n) (sizes d s n) k (i + 1) w t
summing_next d s n {k} {i} {steps} {sum} {u} {v} h l eu ev o et =
    record {
      from = omega arith;
      below = omega arith;
      total = omega (arith, h.total, sum_step (sizes d s n) i);
      zero = λ q j a b. one (o.first q) (o.second q) j a (omega arith);
      none = λ g. o.neither (h.none (λ j a b. g j a (omega arith))) (eu ∙ g i h.from (omega arith));
    }
  where
    one : steps ≡ 0 → u ≡ 0 → (j : ℕ) → 1 ≤ j → j ≤ i → start_steps d s n j ≡ 0
    one p q j a b = ⊎_elim (λ e. ap (start_steps d s n) e ∙ sym eu ∙ q) (λ m. h.zero p j a m) (eq-or-lt_of_le b)

pub summing_last : {starts size : ℕ → ℕ} {k i steps sum : ℕ} → Summing starts size k i steps sum → k ≤ i
    → Summed starts size k (record { steps = steps; sizes = sum })
summing_last {starts} {size} {k} {i} h l =
    let e : i ≡ k = omega (arith, h.below) in
    record { total = h.total ∙ ap (λ (j : ℕ). sum_to size j % 2 ^ 64) e; zero = λ q j a b. h.zero q j a (omega arith); none = λ g. h.none (λ j a b. g j a (omega arith)) }

-- ---- the run

module _ {spec : Sharding} {d : List ℕ} {s n k : ℕ} (r : Ranged spec d s n) (h : k ≤ n) (free : NoLeads spec)
    (z : Next (start_steps d s n) k) (f : start_steps d s n 0 < 2 ^ 64) where
  -- where the first i of them end
  abbrev upto : ℕ → ℕ
  upto i = start_steps d s n 0 + sum_to (sizes d s n) i

  steps-sum : (i : ℕ) → i < k → sum_to (start_steps d s n) (suc i) ≡ start_steps d s n 0
  unfolding sum_to
  steps-sum zero l = omega arith
  steps-sum (suc i) l = omega (arith, steps-sum i (omega arith), z (suc i) (omega arith) l)

  start_is : (i : ℕ) → i < k → upto i < 2 ^ 64 → start_at (start_steps d s n) (sizes d s n) i ≡ upto i
  unfolding start_at
  start_is i l m = omega (arith, steps-sum i l)

  ends_in : (i : ℕ) → i < k → upto (suc i) ≤ length d
  unfolding sum_to
  ends_in zero l = omega (arith, start_is zero l (omega arith), r.inside zero (omega arith))
  ends_in (suc i) l =
      let e = ends_in i (omega arith) in
      omega (arith, start_is (suc i) l (omega (arith, r.short)), r.inside (suc i) (omega arith))

  small : (i : ℕ) → i < k → upto i < 2 ^ 64
  unfolding sum_to
  small i l = omega (arith, ends_in i l, r.short)

  item-is : (i p : ℕ) → i < k → in_item spec d s n p i ≡ within (upto i) (upto (suc i)) p
  unfolding in_item item_start sum_to
  item-is i p l =
      let e = start_is i l (small i l) in
      let a : start_at (start_steps d s n) (sizes d s n) i - leads spec d s n i ≡ upto i = omega (arith, free (chunk_at d s n i)) in
      let b : start_at (start_steps d s n) (sizes d s n) i + sizes d s n i ≡ start_steps d s n 0 + (sum_to (sizes d s n) i + sizes d s n i) = omega arith in
      rw (a, b)

  run_is : (i p : ℕ) → i ≤ k → in_items spec d s n i p ≡ within (start_steps d s n 0) (upto i) p
  unfolding in_items any_below sum_to
  run_is zero p l = sym (within-empty (start_steps d s n 0) (upto 0) p (omega arith))
  run_is (suc i) p l =
      ap (λ (b : Bool). b || in_item spec d s n p i) (run_is i p (omega arith))
      ∙ ap (λ (b : Bool). within (start_steps d s n 0) (upto i) p || b) (item-is i p l)
      ∙ within_join (start_steps d s n 0) (upto i) (upto (suc i)) p (omega arith) (omega arith)

pub stretch_none : {test : ℕ → Bool} {stretch : Stretch} → stretch.whole ≡ false → Stretched test stretch
stretch_none e = record { told = λ t. absurd (true≢false (sym t ∙ e)) }

pub stretch_told : {spec : Sharding} {b : Bool} {d : List ℕ} {s n k from to : ℕ} {sums : Sums} → Ranged spec d s n → k ≤ n → (k ≡ 0 → ⊥)
    → MayLead spec b → b ≡ false
    → Summed (start_steps d s n) (sizes d s n) k sums → from ≡ le_at 8 d (s + 8 * n) → from < 2 ^ 64 → to ≡ (from + sums.sizes) % 2 ^ 64
    → Stretched (in_items spec d s n k) (record { whole = eqb sums.steps 0; from = from; to = to })
stretch_told {spec} {b} {d} {s} {n} {k} {from} {to} {sums} r h m may e sum ef lf et = record { told = λ t p. go (eqb-true sums.steps 0 t) p }
  where
    first : from ≡ start_steps d s n 0
    first = ef ∙ ap (le_at 8 d) (omega arith)

    last : sums.steps ≡ 0 → to ≡ start_steps d s n 0 + sum_to (sizes d s n) k
    last q =
        let x = ends_in r h (may.none e) (sum.zero q) (omega (arith, first)) (k - 1) (omega arith) in
        let y : sum_to (sizes d s n) (suc (k - 1)) ≡ sum_to (sizes d s n) k = ap (sum_to (sizes d s n)) (omega arith) in
        omega (arith, first, sum.total, r.short)

    go : sums.steps ≡ 0 → (p : ℕ) → in_items spec d s n k p ≡ within from to p
    go q p = run_is r h (may.none e) (sum.zero q) (omega (arith, first)) k p (omega arith) ∙ rw (first, last q)

-- ---- when it is told

module _ {spec : Sharding} {starts : ℕ → ℕ} {k : ℕ} where
  no_run : {w : Bool} → w ≡ false → (OneRun spec starts k → ⊥) → TellsRun spec starts k w
  no_run e n = record { yes = λ t. absurd (true≢false (sym t ∙ e)); all = λ o. absurd (n o) }

  pub run_mesh : {b w : Bool} → MayLead spec b → b ≡ true → w ≡ false → TellsRun spec starts k w
  run_mesh may e q = no_run q (λ o. true≢false (sym e ∙ may.mesh ∙ o.volume))

  pub run_empty : {w : Bool} → k ≡ 0 → w ≡ false → TellsRun spec starts k w
  run_empty z q = no_run q (λ o. omega (arith, o.some))

  pub run_told : {size : ℕ → ℕ} {b : Bool} {sums : Sums} → (k ≡ 0 → ⊥) → MayLead spec b → b ≡ false → Summed starts size k sums
      → TellsRun spec starts k (eqb sums.steps 0)
  run_told {sums = sums} m may e sum =
      record {
        yes = λ t. record { volume = sym may.mesh ∙ e; some = omega arith; next = sum.zero (eqb-true sums.steps 0 t) };
        all = λ o. eq-eqb sums.steps 0 (sum.none o.next);
      }
