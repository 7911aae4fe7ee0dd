-- Walks in rising order over parts of a shard: entries, minishards, and the orders in which writers lay them down.
use Rattle.std.proofs.Common.{◌≡◌, ℕ, zero, suc, ◌+◌, ◌-◌, ◌*◌, ◌/◌, ◌%◌, ◌^◌, ◌<◌, ◌≤◌, Bool, true, false, ◌||◌, List, take, drop, sym, refl, ◌∙◌, add-one, arith, rules}
use mathlib.Core.Bool.{or-false, or_comm}
use Rattle.refusal.specs.Choice.{pick}
use Rattle.endian.specs.Range.{sum_to, any_below}
use Rattle.endian.proofs.Ranges.{any_none}
use Rattle.bitmap.specs.Positions.{within}
use Rattle.bitmap.proofs.Within.{within-empty}
use Rattle.sharding.specs.declared.Sharding.{Sharding}
use Rattle.sharding.specs.Specification.{minishard_count_of}
use Rattle.shard.specs.index.Index.{entry_start_of, entry_end_of, entry_count}
use Rattle.unlisted.specs.declared.rising_walk.Run.{Run}
use Rattle.unlisted.specs.ranges.Covered.{in_items, in_minishard, covered_by, covered_in, covered_at}
use Rattle.unlisted.specs.declared.stretches.Stretch.{Stretch}
use Rattle.unlisted.specs.stretches.Stretches.{Stretched}
use Rattle.unlisted.specs.rising_walk.Order.{Tells, Extends, in_part, part_by, part_at}
use Rattle.unlisted.proofs.stretches.Covering.{items_none, each_ranged}
use Rattle.unlisted.proofs.rising_walk.Runs.{tells_as, extends_as, extends_none, extends_then, extends_broken}

-- ---- entries

-- at once where they stand in one run
pub stretch_over : {f : ℕ → Bool} {stretch : Stretch} {run next : Run} → Stretched f stretch → stretch.whole ≡ true
    → Extends (within stretch.from stretch.to) run next → Extends f run next
stretch_over t e x = extends_as x (λ p. sym (t.told e p))

-- one by one
pub items_first : (spec : Sharding) (d : List ℕ) (s n : ℕ) (run : Run) → run.gaps ≤ run.to → Extends (in_items spec d s n 0) run run
items_first spec d s n run h = extends_none run h (items_none spec d s n)

-- ---- a minishard

module _ (items rows : Bool) (spec : Sharding) (index d : List ℕ) (m : ℕ) {s e : ℕ} (es : s ≡ entry_start_of index m) (ee : e ≡ entry_end_of index m) where
  part_none : s ≡ e → (p : ℕ) → in_part items rows spec d (entry_start_of index m) (entry_end_of index m) p ≡ false
  unfolding in_part
  part_none q p =
      let z : entry_count (entry_start_of index m) (entry_end_of index m) ≡ 0 = omega arith in
      let x : pick items (entry_count (entry_start_of index m) (entry_end_of index m)) 0 ≡ 0 = pick_same items z in
      rw (x, items_none spec d (entry_start_of index m) (entry_count (entry_start_of index m) (entry_end_of index m)) p)
      (within-empty (entry_start_of index m) (pick rows (entry_end_of index m) (entry_start_of index m)) p (pick-most rows (omega arith)))
    where
      pick_same : (b : Bool) {x : ℕ} → x ≡ 0 → pick b x 0 ≡ 0
      pick_same true e = e
      pick_same false e = refl

      pick-most : (b : Bool) {x y : ℕ} → x ≤ y → pick b x y ≤ y
      pick-most true h = h
      pick-most false h = omega arith

  pub over_none : s ≡ e → (run : Run) → run.gaps ≤ run.to → Extends (in_part items rows spec d (entry_start_of index m) (entry_end_of index m)) run run
  over_none q run h = extends_none run h (part_none q)

  pub over-some : {run next : Run} → Extends (in_part items rows spec d s e) run next → Extends (in_part items rows spec d (entry_start_of index m) (entry_end_of index m)) run next
  over-some x = rw (es, ee) at x

-- as its items and itself are taken
pub part-some : (items rows : Bool) (spec : Sharding) (d : List ℕ) (s e : ℕ) {run at next : Run} {k to : ℕ} → k ≡ pick items ((e - s) / 24) 0 → to ≡ pick rows e s
    → Extends (in_items spec d s ((e - s) / 24) k) run at → Extends (within s to) at next → Extends (in_part items rows spec d s e) run next
unfolding in_part
part-some items rows spec d s e ek et x y = extends_then x y (λ p. rw (ek, et))

pub picked_most : (b : Bool) (n : ℕ) {k : ℕ} → k ≡ pick b n 0 → k ≤ n
picked_most true n e = omega arith
picked_most false n e = omega arith

-- ---- the minishards

pub all_first : (items rows : Bool) (spec : Sharding) (index d : List ℕ) (run : Run) → run.gaps ≤ run.to
    → Extends (part_at items rows spec index d 0) run run
unfolding part_at
all_first items rows spec index d run h = extends_none run h (λ p. any_none (part_by items rows spec index d p))

pub all-next : (items rows : Bool) (spec : Sharding) (index d : List ℕ) (m : ℕ) {run at next : Run} → Extends (part_at items rows spec index d m) run at
    → Extends (in_part items rows spec d (entry_start_of index m) (entry_end_of index m)) at next → Extends (part_at items rows spec index d (m + 1)) run next
unfolding part_at part_by any_below
all-next items rows spec index d m x y = extends_then x y (λ p. rw add-one)

pub all-last : (items rows : Bool) (spec : Sharding) (index d : List ℕ) (m : ℕ) {n : ℕ} {run at : Run} → n ≡ minishard_count_of spec
    → Extends (part_at items rows spec index d m) run at → m ≤ n → n ≤ m
    → Extends (part_at items rows spec index d (minishard_count_of spec)) run at
all-last items rows spec index d m c x g h = let e : m ≡ minishard_count_of spec = omega arith in rw e at x

pub ruleset covering = (all_first, all-next, all-last, each_ranged, extends_broken, rules)

-- ---- all of them, part by part

any-or : (f g h : ℕ → Bool) (n : ℕ) → ((m : ℕ) → f m || g m ≡ h m) → any_below n f || any_below n g ≡ any_below n h
unfolding any_below
any-or f g h zero e = refl
any-or f g h (suc n) e = mix (any_below n f) (f n) (any_below n g) (g n) ∙ rw (any-or f g h n e, e n)
  where
    mix : (a b c d : Bool) → (a || b) || (c || d) ≡ (a || c) || (b || d)
    mix true b c d = refl
    mix false true true d = refl
    mix false true false d = refl
    mix false false c d = refl

module _ (spec : Sharding) (index d : List ℕ) where
  whole_part : (p : ℕ) → part_at true true spec index d (minishard_count_of spec) p ≡ covered_at spec index d p
  unfolding part_at part_by in_part covered_at covered_in covered_by in_minishard
  whole_part p = refl

  rows-only : (s e p : ℕ) → in_part false true spec d s e p ≡ within s e p
  unfolding in_part
  rows-only s e p = rw (items_none spec d s (entry_count s e) p)

  items_only : (s e p : ℕ) → in_part true false spec d s e p ≡ in_items spec d s (entry_count s e) (entry_count s e) p
  unfolding in_part
  items_only s e p = rw (within-empty s s p (omega arith)) (or-false _)

  parts_items : (p : ℕ)
      → part_at true false spec index d (minishard_count_of spec) p || part_at false true spec index d (minishard_count_of spec) p ≡ covered_at spec index d p
  unfolding part_at part_by covered_at covered_in covered_by in_minishard
  parts_items p =
      any-or (part_by true false spec index d p) (part_by false true spec index d p) (covered_by spec index d p) (minishard_count_of spec)
      (λ m. rw (items_only (entry_start_of index m) (entry_end_of index m) p, rows-only (entry_start_of index m) (entry_end_of index m) p))

  parts-rows : (p : ℕ)
      → part_at false true spec index d (minishard_count_of spec) p || part_at true false spec index d (minishard_count_of spec) p ≡ covered_at spec index d p
  parts-rows p = or_comm (part_at false true spec index d (minishard_count_of spec) p) (part_at true false spec index d (minishard_count_of spec) p) ∙ parts_items p

-- a walk that begins with nothing
nothing : (run : Run) → run ≡ record { to = 0; gaps = 0; last = 0 } → Tells (λ p. false) run
unfolding sum_to
nothing run e =
    rw e
    (record {
      told = λ n. record { count = refl; full = λ p h l. absurd (omega arith); past = λ p h. refl; short = λ len h. omega arith };
    })

from_nothing : {f : ℕ → Bool} {run next : Run} → run ≡ record { to = 0; gaps = 0; last = 0 } → Extends f run next → Tells f next
from_nothing {run = run} e x = x.on (λ p. false) (nothing run e)

module _ (spec : Sharding) (index d : List ℕ) {none : Run} (z : none ≡ record { to = 0; gaps = 0; last = 0 }) where
  pub tells-each : {r : Run} → Extends (part_at true true spec index d (minishard_count_of spec)) none r → Tells (covered_at spec index d) r
  tells-each x = tells_as (from_nothing z x) (whole_part spec index d)

  pub tells-rows : {b r : Run} → Extends (part_at false true spec index d (minishard_count_of spec)) none b
      → Extends (part_at true false spec index d (minishard_count_of spec)) b r → Tells (covered_at spec index d) r
  tells-rows x y = from_nothing z (extends_then x y (parts-rows spec index d))

  pub tells_items : {b r : Run} → Extends (part_at true false spec index d (minishard_count_of spec)) none b
      → Extends (part_at false true spec index d (minishard_count_of spec)) b r → Tells (covered_at spec index d) r
  tells_items x y = from_nothing z (extends_then x y (parts_items spec index d))

pub sums_none : {run : Run} → run ≡ record { to = 0; gaps = 0; last = 0 } → run.gaps ≤ run.to
sums_none e = rw e (omega arith)
