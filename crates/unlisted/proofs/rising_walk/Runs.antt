-- Laws of a walk over ranges in rising order.
use Rattle.std.proofs.Common.{◌≡◌, ℕ, ◌+◌, ◌-◌, ◌<◌, ◌≤◌, Bool, true, false, ◌||◌, ltb, sym, refl, ap, ◌∙◌, arith, w64, Fits, ltb-false, ltb-true}
use mathlib.Core.Bool.{or-false}
use Rattle.bitmap.specs.Positions.{within, after, misses}
use Rattle.bitmap.proofs.Within.{or-first, or-second, within-yes, within-before, within-past, within-empty}
use Rattle.bitmap.proofs.Counts.{misses-none, misses-all, misses-same, misses-after, after-at}
use Rattle.unlisted.specs.declared.rising_walk.Run.{Run}
use Rattle.unlisted.specs.rising_walk.Order.{broken, Told, Tells, Extends}

-- tests that say the same
told_as : {f g : ℕ → Bool} {run : Run} → Told f run → ((p : ℕ) → f p ≡ g p) → Told g run
told_as {f} {g} {run} t e =
    record {
      count = t.count ∙ misses-same f g run.to (λ i l. e i);
      full = λ p h l. sym (e p) ∙ t.full p h l;
      past = λ p h. sym (e p) ∙ t.past p h;
      short = λ len h. t.short len (λ p q. h p (sym (e p) ∙ q));
    }

pub tells_as : {f g : ℕ → Bool} {run : Run} → Tells f run → ((p : ℕ) → f p ≡ g p) → Tells g run
tells_as t e = record { told = λ n. told_as (t.told n) e }

-- ---- one walk after another

pub extends_none : {f : ℕ → Bool} (run : Run) → run.gaps ≤ run.to → ((p : ℕ) → f p ≡ false) → Extends f run run
extends_none {f} run h e =
    record { sums = h; on = λ before t. tells_as t (λ p. sym (or-false (before p)) ∙ ap (λ (b : Bool). before p || b) (sym (e p))) }

pub extends_then : {f g h : ℕ → Bool} {a b c : Run} → Extends f a b → Extends g b c → ((p : ℕ) → f p || g p ≡ h p) → Extends h a c
extends_then {f} {g} {h} x y e =
    record {
      sums = y.sums;
      on = λ before t. tells_as (y.on (λ p. before p || f p) (x.on before t)) (λ p. join (before p) (f p) (g p) (h p) (e p));
    }
  where
    join : (a b c d : Bool) → b || c ≡ d → (a || b) || c ≡ a || d
    join true b c d e = refl
    join false b c d e = e

pub extends_as : {f g : ℕ → Bool} {a b : Run} → Extends f a b → ((p : ℕ) → f p ≡ g p) → Extends g a b
extends_as x e = record { sums = x.sums; on = λ before t. tells_as (x.on before t) (λ p. ap (λ (b : Bool). before p || b) (e p)) }

-- a walk that is broken has not to be ended
pub extends_broken : (f : ℕ → Bool) (a b : Run) → b.gaps ≤ b.to → b.last ≡ broken → Extends f a b
extends_broken f a b h e = record { sums = h; on = λ before t. record { told = λ n. absurd (n e) } }

-- ---- a range more

-- an empty one
pub range_none : (run : Run) (a b : ℕ) → run.gaps ≤ run.to → b ≤ a → Extends (within a b) run run
range_none run a b h l = extends_none run h (λ p. within-empty a b p l)

-- one that begins before the last gap's end
pub range-broken : (run : Run) (a b : ℕ) {next : Run} → next ≡ record { to = 0; gaps = 0; last = broken } → Extends (within a b) run next
range-broken run a b e = rw e (record { sums = omega arith; on = λ before t. record { told = λ n. absurd (n refl) } })

module _ (run : Run) (a b : ℕ) (l : a < b) where
  -- what was told before, of the walk's own positions and of all bounds
  module _ (before : ℕ → Bool) (t : Told before run) where
    abbrev both : ℕ → Bool
    both p = before p || within a b p

    bound : (len : ℕ) → ((p : ℕ) → both p ≡ true → p < len) → (run.to ≤ len) × (b ≤ len)
    bound len h =
        let k = h (b - 1) (or-second (before (b - 1)) (within a b (b - 1)) (within-yes a b (b - 1) (omega arith) (omega arith))) in
        (t.short len (λ p q. h p (or-first (before p) (within a b p) q)), omega arith)

    -- one behind a new gap
    module _ (g : run.to < a) where
      front : misses both run.to ≡ run.gaps
      front =
          misses-same both before run.to (λ i k. ap (λ (x : Bool). before i || x) (within-before a b i (omega arith)) ∙ or-false (before i))
          ∙ sym t.count

      gap : misses (after run.to both) (a - run.to) ≡ a - run.to
      gap =
          misses-all (after run.to both) (a - run.to)
          (λ i k. sym (after-at run.to both i)
          ∙ ap (λ (x : Bool). x || within a b (run.to + i)) (t.past (run.to + i) (omega arith)) ∙ within-before a b (run.to + i) (omega arith))

      own : misses (after a both) (b - a) ≡ 0
      own =
          misses-none (after a both) (b - a)
          (λ i k. sym (after-at a both i) ∙ or-second (before (a + i)) (within a b (a + i)) (within-yes a b (a + i) (omega arith) (omega arith)))

      all : run.gaps + (a - run.to) ≡ misses both b
      all =
          let x = misses-after both run.to (a - run.to) in
          let y = misses-after both a (b - a) in
          let u : misses both a ≡ misses both (run.to + (a - run.to)) = ap (misses both) (omega arith) in
          let v : misses both b ≡ misses both (a + (b - a)) = ap (misses both) (omega arith) in
          omega (arith, front, gap, own)

      told_gap : Told both (record { to = b; gaps = run.gaps + (a - run.to); last = a })
      told_gap =
          record {
            count = all;
            full = λ p h k. or-second (before p) (within a b p) (within-yes a b p h k);
            past = λ p h. ap (λ (x : Bool). x || within a b p) (t.past p (omega arith)) ∙ within-past a b p h;
            short = λ len h. (bound len h).1;
          }

    -- one that begins behind the last gap, not behind the walk
    module _ (h : run.last ≤ a) (k : a ≤ run.to) where
      same : (p : ℕ) → p < run.to → both p ≡ before p
      same p j = go (ltb p a) refl
        where
          go : (x : Bool) → ltb p a ≡ x → both p ≡ before p
          go true q = ap (λ (x : Bool). before p || x) (within-before a b p (ltb-true p a q)) ∙ or-false (before p)
          go false q =
              let w = t.full p (omega (arith, ltb-false p a q)) j in
              or-first (before p) (within a b p) w ∙ sym w

      still : misses both run.to ≡ run.gaps
      still = misses-same both before run.to (λ i j. same i j) ∙ sym t.count

      more : run.to < b → misses both b ≡ run.gaps
      more j =
          let x = misses-after both run.to (b - run.to) in
          let y : misses both b ≡ misses both (run.to + (b - run.to)) = ap (misses both) (omega arith) in
          let z : misses (after run.to both) (b - run.to) ≡ 0 =
          misses-none (after run.to both) (b - run.to)
          (λ i q. sym (after-at run.to both i) ∙ or-second (before (run.to + i)) (within a b (run.to + i)) (within-yes a b (run.to + i) (omega arith) (omega arith))) in
          omega (arith, still)

      told-on : run.to < b → Told both (record { to = b; gaps = run.gaps; last = run.last })
      told-on j =
          record {
            count = sym (more j);
            full = λ p q r. reach p q r (ltb p run.to) refl;
            past = λ p q. ap (λ (x : Bool). x || within a b p) (t.past p (omega arith)) ∙ within-past a b p q;
            short = λ len q. (bound len q).1;
          }
        where
          reach : (p : ℕ) → run.last ≤ p → p < b → (x : Bool) → ltb p run.to ≡ x → both p ≡ true
          reach p q r true e = or-first (before p) (within a b p) (t.full p q (ltb-true p run.to e))
          reach p q r false e = or-second (before p) (within a b p) (within-yes a b p (omega (arith, ltb-false p run.to e)) r)

      told_in : b ≤ run.to → Told both run
      told_in j =
          record {
            count = sym still;
            full = λ p q r. or-first (before p) (within a b p) (t.full p q r);
            past = λ p q. ap (λ (x : Bool). x || within a b p) (t.past p q) ∙ within-past a b p (omega arith);
            short = λ len q. (bound len q).0;
          }

  pub range_gap : {next : Run} → run.gaps ≤ run.to → Fits w64 b → run.last ≤ a → run.to < a
      → next ≡ record { to = b; gaps = run.gaps + (a - run.to); last = a } → Extends (within a b) run next
  range_gap s m h g e = rw e (record { sums = omega arith; on = λ before t. record { told = λ n. told_gap before (t.told (λ z. omega arith)) g } })

  pub range-on : {next : Run} → run.gaps ≤ run.to → run.last ≤ a → a ≤ run.to → run.to < b
      → next ≡ record { to = b; gaps = run.gaps; last = run.last } → Extends (within a b) run next
  range-on s h k j e = rw e (record { sums = omega arith; on = λ before t. record { told = λ n. told-on before (t.told n) h k j } })

  pub range-in : run.gaps ≤ run.to → run.last ≤ a → a ≤ run.to → b ≤ run.to → Extends (within a b) run run
  range-in s h k j = record { sums = s; on = λ before t. record { told = λ n. told_in before (t.told n) h k j } }
