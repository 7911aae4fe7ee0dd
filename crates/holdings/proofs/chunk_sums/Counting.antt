-- Counts and sizes, added up.
use Prim.Native.Nat.{ℕ, ◌+◌, ◌*◌, ◌-◌, ◌/◌, ◌≤◌, ◌<◌}
use mathlib.Core.Path.{◌≡◌, sym, ap, ◌∙◌}
use mathlib.Core.Bool.{true, false}
use mathlib.Core.List.{List}
use native.Mathlib.Omega.{arith}
use borrow.Author.Rules.{rules}
use borrow.Author.Tests.{lt-ltb, le-ltb}
use mir.Val.{Fits}
use mir.Syntax.{w64}
use lib.ListN.{length}
use Rattle.endian.specs.Little.{le_at}
use Rattle.endian.specs.Range.{sum_to}
use Rattle.endian.proofs.Ranges.{sum-none, sum_step, sum_grows}
use Rattle.shard.specs.index.Index.{entry_start_of, entry_end_of, sizes}
use Rattle.unlisted.specs.ranges.Ranges.{count_in}
use Rattle.holdings.specs.chunk_sums.Reading.{Sized, SizedIn, SizedParts, Few}
use Rattle.holdings.specs.chunk_sums.Totals.{sizes_in, most_total, passes, total_of}

-- ---- a loop that adds up numbers, none of them above 2^30

pub record Adding (f : ℕ → ℕ) (n i sum : ℕ) : Type 0 where
  pub below : i ≤ n
  pub so : sum ≡ sum_to f i
  pub most : sum ≤ 1073741824 * i

pub adding_first : (f : ℕ → ℕ) (n : ℕ) → Adding f n 0 0
adding_first f n = record { below = omega arith; so = sum-none f; most = omega arith }

module _ {f : ℕ → ℕ} {n i sum : ℕ} (h : Adding f n i sum) where
  fits : i < n → n ≤ 1073741824 → {v : ℕ} → v ≤ 1073741824 → Fits w64 (sum + v)
  fits l k b = omega (arith, h.most)

  next : i < n → {v : ℕ} → v ≡ f i → v ≤ 1073741824 → Adding f n (i + 1) (sum + v)
  next l e b = record { below = omega arith; so = omega (arith, h.so, sum_step f i); most = omega (arith, h.most) }

  pub added : n ≤ i → sum ≡ sum_to f n
  added l = let e : i ≡ n = omega (arith, h.below) in h.so ∙ ap (sum_to f) e

-- chunks
module _ {index : List ℕ} {n m sum : ℕ} (few : Few index n) (h : Adding (count_in index) n m sum) (l : m < n) where
  pub count-entry : 16 * m + 16 ≤ length index
  count-entry = few.entry m l

  module _ {e s : ℕ} (ee : e ≡ entry_end_of index m) (es : s ≡ entry_start_of index m) where
    pub count-ordered : s ≤ e
    count-ordered = rw (ee, es) (few.ordered m l)

    here : (e - s) / 24 ≡ count_in index m
    here = rw (ee, es)

    pub count_fits : Fits w64 (sum + (e - s) / 24)
    count_fits = fits h l (omega (arith, few.few)) (omega (arith, here, few.each m l))

    pub count_next : Adding (count_in index) n (m + 1) (sum + (e - s) / 24)
    count_next = next h l here (omega (arith, here, few.each m l))

pub ruleset chunks = (adding_first, added, count-entry, count-ordered, count_fits, count_next, rules)

-- sizes
module _ {d : List ℕ} {s n i sum : ℕ} (z : Sized d s n) (h : Adding (sizes d s n) n i sum) (l : i < n) {v : ℕ} (e : v ≡ le_at 8 d (s + 16 * n + 8 * i)) where
  pub size_fits : Fits w64 (sum + v)
  size_fits = fits h l (omega (arith, z.whole, z.short)) (omega (arith, z.each i l, z.short))

  pub size-next : Adding (sizes d s n) n (i + 1) (sum + v)
  size-next = next h l e (omega (arith, z.each i l, z.short))

pub sized_inside : {d : List ℕ} {s n : ℕ} → Sized d s n → s + 24 * n ≤ length d
sized_inside z = z.whole

pub ruleset sizing = (adding_first, added, sized_inside, size_fits, size-next, rules)

-- ---- a minishard

module _ {index d : List ℕ} {m s e : ℕ} (z : SizedIn index d m) (es : s ≡ entry_start_of index m) (ee : e ≡ entry_end_of index m) where
  pub none-sized : s ≡ e → 0 ≡ sizes_in index d m
  unfolding sizes_in
  none-sized q =
      let n : count_in index m ≡ 0 = omega (arith, es, ee) in
      rw n (sum-none (sizes d (entry_start_of index m) 0))

  pub sized-ordered : s ≤ e
  sized-ordered = rw (es, ee) z.ordered

  module _ (q : s ≡ e → ⊥) where
    pub sized-here : Sized d s ((e - s) / 24)
    sized-here = rw (es, ee) (z.some (λ p. q (es ∙ p ∙ sym ee)))

    pub sized-sum : {r : ℕ} → r ≡ sum_to (sizes d s ((e - s) / 24)) ((e - s) / 24) → r ≡ sizes_in index d m
    unfolding sizes_in
    sized-sum p = rw (es, ee) at p

pub sized-entry : {index d : List ℕ} {m : ℕ} → SizedIn index d m → 16 * m + 16 ≤ length index
sized-entry z = z.entry

pub ruleset one = (none-sized, sized-ordered, sized-here, sized-sum, sized-entry, rules)

-- ---- all minishards, up to a sum that passes

pub record Totalling (f : ℕ → ℕ) (n m sum : ℕ) : Type 0 where
  pub below : m ≤ n
  pub so : sum ≡ sum_to f m
  pub most : sum ≤ most_total

pub total_first : (f : ℕ → ℕ) (n : ℕ) → Totalling f n 0 0
total_first f n = record { below = omega arith; so = sum-none f; most = omega arith }

module _ {f : ℕ → ℕ} {n m sum : ℕ} (h : Totalling f n m sum) where
  pub total-most : sum ≤ most_total
  total-most = h.most

  module _ (l : m < n) {v : ℕ} (e : v ≡ f m) where
    pub total_passed : most_total - sum < v → record { passed = true; sum = 0 } ≡ total_of (sum_to f n)
    unfolding total_of passes
    total_passed k =
        let g = sum_grows f (m + 1) n (omega arith) in
        rw (lt-ltb most_total (sum_to f n) (omega (arith, h.so, h.most, sum_step f m)))

    module _ (k : v ≤ most_total - sum) where
      pub total-fits : Fits w64 (sum + v)
      total-fits = omega (arith, h.most)

      pub total-next : Totalling f n (m + 1) (sum + v)
      total-next = record { below = omega arith; so = omega (arith, h.so, sum_step f m); most = omega (arith, h.most) }

  pub total-done : n ≤ m → record { passed = false; sum = sum } ≡ total_of (sum_to f n)
  unfolding total_of passes
  total-done l =
      let e : m ≡ n = omega (arith, h.below) in
      let q : sum ≡ sum_to f n = h.so ∙ ap (sum_to f) e in
      rw (← q, le-ltb most_total sum h.most)

pub parts-one : {index d : List ℕ} {n m : ℕ} → SizedParts index d n → m < n → SizedIn index d m
parts-one z l = z.each _ l

pub ruleset totalling = (total_first, total-most, total-fits, total_passed, total-next, total-done, parts-one, rules)
