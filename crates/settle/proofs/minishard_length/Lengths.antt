-- The length of a settled minishard: sizes and leads, added up to the first length that is refused.
use Rattle.std.proofs.Common.{◌≡◌, ℕ, zero, suc, ◌+◌, ◌*◌, ◌%◌, ◌^◌, ◌<◌, ◌≤◌, Bool, false, List, length, take, drop, refl, ap, ◌∙◌, add-zero, zero-add, arith, w64, Fits, rules}
use Rattle.endian.specs.Little.{le_at}
use Rattle.endian.specs.Range.{sum_to}
use Rattle.endian.proofs.Ranges.{sum-none, sum_step}
use Rattle.sharding.specs.declared.Sharding.{Sharding}
use Rattle.shard.specs.index.Index.{sizes, start_steps, id_steps, id_at, start_at, chunk_at, most_shard_bytes}
use Rattle.shard.specs.Items.{item_at, lead_length_of, leads, NoLeads, MayLead, Led}
use Rattle.shard.proofs.Items.{item-size, item-lead}
use Rattle.settled_form.specs.Form.{chunks_length}
use Rattle.settled_form.specs.Content.{items_from, items_at}
use Rattle.settle.specs.minishard_length.Writing.{ReadableIndex, LeadsIn, minishard_length, capped}
use Rattle.settle.proofs.minishard_length.Walk.{Walk, walk_first, walk-chunk, walk_inside, walk-led, walk-fits, walk-next}

-- ---- the chunks are as long as their leads and sizes together

sum-next : (f : ℕ → ℕ) (i : ℕ) → sum_to f (suc i) ≡ sum_to f i + f i
unfolding sum_to
sum-next f i = refl

module _ (spec : Sharding) {d : List ℕ} {s n : ℕ} (r : ReadableIndex d s n) (before : (i : ℕ) → i < n → leads spec d s n i ≤ start_at (start_steps d s n) (sizes d s n) i) where
  lengths_from : (i k : ℕ) → i + k ≤ n → chunks_length (items_from spec d s n i k) + (sum_to (leads spec d s n) i + sum_to (sizes d s n) i) ≡ sum_to (leads spec d s n) (i + k) + sum_to (sizes d s n) (i + k)
  unfolding chunks_length items_from item_at
  lengths_from i zero l = rw (add-zero i) (omega arith)
  lengths_from i (suc k) l =
      let h = lengths_from (suc i) k (omega arith) in
      let f : i < n = omega arith in
      let a = item-lead spec d (id_at (id_steps d s) i) _ _ (r.inside i f) (before i f) in
      let b = item-size spec d (id_at (id_steps d s) i) _ _ (r.inside i f) in
      let x = sum-next (leads spec d s n) i in
      let y = sum-next (sizes d s n) i in
      let z : i + suc k ≡ suc i + k = omega arith in
      rw z (omega arith)

  pub lengths : chunks_length (items_at spec d s n) ≡ sum_to (leads spec d s n) n + sum_to (sizes d s n) n
  unfolding items_at
  lengths =
      let h = rw zero-add at (lengths_from 0 n (omega arith)) in
      omega (arith, sum-none (leads spec d s n), sum-none (sizes d s n))

-- ---- a loop that adds up numbers

pub record Adding (f : ℕ → ℕ) (n i sum : ℕ) : Type 0 where
  pub below : i ≤ n
  pub most : sum ≤ most_shard_bytes + 1
  pub left : sum ≡ capped (sum_to f i)

pub adding_first : (f : ℕ → ℕ) (n : ℕ) → Adding f n 0 0
adding_first f n = record { below = omega arith; most = omega arith; left = omega (arith, sum-none f) }

pub adding_next : {f : ℕ → ℕ} {n i sum : ℕ} → Adding f n i sum → i < n → (v : ℕ) {sum' : ℕ} → v ≡ f i → sum' ≡ capped (sum + v) → Adding f n (i + 1) sum'
adding_next {f} {n} {i} h l v e p =
    let q = h.left in
    let t = sum_step f i in
    record { below = omega arith; most = omega arith; left = omega arith }

pub added : {f : ℕ → ℕ} {n i sum : ℕ} → Adding f n i sum → n ≤ i → sum ≡ capped (sum_to f n)
added {f} {n} {i} h l = let e : i ≡ n = omega (arith, h.below) in h.left ∙ ap (λ (k : ℕ). capped (sum_to f k)) e

pub ruleset adding = (adding_first, adding_next, added, rules)

-- ---- leads, on a walk over the entries

pub record Leading (spec : Sharding) (d : List ℕ) (s n i from sum : ℕ) : Type 0 where
  pub walk : Walk d s n i from
  pub sums : Adding (leads spec d s n) n i sum

pub leading_first : (spec : Sharding) (d : List ℕ) (s n : ℕ) → Leading spec d s n 0 0 0
leading_first spec d s n = record { walk = walk_first d s n; sums = adding_first (leads spec d s n) n }

module _ {spec : Sharding} {d : List ℕ} {s n i from sum : ℕ} (r : ReadableIndex d s n) (h : Leading spec d s n i from sum) (l : i < n)
    (u v t : ℕ) (eu : u ≡ le_at 8 d (s + 8 * n + 8 * i)) (et : t ≡ (from + u) % 2 ^ 64) (ev : v ≡ le_at 8 d (s + 16 * n + 8 * i)) where
  pub lead-inside : t + v ≤ length d
  lead-inside = walk_inside r h.walk l u v t eu et ev

  pub lead-led : LeadsIn spec d s n → Led spec d t v
  lead-led = walk-led r h.walk l u v t eu et ev

  pub lead-fits : length d < 2 ^ 64 → Fits w64 (t + v)
  lead-fits = walk-fits r h.walk l u v t eu et ev

  pub leading_next : length d < 2 ^ 64 → (k : ℕ) {sum' : ℕ} → k ≡ lead_length_of spec (take v (drop t d)) → sum' ≡ capped (sum + k) → Leading spec d s n (i + 1) (t + v) sum'
  leading_next b k e p = record {
    walk = walk-next r h.walk l u v t eu et ev b;
    sums = adding_next h.sums l k (e ∙ rw (walk-chunk r h.walk l u v t eu et ev)) p;
  }

pub leading_most : {spec : Sharding} {d : List ℕ} {s n i from sum : ℕ} → Leading spec d s n i from sum → sum ≤ most_shard_bytes + 1
leading_most h = h.sums.most

pub led-added : {spec : Sharding} {d : List ℕ} {s n i from sum : ℕ} → Leading spec d s n i from sum → n ≤ i → sum ≡ capped (sum_to (leads spec d s n) n)
led-added h l = added h.sums l

pub ruleset leading = (leading_first, leading_next, lead-inside, lead-led, lead-fits, leading_most, led-added, rules)

-- ---- the whole length

no-sum : (f : ℕ → ℕ) (n : ℕ) → ((i : ℕ) → f i ≡ 0) → sum_to f n ≡ 0
unfolding sum_to
no-sum f zero z = refl
no-sum f (suc n) z = omega (arith, no-sum f n z, z n)

-- without leads
pub lengths_alone : (spec : Sharding) {d : List ℕ} {s n : ℕ} → ReadableIndex d s n → NoLeads spec → chunks_length (items_at spec d s n) ≡ sum_to (sizes d s n) n
lengths_alone spec {d} {s} {n} r none = let w = no-sum (leads spec d s n) n (λ i. none (chunk_at d s n i)) in omega (arith, lengths spec r (λ i l. rw (none (chunk_at d s n i)) (omega arith)))

module _ (spec : Sharding) {d : List ℕ} {s n : ℕ} (r : ReadableIndex d s n) {sizes' listed : ℕ} (e : sizes' ≡ capped (sum_to (sizes d s n) n)) (f : listed ≡ capped (sizes' + 24 * n)) where
  -- with leads
  pub length-led : LeadsIn spec d s n → {lead total : ℕ} → lead ≡ capped (sum_to (leads spec d s n) n) → total ≡ capped (listed + lead) → total ≡ capped (minishard_length spec d s n)
  length-led g {lead} {total} u v = step _ _ (24 * n) _ _ _ _ e f u v ∙ ap (λ (z : ℕ). capped (z + 24 * n)) (omega (arith, lengths spec r (λ i l. (g.led i l).before)))
    where
      step : (x y k a b c t : ℕ) → a ≡ capped x → b ≡ capped (a + k) → c ≡ capped y → t ≡ capped (b + c) → t ≡ capped (y + x + k)
      step x y k a b c t p q u v = omega arith

  -- without
  pub length-alone : {b : Bool} → MayLead spec b → b ≡ false → listed ≡ capped (minishard_length spec d s n)
  length-alone m z = omega (arith, lengths_alone spec r (m.none z))

pub ruleset totalling = (length-led, length-alone, rules)
