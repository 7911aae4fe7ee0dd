-- What holds at the head of a loop over the entries of a readable minishard: the sums of the steps and sizes passed, modulo 2^64.
use Rattle.std.proofs.Common.{◌≡◌, ℕ, ◌+◌, ◌%◌, ◌^◌, ◌<◌, ◌≤◌, List, ap, ◌∙◌, arith, w64, Fits}
use Rattle.endian.specs.Range.{sum_to}
use Rattle.endian.proofs.Ranges.{sum-none, sum_step}
use Rattle.shard.specs.index.Index.{start_steps, sizes, id_at, start_at}
use Rattle.shard.specs.index.Reading.{Readable}

-- a sum modulo 2^64 goes on
wrap_on : (s x : ℕ) {cur u : ℕ} → cur ≡ s % 2 ^ 64 → u ≡ (cur + x) % 2 ^ 64 → u ≡ (s + x) % 2 ^ 64
wrap_on s x e p = omega arith

wrap_same : {a b : ℕ} → a ≡ b → a % 2 ^ 64 ≡ b % 2 ^ 64
wrap_same e = ap (λ (k : ℕ). k % 2 ^ 64) e

pub record Tally (f g h : ℕ → ℕ) (n i cur end : ℕ) : Type 0 where
  pub within : i ≤ n
  pub ids : cur ≡ sum_to f i % 2 ^ 64
  pub place : end ≡ (sum_to g i + sum_to h i) % 2 ^ 64

pub tally-start : (f g h : ℕ → ℕ) (n : ℕ) → Tally f g h n 0 0 0
tally-start f g h n =
    let a = sum-none f in
    let b = sum-none g in
    let c = sum-none h in
    record { within = omega arith; ids = omega arith; place = omega arith }

-- the id and the start of the next entry, and the sums past it
module _ {f g h : ℕ → ℕ} {n i cur end : ℕ} (r : Tally f g h n i cur end) where
  pub tally-id : {x u : ℕ} → x ≡ f i → u ≡ (cur + x) % 2 ^ 64 → u ≡ id_at f i
  unfolding id_at sum_to
  tally-id e p = let k = r.ids in omega arith

  pub tally-place : {y v : ℕ} → y ≡ g i → v ≡ (end + y) % 2 ^ 64 → v ≡ start_at g h i
  unfolding start_at sum_to
  tally-place e p = let k = r.place in omega arith

  pub tally-turn : i < n → {x y z u v w : ℕ} → x ≡ f i → u ≡ (cur + x) % 2 ^ 64 → y ≡ g i → v ≡ (end + y) % 2 ^ 64 → z ≡ h i → w ≡ (v + z) % 2 ^ 64 → Tally f g h n (i + 1) u w
  tally-turn l {x} {y} {z} e p d q c o =
      record { within = omega arith; ids = wrap_on (sum_to f i) x r.ids p ∙ wrap_same (omega (arith, sum_step f i)); place = wrap_on (sum_to g i + sum_to h i + y) z (wrap_on (sum_to g i + sum_to h i) y r.place q) o ∙ wrap_same (omega (arith, sum_step g i, sum_step h i)) }

-- a start lies within the data, so that its place in the file fits
pub tally-place-fits : (base : ℕ) {d : List ℕ} {p n i cur end : ℕ} {f : ℕ → ℕ} → Readable base d p n → Tally f (start_steps d p n) (sizes d p n) n i cur end → i < n
    → {y v : ℕ} → y ≡ start_steps d p n i → v ≡ (end + y) % 2 ^ 64 → Fits w64 (base + v)
tally-place-fits base w r l e p = record { fits = omega (arith, w.inside _ l, w.near, w.short, tally-place r e p) }
